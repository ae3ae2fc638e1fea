-- What a command line asks for, in the terms of the parser that reads it.
use Rattle.std.specs.Prelude.{◌≡◌, ◌≢◌, ◌⊎◌, ◌<◌, ◌^◌, ⊤, ℕ, pos, List, [], ◌∷◌, Bool, Option, Some, None, true, false, codes, option_and_then, option_map}
use Rattle.std.specs.Str.Parse.{IsNumeral, digits_value, without_leading_plus}
use Rattle.clap.specs.Kinds.{Kinds}
use Rattle.clap.specs.Walk.{Rule, Text, first_of, one_of}
use Rattle.clap.specs.declared.builder.value_parser.ValueParser.{ValueParser}
use Rattle.clap.specs.declared.builder.value_parser.ValueParser.TheVariants as vp
use Rattle.clap.specs.Simple.{App, Shape, new_shape, new_rule, with_subcommand, subcommand_of}
use Rattle.clap.specs.Faults.{fault_of}
use Rattle.clap.specs.declared.builder.action.ArgAction.TheVariants.{SetTrue}
use Rattle.clap.specs.declared.error.kind.ErrorKind.{ErrorKind}
use Rattle.clap.specs.declared.error.kind.ErrorKind.TheVariants.{DisplayHelp, DisplayVersion}
use Rattle.tmem_args.specs.declared.args.Asked.{Asked}
use Rattle.tmem_args.specs.declared.args.Asked.TheVariants.{Run, Threads, Bench, Show, Init, Serve, Check}
use Rattle.tmem_args.specs.declared.args.Showing.{Showing}
use Rattle.tmem_args.specs.declared.args.Making.{Making}
use Rattle.tmem_args.specs.declared.args.Serving.{Serving}
use Rattle.tmem_args.specs.declared.args.Timing.{Timing}
use Rattle.tmem_args.specs.declared.args.Invocation.{Invocation}

-- the path of a script
abbrev pub script_word : Rule
script_word = record (new_rule (codes "script")) { value_names = 1 }

-- `--disk`, with the path of a store
abbrev pub disk_words : Rule
disk_words = record (new_rule (codes "disk")) { long = Some (codes "disk"); value_names = 1 }

-- a word that is given or not
abbrev pub flag_word : Text → Rule
flag_word id = record (new_rule id) { long = Some id; action = Some SetTrue }

-- `--explain`
abbrev pub explain_words : Rule
explain_words = flag_word (codes "explain")

-- `run`, with each of them or without
abbrev pub run_words : Shape
run_words = record (new_shape (codes "run")) { rules = script_word ∷ disk_words ∷ explain_words ∷ [] }

-- an argument that has to be there, of which a parser says what it may be
abbrev pub parsed_word : Text → ValueParser → Rule
parsed_word id parser = record (new_rule id) { value_names = 1; parser = Some parser; required = true }

-- a number from 1 up to this one, which has to be there
abbrev pub number_word : Text → ℕ → Rule
number_word id most = parsed_word id (vp.Signed (pos 1) (pos most))

-- `threads`, with how many there are and how often each of them adds, and maybe with the path of a store
abbrev pub threads_words : Shape
threads_words =
    record (new_shape (codes "threads")) { rules = number_word (codes "workers") 16 ∷ number_word (codes "turns") 1000 ∷ disk_words ∷ explain_words ∷ [] }

-- an option of this name, of whose value a parser says what it may be
abbrev pub parsed_option : Text → ValueParser → Rule
parsed_option id parser = record (new_rule id) { long = Some id; value_names = 1; parser = Some parser }

-- an option of this name, with a number between these two
abbrev pub option_words : Text → ℕ → ℕ → Rule
option_words id least most = parsed_option id (vp.Signed (pos least) (pos most))

-- `bench`, maybe with the path of a store, how many milliseconds a job goes on, and which one is wanted
abbrev pub bench_words : Shape
bench_words =
    record (new_shape (codes "bench")) { rules = disk_words ∷ option_words (codes "millis") 10 60000 ∷ option_words (codes "job") 1 48 ∷ explain_words ∷ [] }

-- the path of a store, which has to be there
abbrev pub store_word : Rule
store_word = record (new_rule (codes "store")) { value_names = 1; required = true }

-- `show`, with the path of a store, and how it is to be shown
abbrev pub show_words : Shape
show_words = record (new_shape (codes "show")) { rules = store_word ∷ flag_word (codes "json") ∷ flag_word (codes "hex") ∷ explain_words ∷ [] }

-- the path of a file that has a shape, which has to be there
abbrev pub file_word : Rule
file_word = record (new_rule (codes "file")) { value_names = 1; required = true }

-- `init`, with the path of a store and that of a shape, and whether it is to be made in place
abbrev pub init_words : Shape
init_words = record (new_shape (codes "init")) { rules = store_word ∷ file_word ∷ flag_word (codes "in-place") ∷ explain_words ∷ [] }

-- `--shape`, with the path of a shape
abbrev pub shape_words : Rule
shape_words = record (new_rule (codes "shape")) { long = Some (codes "shape"); value_names = 1 }

-- `serve`, with the path of a store, and maybe with that of its shape
abbrev pub serve_words : Shape
serve_words = record (new_shape (codes "serve")) { rules = store_word ∷ shape_words ∷ explain_words ∷ [] }

-- the path of a script, which has to be there
abbrev pub script_to_check : Rule
script_to_check = record (new_rule (codes "script")) { value_names = 1; required = true }

-- `check`, with the path of a script
abbrev pub check_words : Shape
check_words = record (new_shape (codes "check")) { rules = script_to_check ∷ explain_words ∷ [] }

-- the program, which takes a request for its version and wants a subcommand, before it has one
abbrev pub program_alone : App
program_alone = record { top = record (new_shape (codes "tmem")) { has_version = true; subcommand_required = true }; subs = [] }

-- what the words may be: one of these subcommands, or a request for help or the version
abbrev pub command_line : App
command_line =
    let earlier = with_subcommand (with_subcommand (with_subcommand program_alone run_words) threads_words) bench_words in
    let later = with_subcommand (with_subcommand (with_subcommand earlier show_words) init_words) serve_words in
    with_subcommand later check_words

-- what is wrong with the words, or which request they are; nothing where something is to be done
abbrev pub why_not_done : List Text → Kinds
why_not_done words = fault_of command_line words

-- the subcommand that the words name
abbrev pub command_in : List Text → Option Text
command_in words = option_map (λ found. found.0) (subcommand_of command_line words)

-- threads are to count up
abbrev pub AsksToCount : List Text → Type 0
AsksToCount words = (why_not_done words ≡ []) × (command_in words ≡ Some (codes "threads"))

-- the jobs of a service are to be timed
abbrev pub AsksToBench : List Text → Type 0
AsksToBench words = (why_not_done words ≡ []) × (command_in words ≡ Some (codes "bench"))

-- a store is to be shown
abbrev pub AsksToShow : List Text → Type 0
AsksToShow words = (why_not_done words ≡ []) × (command_in words ≡ Some (codes "show"))

-- a store is to be made
abbrev pub AsksToInit : List Text → Type 0
AsksToInit words = (why_not_done words ≡ []) × (command_in words ≡ Some (codes "init"))

-- a store is to be served
abbrev pub AsksToServe : List Text → Type 0
AsksToServe words = (why_not_done words ≡ []) × (command_in words ≡ Some (codes "serve"))

-- a script is to be checked
abbrev pub AsksToCheck : List Text → Type 0
AsksToCheck words = (why_not_done words ≡ []) × (command_in words ≡ Some (codes "check"))

-- the words name none of the other subcommands
pub record NamesNoOther (words : List Text) : Type 0 where
  pub threads : command_in words ≢ Some (codes "threads")
  pub bench : command_in words ≢ Some (codes "bench")
  pub show : command_in words ≢ Some (codes "show")
  pub init : command_in words ≢ Some (codes "init")
  pub serve : command_in words ≢ Some (codes "serve")
  pub check : command_in words ≢ Some (codes "check")

-- a script is to be played: there is no other subcommand
abbrev pub AsksToPlay : List Text → Type 0
AsksToPlay words = (why_not_done words ≡ []) × NamesNoOther words

-- a request and no mistake
abbrev pub IsHelpOrVersion : ErrorKind → Type 0
IsHelpOrVersion DisplayHelp = ⊤
IsHelpOrVersion DisplayVersion = ⊤
IsHelpOrVersion _ = ⊥

-- a request is among these
abbrev pub HasRequest : Kinds → Type 0
HasRequest [] = ⊥
HasRequest (k ∷ ks) = IsHelpOrVersion k ⊎ HasRequest ks

-- help or the version is asked for
abbrev pub AsksForHelp : List Text → Type 0
AsksForHelp words = HasRequest (why_not_done words)

-- neither: something is wrong with the words
abbrev pub AreRefused : List Text → Type 0
AreRefused words = (why_not_done words ≢ []) × (¬ AsksForHelp words)

-- the path of the script, or none for standard input
abbrev pub path_in : List Text → Option Text
path_in words = option_and_then (λ found. first_of (codes "script") found.1) (subcommand_of command_line words)

-- the path of the store, or none for a device in memory
abbrev pub disk_in : List Text → Option Text
disk_in words = option_and_then (λ found. first_of (codes "disk") found.1) (subcommand_of command_line words)

-- the path of the store that is to be shown
abbrev pub store_in : List Text → Option Text
store_in words = option_and_then (λ found. first_of (codes "store") found.1) (subcommand_of command_line words)

-- the text of an argument in the words, as it is read
abbrev pub text_in : Text → List Text → Option Text
text_in id words = option_and_then (λ found. one_of id found.1) (subcommand_of command_line words)

-- The number of a text: the value of its digits, which a plus may precede, where that has 16 bits; and 0 where there is none.
abbrev pub IsNumberOf : Option Text → ℕ → Type 0
IsNumberOf None n = n ≡ 0
IsNumberOf (Some text) n =
    IsNumeral 10 (without_leading_plus text) → digits_value 10 (without_leading_plus text) < 2 ^ 16 → n ≡ digits_value 10 (without_leading_plus text)

-- The same of a number that may be left out: none where there is no text.
abbrev pub IsNumberIfAny : Option Text → Option ℕ → Type 0
IsNumberIfAny None number = number ≡ None
IsNumberIfAny (Some text) number =
    IsNumeral 10 (without_leading_plus text) → digits_value 10 (without_leading_plus text) < 2 ^ 16 → number ≡ Some (digits_value 10 (without_leading_plus text))

-- the path of the file that a store is made of
abbrev pub file_in : List Text → Option Text
file_in words = option_and_then (λ found. first_of (codes "file") found.1) (subcommand_of command_line words)

-- the path of the shape of a store that is to be served
abbrev pub shape_path_in : List Text → Option Text
shape_path_in words = option_and_then (λ found. first_of (codes "shape") found.1) (subcommand_of command_line words)

-- what the text of a flag says: where there is none, it is not given
pub record IsFlagOf (text : Option Text) (flag : Bool) : Type 0 where
  pub none : text ≡ None → flag ≡ false
  pub given : text ≡ Some (codes "true") → flag ≡ true
  pub left_out : text ≡ Some (codes "false") → flag ≡ false

-- how many workers there are to be, and how often each of them is to add
pub record AreNumbersIn (words : List Text) (workers turns : ℕ) : Type 0 where
  pub many : IsNumberOf (text_in (codes "workers") words) workers
  pub often : IsNumberOf (text_in (codes "turns") words) turns

-- how jobs are to be timed: in which file, how long each, and which one
pub record IsTimingIn (words : List Text) (timing : Timing) : Type 0 where
  pub store : option_map (λ text. text.now) timing.disk ≡ disk_in words
  pub time : IsNumberIfAny (text_in (codes "millis") words) timing.millis
  pub line : IsNumberIfAny (text_in (codes "job") words) timing.job

-- which store is to be shown, and how
pub record IsShowingIn (words : List Text) (showing : Showing) : Type 0 where
  pub store : option_map (λ text. text.now) showing.store ≡ store_in words
  pub json : IsFlagOf (text_in (codes "json") words) showing.is_json
  pub hex : IsFlagOf (text_in (codes "hex") words) showing.has_hex

-- which store is to be made, of which file, and whether in place
pub record IsMakingIn (words : List Text) (making : Making) : Type 0 where
  pub store : option_map (λ text. text.now) making.store ≡ store_in words
  pub file : option_map (λ text. text.now) making.file ≡ file_in words
  pub in_place : IsFlagOf (text_in (codes "in-place") words) making.is_in_place

-- which store is to be served, and with which shape
pub record IsServingIn (words : List Text) (serving : Serving) : Type 0 where
  pub store : option_map (λ text. text.now) serving.store ≡ store_in words
  pub shape : option_map (λ text. text.now) serving.shape ≡ shape_path_in words

-- what was read from the words is what they ask for
abbrev pub IsAsked : List Text → Asked → Type 0
IsAsked words (Run paths) =
    NamesNoOther words × (option_map (λ text. text.now) paths.script ≡ path_in words) × (option_map (λ text. text.now) paths.disk ≡ disk_in words)
IsAsked words (Threads counting) =
    (command_in words ≡ Some (codes "threads")) × AreNumbersIn words counting.workers counting.turns × (option_map (λ text. text.now) counting.disk ≡ disk_in words)
IsAsked words (Bench timing) = (command_in words ≡ Some (codes "bench")) × IsTimingIn words timing
IsAsked words (Show showing) = (command_in words ≡ Some (codes "show")) × IsShowingIn words showing
IsAsked words (Init making) = (command_in words ≡ Some (codes "init")) × IsMakingIn words making
IsAsked words (Serve serving) = (command_in words ≡ Some (codes "serve")) × IsServingIn words serving
IsAsked words (Check script) = (command_in words ≡ Some (codes "check")) × (option_map (λ text. text.now) script ≡ path_in words)

-- the words have no `--explain`
abbrev pub ExplainsNothing : List Text → Type 0
ExplainsNothing words = (text_in (codes "explain") words ≡ None) ⊎ (text_in (codes "explain") words ≡ Some (codes "false"))

-- the same, and whether more is to be told of what fails
pub record IsTold (words : List Text) (told : Invocation) : Type 0 where
  pub asked : IsAsked words told.asked
  pub explains : IsFlagOf (text_in (codes "explain") words) told.explains

-- a script is to be played: that of this path, or of standard input, on the store of that path, or on a device in memory
pub record AsksToPlayFrom (words : List Text) (script disk : Option Text) : Type 0 where
  pub asks : AsksToPlay words
  pub path : path_in words ≡ script
  pub store : disk_in words ≡ disk

-- threads are to count up: with these numbers, in a new store of that path, or on a device in memory
pub record Counts (words : List Text) (workers turns : Text) (disk : Option Text) : Type 0 where
  pub asks : AsksToCount words
  pub many : text_in (codes "workers") words ≡ Some workers
  pub often : text_in (codes "turns") words ≡ Some turns
  pub store : disk_in words ≡ disk

-- the jobs of a service are to be timed: in a file of this path, or of the usual one; for so long, or for the usual time; and this one, or all
pub record Benches (words : List Text) (disk millis job : Option Text) : Type 0 where
  pub asks : AsksToBench words
  pub store : disk_in words ≡ disk
  pub time : text_in (codes "millis") words ≡ millis
  pub line : text_in (codes "job") words ≡ job

-- the store of this path is to be shown: as JSON or as text, with its bytes or without
pub record Shows (words : List Text) (store json hex : Text) : Type 0 where
  pub asks : AsksToShow words
  pub path : store_in words ≡ Some store
  pub as_json : text_in (codes "json") words ≡ Some json
  pub with_hex : text_in (codes "hex") words ≡ Some hex

-- a store of this path is to be made of that file, in place or not
pub record Makes (words : List Text) (store file in_place : Text) : Type 0 where
  pub asks : AsksToInit words
  pub path : store_in words ≡ Some store
  pub from : file_in words ≡ Some file
  pub flag : text_in (codes "in-place") words ≡ Some in_place

-- the store of this path is to be served, with the shape of that file, or with the one beside it
pub record Serves (words : List Text) (store : Text) (shape : Option Text) : Type 0 where
  pub asks : AsksToServe words
  pub path : store_in words ≡ Some store
  pub with_shape : shape_path_in words ≡ shape

-- the script of this path is to be checked, and more is to be told of what fails or not
pub record ChecksScript (words : List Text) (script explain : Text) : Type 0 where
  pub asks : AsksToCheck words
  pub path : path_in words ≡ Some script
  pub explains : text_in (codes "explain") words ≡ Some explain

-- more is to be told of what fails where a script is played, and less where the word is left out
pub record ExplainsPlainly (name : Text) : Type 0 where
  pub given : text_in (codes "explain") (name ∷ codes "run" ∷ codes "--explain" ∷ []) ≡ Some (codes "true")
  pub before_a_script : text_in (codes "explain") (name ∷ codes "run" ∷ codes "--explain" ∷ codes "first.json" ∷ []) ≡ Some (codes "true")
  pub plays : AsksToPlayFrom (name ∷ codes "run" ∷ codes "--explain" ∷ codes "first.json" ∷ []) (Some (codes "first.json")) None
  pub left_out : ExplainsNothing (name ∷ codes "run" ∷ codes "first.json" ∷ [])
  pub help : ExplainsNothing (name ∷ codes "--help" ∷ [])
  pub alone : AreRefused (name ∷ codes "--explain" ∷ [])
  pub twice : AreRefused (name ∷ codes "run" ∷ codes "--explain" ∷ codes "--explain" ∷ [])

-- how the plain command lines are read: `run` plays what stands on standard input, `run` with a path that file, each in
-- memory or, behind `--disk`, on the store of that path; help and the version are requests; no command, an unknown one,
-- `--disk` with no path and `--disk` twice are neither. `threads` takes two numbers, from 1 to 16 and from 1 to 1000: other ones,
-- what is no number, and fewer than two are neither. `bench` takes numbers behind its options alone. `show` takes the path of a store, and both of its flags or none, in any
-- order. `init` takes the path of a store and that of a file, and maybe its flag, and `serve` the path of a store, and maybe that of a
-- shape. `check` takes the path of a script. `--explain` stands behind each of them.
pub record ReadsPlainly (name : Text) : Type 0 where
  pub input : AsksToPlayFrom (name ∷ codes "run" ∷ []) None None
  pub file : AsksToPlayFrom (name ∷ codes "run" ∷ codes "first.json" ∷ []) (Some (codes "first.json")) None
  pub input_on_store : AsksToPlayFrom (name ∷ codes "run" ∷ codes "--disk" ∷ codes "store" ∷ []) None (Some (codes "store"))
  pub file_on_store : AsksToPlayFrom (name ∷ codes "run" ∷ codes "first.json" ∷ codes "--disk" ∷ codes "store" ∷ []) (Some (codes "first.json")) (Some (codes "store"))
  pub store_first : AsksToPlayFrom (name ∷ codes "run" ∷ codes "--disk=store" ∷ codes "first.json" ∷ []) (Some (codes "first.json")) (Some (codes "store"))
  pub help : AsksForHelp (name ∷ codes "--help" ∷ [])
  pub version : AsksForHelp (name ∷ codes "--version" ∷ [])
  pub none : AreRefused (name ∷ [])
  pub unknown : AreRefused (name ∷ codes "play" ∷ [])
  pub no_path : AreRefused (name ∷ codes "run" ∷ codes "--disk" ∷ [])
  pub two_stores : AreRefused (name ∷ codes "run" ∷ codes "--disk" ∷ codes "a" ∷ codes "--disk" ∷ codes "b" ∷ [])
  pub count : Counts (name ∷ codes "threads" ∷ codes "4" ∷ codes "100" ∷ []) (codes "4") (codes "100") None
  pub count_most : Counts (name ∷ codes "threads" ∷ codes "16" ∷ codes "1000" ∷ []) (codes "16") (codes "1000") None
  pub count_on_store : Counts (name ∷ codes "threads" ∷ codes "1" ∷ codes "1" ∷ codes "--disk" ∷ codes "store" ∷ []) (codes "1") (codes "1") (Some (codes "store"))
  pub no_worker : AreRefused (name ∷ codes "threads" ∷ codes "0" ∷ codes "100" ∷ [])
  pub many_workers : AreRefused (name ∷ codes "threads" ∷ codes "17" ∷ codes "100" ∷ [])
  pub no_turn : AreRefused (name ∷ codes "threads" ∷ codes "4" ∷ codes "0" ∷ [])
  pub many_turns : AreRefused (name ∷ codes "threads" ∷ codes "4" ∷ codes "1001" ∷ [])
  pub no_number : AreRefused (name ∷ codes "threads" ∷ codes "four" ∷ codes "100" ∷ [])
  pub one_number : AreRefused (name ∷ codes "threads" ∷ codes "4" ∷ [])
  pub bench : Benches (name ∷ codes "bench" ∷ []) None None None
  pub bench_on_store : Benches (name ∷ codes "bench" ∷ codes "--disk" ∷ codes "store" ∷ []) (Some (codes "store")) None None
  pub bench_one_job : Benches (name ∷ codes "bench" ∷ codes "--millis" ∷ codes "60000" ∷ codes "--job=48" ∷ []) None (Some (codes "60000")) (Some (codes "48"))
  pub bench_too_short : AreRefused (name ∷ codes "bench" ∷ codes "--millis" ∷ codes "9" ∷ [])
  pub bench_no_job : AreRefused (name ∷ codes "bench" ∷ codes "--job" ∷ codes "49" ∷ [])
  pub bench_by_number : AreRefused (name ∷ codes "bench" ∷ codes "4" ∷ [])
  pub show : Shows (name ∷ codes "show" ∷ codes "store" ∷ []) (codes "store") (codes "false") (codes "false")
  pub show_as_json : Shows (name ∷ codes "show" ∷ codes "store" ∷ codes "--json" ∷ []) (codes "store") (codes "true") (codes "false")
  pub show_with_hex : Shows (name ∷ codes "show" ∷ codes "--hex" ∷ codes "store" ∷ []) (codes "store") (codes "false") (codes "true")
  pub show_all : Shows (name ∷ codes "show" ∷ codes "--hex" ∷ codes "store" ∷ codes "--json" ∷ []) (codes "store") (codes "true") (codes "true")
  pub show_nothing : AreRefused (name ∷ codes "show" ∷ [])
  pub show_two : AreRefused (name ∷ codes "show" ∷ codes "a" ∷ codes "b" ∷ [])
  pub init : Makes (name ∷ codes "init" ∷ codes "store" ∷ codes "shape.json" ∷ []) (codes "store") (codes "shape.json") (codes "false")
  pub init_in_place : Makes (name ∷ codes "init" ∷ codes "--in-place" ∷ codes "store" ∷ codes "shape.json" ∷ []) (codes "store") (codes "shape.json") (codes "true")
  pub init_no_file : AreRefused (name ∷ codes "init" ∷ codes "store" ∷ [])
  pub serve : Serves (name ∷ codes "serve" ∷ codes "store" ∷ []) (codes "store") None
  pub serve_with_shape : Serves (name ∷ codes "serve" ∷ codes "store" ∷ codes "--shape" ∷ codes "a.json" ∷ []) (codes "store") (Some (codes "a.json"))
  pub serve_nothing : AreRefused (name ∷ codes "serve" ∷ [])
  pub check : ChecksScript (name ∷ codes "check" ∷ codes "first.json" ∷ []) (codes "first.json") (codes "false")
  pub check_nothing : AreRefused (name ∷ codes "check" ∷ [])
  pub check_explained : ChecksScript (name ∷ codes "check" ∷ codes "first.json" ∷ codes "--explain" ∷ []) (codes "first.json") (codes "true")
  pub check_two : AreRefused (name ∷ codes "check" ∷ codes "a" ∷ codes "b" ∷ [])
  pub explained : ExplainsPlainly name
