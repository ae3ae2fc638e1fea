-- What a command line was read as.
use Rattle.std.proofs.Common.{◌≡◌, ◌≢◌, ◌||◌, ◌∷◌, inl, inr, false, true, List, [], Option, Some, None, option_map, option_and_then, codes, refl, sym, ap, ◌∙◌}
use Rattle.std.specs.Prelude.{Box}
use Rattle.std.proofs.lemmas.Bool.{false≢true}
use Rattle.clap.specs.declared.error.kind.ErrorKind.{ErrorKind}
use Rattle.clap.specs.Kinds.{Kinds}
use Rattle.clap.specs.Matches.{subcommand_name_of}
use Rattle.clap.specs.Walk.{Row, Rule, Text, rule_of}
use Rattle.clap.specs.Built.{AddsArg, AddsSubcommand}
use Rattle.clap.specs.Simple.{App, Shape, app_of, subcommand_of, subcommand_rows, subcommand_rows_of, with_rule, with_subcommand}
use Rattle.clap.specs.declared.builder.arg.Arg.{Arg}
use Rattle.clap.specs.declared.builder.command.Command.{Command}
use Rattle.clap.specs.declared.builder.command.Command.TheViews.{out-Command as fields_of}
use Rattle.std.specs.Box.{box_value}
use Rattle.clap.specs.declared.parser.matches.SubCommand.{SubCommand}
use Rattle.clap.specs.declared.parser.matches.ArgMatches.{ArgMatches}
use Rattle.clap.specs.declared.parser.matches.ArgMatches.TheViews.{out-ArgMatches, out-SubCommand}
use Rattle.tmem_args.specs.CommandLine.{HasRequest, IsHelpOrVersion, NamesNoOther, command_in, command_line}

-- a command with one more subcommand, which has none itself
pub joined : (old sub new : Command) (before : App) (s : Shape) → AddsSubcommand old sub new → (fields_of sub).has_globals ≡ false → app_of old ≡ before
    → app_of sub ≡ record { top = s; subs = [] } → app_of new ≡ with_subcommand before s
joined old sub new before s adds local is same =
    adds.shape local ∙ ap (λ a. with_subcommand a (app_of sub).top) is ∙ ap (λ (a : App). with_subcommand before a.top) same

-- a command with one more argument
pub more : (old : Command) (a : Arg) (new : Command) (before : App) (r : Rule) → AddsArg old a new → a.global ≡ false → app_of old ≡ before → rule_of a ≡ r
    → app_of new ≡ with_rule before r
more old a new before r adds local is same = adds.shape local ∙ ap (λ b. with_rule b (rule_of a)) is ∙ ap (with_rule before) same

-- it has no global argument yet
pub more_local : (old : Command) (a : Arg) (new : Command) → AddsArg old a new → a.global ≡ false → (fields_of old).has_globals ≡ false → (fields_of new).has_globals ≡ false
more_local old a new adds local was = adds.globals ∙ ap (λ b. b || a.global) was ∙ local

-- what a function of the rows of the subcommand gives
pub of_rows : {A : Type 0} (f : List Row → Option A) (found : Option (Text × List Row)) → option_and_then f (option_map (λ p. p.1) found) ≡ option_and_then (λ p. f p.1) found
of_rows f None = refl
of_rows f (Some p) = refl

-- the name of the subcommand
name_of : {Z : Type 0} (o : Option (Box SubCommand Z)) → option_map (λ p. p.0) (subcommand_rows o) ≡ option_map (λ b. (out-SubCommand (box_value b)).name.now) o
name_of None = refl
name_of (Some b) = refl

module _ (matches : ArgMatches) (words : List Text) (same : subcommand_rows_of matches ≡ subcommand_of command_line words) where
  -- the words name the subcommand that was met
  pub named : command_in words ≡ subcommand_name_of matches
  named = ap (option_map (λ p. p.0)) (sym same) ∙ name_of (out-ArgMatches matches).subcommand

  -- where none of the six was met, the words name none of them
  pub names_no_other : (subcommand_name_of matches ≡ Some (codes "threads") → false ≡ true) → (subcommand_name_of matches ≡ Some (codes "bench") → false ≡ true)
      → (subcommand_name_of matches ≡ Some (codes "show") → false ≡ true) → (subcommand_name_of matches ≡ Some (codes "init") → false ≡ true)
      → (subcommand_name_of matches ≡ Some (codes "serve") → false ≡ true) → (subcommand_name_of matches ≡ Some (codes "check") → false ≡ true) → NamesNoOther words
  names_no_other no_threads no_bench no_show no_init no_serve no_check =
      record {
        threads = λ is. false≢true (no_threads (sym named ∙ is));
        bench = λ is. false≢true (no_bench (sym named ∙ is));
        show = λ is. false≢true (no_show (sym named ∙ is));
        init = λ is. false≢true (no_init (sym named ∙ is));
        serve = λ is. false≢true (no_serve (sym named ∙ is));
        check = λ is. false≢true (no_check (sym named ∙ is));
      }

  -- what was read of its rows is what the words give it
  pub given : {A : Type 0} (f : List Row → Option A) (rows : Option (List Row)) → rows ≡ option_map (λ p. p.1) (subcommand_rows_of matches)
      → option_and_then f rows ≡ option_and_then (λ p. f p.1) (subcommand_of command_line words)
  given f rows is = ap (option_and_then f) (is ∙ ap (option_map (λ p. p.1)) same) ∙ of_rows f (subcommand_of command_line words)

-- words of `run` name no other subcommand
pub names_only_run : (words : List Text) → command_in words ≡ Some (codes "run") → NamesNoOther words
names_only_run words is = record { threads = λ e. cc; bench = λ e. cc; show = λ e. cc; init = λ e. cc; serve = λ e. cc; check = λ e. cc }

-- one thing that is wrong is no request
pub refused : (found : Kinds) (why : ErrorKind) → found ≡ why ∷ [] → (IsHelpOrVersion why → ⊥) → (found ≢ []) × (¬ HasRequest found)
refused found why is other = (λ e. cc, λ asks. elim (rw is at asks) [ inl e ↦ other e | inr e ↦ e ])
