-- With which status the program ends, and what it tells of a failure.
use Rattle.std.specs.Prelude.{ℕ, List, [], ◌∷◌, ◌++◌, codes}
use Rattle.tmem_fault.specs.Fault.{text_of}
use Rattle.tmem_fault.specs.declared.fault.Fault.TheVariants as fault
use Rattle.tmem_script.specs.declared.failure.ProgramFailure.{ProgramFailure}
use Rattle.tmem_script.specs.declared.failure.ProgramFailure.TheVariants.{Script, Refused, Output, Clock, Words}
use Rattle.tmem_script.specs.declared.failure.WordsError.{WordsError}
use Rattle.tmem_script.specs.declared.failure.WordsError.TheVariants as words_error
use Rattle.tmem_script.specs.declared.script.ScriptError.{ScriptError}
use Rattle.tmem_script.specs.declared.script.ScriptError.TheVariants.{Memory, Unreadable, NoScript}

-- 3 where there was no script to play, 2 where the words could not be read, and else 1
abbrev pub status_of : ProgramFailure → ℕ
status_of (Script Unreadable) = 3
status_of (Script NoScript) = 3
status_of (Script (Memory e)) = 1
status_of (Refused fault) = 1
status_of Output = 1
status_of Clock = 1
status_of (Words e) = 2

-- the text of why a script was not read
abbrev pub script_error_text : ScriptError → List ℕ
script_error_text (Memory e) = text_of fault.Memory
script_error_text Unreadable = codes "cannot read script"
script_error_text NoScript = codes "bad script"

-- the text of why the words of the command line were not read
abbrev pub words_error_text : WordsError → List ℕ
words_error_text words_error.NotText = codes "the command line is not UTF-8"
words_error_text words_error.Memory = codes "not enough memory for the command line"

-- the text of a failure
abbrev pub failure_text : ProgramFailure → List ℕ
failure_text (Script error) = script_error_text error
failure_text (Refused f) = text_of f
failure_text Output = codes "output failed"
failure_text Clock = codes "no clock"
failure_text (Words error) = words_error_text error

-- the line that the user is told
abbrev pub failure_line : ProgramFailure → List ℕ
failure_line failure = codes "tmem: " ++ failure_text failure ++ 10 ∷ []
