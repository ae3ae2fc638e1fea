-- What is said of a script that is checked.
use Rattle.std.specs.Prelude.{◌≡◌, ◌⊎◌, ℕ, List, All, IsUtf8, Option, Some, flat_map}
use Rattle.std.specs.Io.KnownBytes.{Appends}
use Rattle.serde_json.specs.Data.{Data}
use Rattle.serde_json.specs.Read.{read}
use Rattle.tmem_explain.specs.Flaws.{IsFlawOf, IsTextFlaw}
use Rattle.tmem_explain.specs.Limits.{IsFineText, IsFlawedText, IsNoScript, TellsItsLimits}
use Rattle.tmem_explain.specs.Told.{flaw_text}
use Rattle.tmem_explain.specs.declared.flaw.Flaw.{Flaw}
use Rattle.tmem_fault.specs.declared.fault.Fault.TheVariants as fault
use Rattle.tmem_requests.specs.Reasons.{IsNoJson}
use Rattle.tmem_script.specs.Errors.{IsUnread}
use Rattle.tmem_script.specs.declared.failure.ProgramFailure.{ProgramFailure}
use Rattle.tmem_script.specs.declared.failure.ProgramFailure.TheVariants as failure
use Rattle.tmem_script.specs.declared.script.ScriptError.{ScriptError}
use Rattle.tmem_run.specs.Printed.{line}

-- what was read is a script, and a run refuses none of its numbers and transactions
abbrev pub IsScriptThere : Type 0
IsScriptThere = (text : List ℕ) × IsFineText text

-- a line for each flaw
abbrev pub lines_of : List Flaw → List ℕ
lines_of flaws = flat_map (λ flaw. line (flaw_text flaw)) flaws

-- A text is that of no script, or of one with numbers or a transaction that a run refuses; what is told is true of it, of a script it is
-- each limit that is broken and nothing else, and a line was printed for each flaw.
pub record TellsFlaws (text : List ℕ) (before after : Option (List ℕ)) : Type 0 where
  pub flawed : IsFlawedText text
  pub flaws : List Flaw
  pub told : (value : Data) → IsUtf8 text → read text ≡ Some value → All (IsFlawOf value) flaws
  pub limits : IsNoScript text ⊎ TellsItsLimits text flaws
  pub no_json : IsNoJson text → All IsTextFlaw flaws
  pub printed : Appends before after (lines_of flaws)

-- the same of what was read
abbrev pub HasFlaws : Option (List ℕ) → Option (List ℕ) → Type 0
HasFlaws before after = (text : List ℕ) × TellsFlaws text before after

-- why a script was not checked: it was not read, memory was refused, or the output failed
abbrev pub IsWhyNotChecked : ProgramFailure → Type 0
IsWhyNotChecked f = ((e : ScriptError) × (f ≡ failure.Script e) × IsUnread e) ⊎ ((f ≡ failure.Refused fault.Memory) ⊎ (f ≡ failure.Output))
