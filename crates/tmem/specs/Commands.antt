-- What became of a command.
use Rattle.std.specs.Prelude.{◌≡◌, ◌⊎◌, ◌∷◌, ⊤, ℕ, List, length, Option, Some, None, codes, ◌++◌}
use Rattle.std.specs.Fmt.{decimal, signed_decimal}
use Rattle.clap.specs.Walk.{Text}
use Rattle.std.specs.Io.KnownBytes.{Appends}
use Rattle.tmem_fault.specs.declared.fault.Fault.{Fault}
use Rattle.tmem_record.specs.Layout.{IsLayout}
use Rattle.tmem_explain.specs.Limits.{IsNoScript}
use Rattle.tmem_effect.specs.State.{State}
use Rattle.tmem_script.specs.Scripts.{IsScriptText}
use Rattle.tmem_script.specs.declared.failure.ProgramFailure.{ProgramFailure}
use Rattle.tmem_script.specs.declared.failure.ProgramFailure.TheVariants as failure
use Rattle.tmem_script.specs.declared.script.ScriptEntry.{ScriptEntry}
use Rattle.tmem_script.specs.declared.script.ScriptError.{ScriptError}
use Rattle.tmem_script.specs.declared.script.ScriptError.TheVariants as error
use Rattle.tmem_bench.specs.declared.error.BenchError.{BenchError}
use Rattle.tmem_bench.specs.declared.error.BenchError.TheVariants as bench
use Rattle.tmem_bench.specs.Printed.{head, lines_wanted, printed}
use Rattle.tmem_bench.specs.Counting.{AreTotals}
use Rattle.tmem_bench.specs.declared.totals.TheConstants.{COUNTING_VARS, COUNTING_SLOTS}
use Rattle.tmem_bench.specs.declared.totals.Totals.{Totals}
use Rattle.tmem_bench.specs.declared.workers.CountingWork.{CountingWork}
use Rattle.tmem_file.specs.declared.disk.FileDisk.{FileDisk}
use Rattle.tmem_run.specs.declared.playing.Played.{Played}
use Rattle.tmem_run.specs.Printed.{line}
use Rattle.tmem_show.specs.Refusals.{TellsOf}
use Rattle.tmem_run.specs.Stored.{IsMade, PlaysWhere, StopsPlaying}

-- A text that may have been read: from the input what was left there, where that is known, and from a file any.
abbrev pub MayBeRead : Option Text → Option (List ℕ) → List ℕ → Type 0
MayBeRead None None text = ⊤
MayBeRead None (Some bytes) text = text ≡ bytes
MayBeRead (Some path) left text = ⊤

-- the text is that of a script whose numbers are within the limits, and the script was played to its end
pub record PlaysText (disk : Option Text) (device : Option Played) (text : List ℕ) (before after : Option (List ℕ)) : Type 0 where
  pub vars : ℕ
  pub slots : ℕ
  pub entries : List ScriptEntry
  pub script : IsScriptText vars slots entries text
  pub layout : IsLayout vars slots
  pub played : PlaysWhere disk device vars slots entries before after

-- a text that may have been read was played
abbrev pub PlaysRead : (List ℕ → Type 0) → Option Text → Option Played → Option (List ℕ) → Option (List ℕ) → Type 0
PlaysRead IsRead disk device before after = (text : List ℕ) × IsRead text × PlaysText disk device text before after

-- the text is that of a script, which was not played to its end for this reason
abbrev pub StopsText : Option Text → Option Played → List ℕ → ProgramFailure → Type 0
StopsText disk device text f =
    (vars : ℕ) × (slots : ℕ) × (entries : List ScriptEntry) × IsScriptText vars slots entries text × StopsPlaying disk device vars slots entries f

-- Why no script was read: memory was refused, reading failed, or what was read is none.
abbrev pub IsWhyNotRead : (List ℕ → Type 0) → ScriptError → Type 0
IsWhyNotRead IsRead (error.Memory e) = ⊤
IsWhyNotRead IsRead error.Unreadable = ⊤
IsWhyNotRead IsRead error.NoScript = (text : List ℕ) × IsRead text × IsNoScript text

-- Why a script was not played to its end: it was not read, and there is no device; or it was stopped once it was read.
abbrev pub IsWhyNotPlayed : (List ℕ → Type 0) → Option Text → Option Played → ProgramFailure → Type 0
IsWhyNotPlayed IsRead disk device f =
    ((e : ScriptError) × (f ≡ failure.Script e) × IsWhyNotRead IsRead e × (device ≡ None)) ⊎ ((text : List ℕ) × IsRead text × StopsText disk device text f)

-- With a path a file was made. (That the workers counted there is tested.)
abbrev pub IsMadeAt : Option Text → Type 0
IsMadeAt None = ⊤
IsMadeAt (Some path) = (blank : FileDisk) × (made : FileDisk) × IsMade COUNTING_VARS COUNTING_SLOTS blank made

-- what threads did: how many transactions they were answered to have committed, the value of variable 0, and how many are durable
abbrev pub totals_text : Totals → List ℕ
totals_text t = codes "committed " ++ decimal t.committed ++ codes "\nvalue " ++ signed_decimal t.value ++ codes "\ndurable " ++ decimal t.durable

-- Workers counted up in a store that was opened in some state, and three totals were printed, of which the first is at
-- most what the work allows.
abbrev pub CountsUp : CountingWork → Option Text → Option (List ℕ) → Option (List ℕ) → Type 0
CountsUp work disk before after =
    IsMadeAt disk × ((opening : State) × (totals : Totals) × AreTotals opening work totals × Appends before after (line (totals_text totals)))

-- why they did not: the output failed, or a fault was met
abbrev pub IsWhyNotCounted : ProgramFailure → Type 0
IsWhyNotCounted f = (f ≡ failure.Output) ⊎ ((fault : Fault) × (f ≡ failure.Refused fault))

-- why the jobs of a service were not timed: the same, or the clock was not read
abbrev pub IsWhyNotTimed : ProgramFailure → Type 0
IsWhyNotTimed f = (f ≡ failure.Clock) ⊎ IsWhyNotCounted f

-- The head of a table was printed, and below it a line for the job of this number, or for each.
abbrev pub TimesJobs : Option ℕ → Option (List ℕ) → Option (List ℕ) → Type 0
TimesJobs job before after = (lines : List (List ℕ)) × (length lines ≡ lines_wanted job) × Appends before after (printed (head ∷ lines))

-- what the user is told where the jobs ended early
abbrev pub failure_of : BenchError → ProgramFailure
failure_of (bench.Refused fault) = failure.Refused fault
failure_of bench.Output = failure.Output
failure_of bench.Clock = failure.Clock

-- why a store was not shown, or an opening is refused: the output failed, or a fault is told
abbrev pub IsWhyNotShown : ProgramFailure → Type 0
IsWhyNotShown f = IsWhyNotCounted f

-- a store was shown whose bytes an opening does not refuse
abbrev pub OpensShown : Type 0
OpensShown = (bytes : List ℕ) × TellsOf bytes None
