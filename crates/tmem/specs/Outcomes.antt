-- What became of a command line, as its status says.
use Rattle.std.specs.Prelude.{◌≡◌, ◌⊎◌, ℕ, List, Option, codes}
use Rattle.clap.specs.Walk.{Text}
use Rattle.tmem_script.specs.Statuses.{status_of}
use Rattle.tmem_script.specs.declared.failure.ProgramFailure.{ProgramFailure}
use Rattle.tmem_bench.specs.declared.workers.CountingWork.{CountingWork}
use Rattle.tmem_run.specs.declared.playing.Played.{Played}
use Rattle.tmem_args.specs.CommandLine.{AsksToPlay, AsksToCount, AsksToBench, AsksToShow, AsksToInit, AsksToServe, AsksToCheck, AsksForHelp, AreNumbersIn, IsNumberIfAny, path_in, disk_in, text_in}
use Rattle.tmem.specs.Checked.{HasFlaws, IsScriptThere}
use Rattle.tmem.specs.Made.{MakesStore}
use Rattle.tmem.specs.Commands.{MayBeRead, PlaysRead, IsWhyNotPlayed, CountsUp, IsWhyNotCounted, IsWhyNotTimed, TimesJobs}
use Rattle.tmem.specs.Shaped.{ServesAnyShape}

-- a failure of this status is why a script was not played to its end
abbrev pub FailsWith : ℕ → (List ℕ → Type 0) → Option Text → Option Played → Type 0
FailsWith status IsRead disk device = (f : ProgramFailure) × (status_of f ≡ status) × IsWhyNotPlayed IsRead disk device f

-- as many workers counted up as the words say, as many turns, in the store that they name
abbrev pub CountsAs : List Text → Option (List ℕ) → Option (List ℕ) → Type 0
CountsAs words before after = (work : CountingWork) × AreNumbersIn words work.workers work.turns × CountsUp work (disk_in words) before after

-- the job was timed that the words name, or each
abbrev pub TimesAs : List Text → Option (List ℕ) → Option (List ℕ) → Type 0
TimesAs words before after = (job : Option ℕ) × IsNumberIfAny (text_in (codes "job") words) job × TimesJobs job before after

-- a store was to be shown, made or served
abbrev pub AsksOfStore : List Text → Type 0
AsksOfStore words = AsksToShow words ⊎ (AsksToInit words ⊎ AsksToServe words)

-- it was shown, made or served to the end of the input
abbrev pub DoesWithStore : List Text → Option (List ℕ) → Option (List ℕ) → Option (List ℕ) → Option (List ℕ) → Type 0
DoesWithStore words left rest before after = AsksToShow words ⊎ ((AsksToInit words × MakesStore) ⊎ (AsksToServe words × ServesAnyShape left rest before after))

-- Status 0: help or the version was asked for; or a script was, and it was played to its end, where a path is given on the device
-- that is handed back; or threads were, and they counted up; or the jobs of a service were, and they were timed; or a store was to be
-- shown, made or served, and it was; or a script was to be checked, and it keeps the limits.
abbrev pub IsDone : List Text → Option (List ℕ) → Option (List ℕ) → Option Played → Option (List ℕ) → Option (List ℕ) → Type 0
IsDone words left rest device before after =
    AsksForHelp words
    ⊎ ((AsksToPlay words × PlaysRead (MayBeRead (path_in words) left) (disk_in words) device before after)
    ⊎ ((AsksToCount words × CountsAs words before after) ⊎ ((AsksToBench words × TimesAs words before after) ⊎ (DoesWithStore words left rest before after ⊎ (AsksToCheck words × IsScriptThere)))))

-- Status 1: the same was asked for, and it failed on the way.
abbrev pub IsFailed : List Text → Option (List ℕ) → Option Played → Type 0
IsFailed words left device =
    AsksForHelp words
    ⊎ ((AsksToPlay words × FailsWith 1 (MayBeRead (path_in words) left) (disk_in words) device)
    ⊎ ((AsksToCount words × ((f : ProgramFailure) × (status_of f ≡ 1) × IsWhyNotCounted f))
    ⊎ ((AsksToBench words × ((f : ProgramFailure) × (status_of f ≡ 1) × IsWhyNotTimed f)) ⊎ (AsksOfStore words ⊎ AsksToCheck words))))

-- a script that was to be checked was not read, and nothing was printed; or it is none, and its flaws were
abbrev pub IsNotChecked : Option (List ℕ) → Option (List ℕ) → Type 0
IsNotChecked before after = (after ≡ before) ⊎ HasFlaws before after

-- Status 3: a script was asked for, and there was none, or one that was to be checked is past a limit.
abbrev pub HasNoScript : List Text → Option (List ℕ) → Option Played → Option (List ℕ) → Option (List ℕ) → Type 0
HasNoScript words left device before after =
    (AsksToPlay words × FailsWith 3 (MayBeRead (path_in words) left) (disk_in words) device) ⊎ (AsksToCheck words × IsNotChecked before after)
