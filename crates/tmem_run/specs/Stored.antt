-- What becomes of a script that is played on a device, and on that of a file.
use Rattle.std.specs.Prelude.{◌≡◌, ◌⊎◌, ℕ, List, Option, Some, None}
use Rattle.std.specs.Io.KnownBytes.{Appends}
use Rattle.std.specs.declared.snapshot.Snapshot.{Snapshot}
use Rattle.tmem_disk.specs.Disk.{DeviceView, LeavesOnly, Elapses, Rewritten}
use Rattle.tmem_disk.specs.Start.{IsNewDevice}
use Rattle.tmem_fault.specs.declared.fault.Fault.{Fault}
use Rattle.tmem_fault.specs.declared.fault.Fault.TheVariants as fault
use Rattle.tmem_effect.specs.State.{State, first_state}
use Rattle.tmem_record.specs.Layout.{IsLayout, end_at}
use Rattle.tmem_journal.specs.Mended.{IsFoundAt}
use Rattle.tmem_journal.specs.Contents.{Position, first_position, ContentRepresents}
use Rattle.tmem_file.specs.FileView.{file_view}
use Rattle.tmem_file.specs.Opening.{IsFreshlyOpened, HasItsName}
use Rattle.tmem_file.specs.declared.disk.FileDisk.{FileDisk}
use Rattle.tmem_script.specs.declared.failure.ProgramFailure.{ProgramFailure}
use Rattle.tmem_script.specs.declared.failure.ProgramFailure.TheVariants as failure
use Rattle.tmem_script.specs.declared.script.ScriptEntry.{ScriptEntry}
use Rattle.tmem_opening.specs.Opening.{OpeningRefused}
use Rattle.tmem_world.specs.WorldModel.{WorldModel}
use Rattle.tmem_world.specs.Represents.{RepresentsCut}
use Rattle.tmem_world.specs.Chain.{ChainHistory, IsStore, no_history}
use Rattle.tmem_run.specs.Builtin.{builtin_program}
use Rattle.tmem_run.specs.Chains.{PlaysStore, StaysStore, LeavesStore}
use Rattle.tmem_run.specs.Printed.{PlaysFrom, PlaysScript, IsStop}
use Rattle.tmem_run.specs.declared.playing.Played.{Played}

-- The content of the device represented a state before, and the script was played from there: from the position where it stood, or from
-- behind the next image, if it was of version 1. A crash now leaves its serial order, cut at the durable number or at the doubtful one.
pub record PlaysOnStore (vars slots : ℕ) (entries : List ScriptEntry) (old new : DeviceView) (before after : Option (List ℕ)) : Type 0 where
  pub found : State
  pub position : Position
  pub stands : IsFoundAt vars slots old.seen found position
  pub end : WorldModel
  pub played : PlaysFrom vars slots found position entries end before after
  pub left : LeavesOnly new (RepresentsCut (builtin_program vars) vars slots end)
  -- and if it was a store with a history, it is one with what the script made of that
  pub stored : (h : ChainHistory) → IsStore (builtin_program vars) vars slots h old → (text : List ℕ) × PlaysStore vars slots h entries text old new × Appends before after text

-- Under the premise of the device that the first one became, the first met it too, and a script was played on it.
abbrev pub PlaysOver : {D : Type 0} → (D → DeviceView) → ℕ → ℕ → List ScriptEntry → D → D → Option (List ℕ) → Option (List ℕ) → Type 0
PlaysOver view vars slots entries old new before after =
    (view new).keeps_model → (view old).keeps_model × PlaysOnStore vars slots entries (view old) (view new) before after

-- Its opening was refused by this failure's fault. If the first device was a store with a history, the one that it became still is.
abbrev pub RefusesOver : {D : Type 0} → (D → DeviceView) → ℕ → ℕ → D → D → ProgramFailure → Type 0
RefusesOver view vars slots old new f =
    (g : Fault) × (f ≡ failure.Refused g) × OpeningRefused (λ p. p ≡ builtin_program vars) vars slots (view old) g (view new)
    × ((h : ChainHistory) → IsStore (builtin_program vars) vars slots h (view old) → (view new).keeps_model → StaysStore vars slots h (view old) (view new))

-- The output failed. If the first device was a store with a history, some of the first entries were played on it, and it
-- became this one.
abbrev pub StopsOver : {D : Type 0} → (D → DeviceView) → ℕ → ℕ → List ScriptEntry → D → D → ProgramFailure → Type 0
StopsOver view vars slots entries old new f = (f ≡ failure.Output) × LeavesStore vars slots entries (view old) (view new)

-- A file that was made of this one, which was zeros: they were formatted and synced. What a crash since some moment before might
-- have left of the zeros, it might have left of this one. (That it got its name is tested.)
pub record IsMade (vars slots : ℕ) (blank made : FileDisk) : Type 0 where
  pub zeros : IsNewDevice (end_at vars slots) (file_view blank)
  pub formatted : FileDisk
  pub written : Elapses (file_view blank) (file_view formatted) (Rewritten 0 (end_at vars slots) (file_view blank))
  pub capacity : (file_view formatted).capacity ≡ (file_view blank).capacity
  pub model : (file_view formatted).keeps_model → (file_view blank).keeps_model
  pub stands : LeavesOnly (file_view formatted) (ContentRepresents vars slots first_position (first_state vars))
  pub named : HasItsName (file_view formatted) (file_view made)
  -- so it is a store without a history
  pub store : IsStore (builtin_program vars) vars slots no_history (file_view made)

-- a file that was there and is as it was found, or one that was made of these zeros
abbrev pub IsFoundOrMade : ℕ → ℕ → Option (Snapshot FileDisk) → FileDisk → Type 0
IsFoundOrMade vars slots None disk = IsFreshlyOpened (file_view disk)
IsFoundOrMade vars slots (Some zeros) disk = IsMade vars slots zeros.value disk

-- A script was played in memory on an empty store, or with a path on the store of a file, from how its device was found to what it
-- became.
abbrev pub PlaysWhere : Option (List ℕ) → Option Played → ℕ → ℕ → List ScriptEntry → Option (List ℕ) → Option (List ℕ) → Type 0
PlaysWhere None left vars slots entries before after = PlaysScript vars slots entries before after
PlaysWhere (Some path) None vars slots entries before after = ⊥
PlaysWhere (Some path) (Some it) vars slots entries before after =
    IsFoundOrMade vars slots it.zeros it.found.value × PlaysOver file_view vars slots entries it.found.value it.left before after

-- Why it was not played to its end: it was stopped; or, with a path, memory was refused or the device failed, and none is left;
-- or the device of the file is handed back as it was found and as it was left, and the output failed, or its opening was refused.
abbrev pub StopsWhere : Option (List ℕ) → Option Played → ℕ → ℕ → List ScriptEntry → ProgramFailure → Type 0
StopsWhere None left vars slots entries f = IsStop f
StopsWhere (Some path) None vars slots entries f = (f ≡ failure.Refused fault.Memory) ⊎ (f ≡ failure.Refused fault.Device)
StopsWhere (Some path) (Some it) vars slots entries f =
    IsFoundOrMade vars slots it.zeros it.found.value × (StopsOver file_view vars slots entries it.found.value it.left f ⊎ RefusesOver file_view vars slots it.found.value it.left f)

-- Why a script that was read was not played to its end: its numbers are out of limits, and there is no device; or that.
abbrev pub StopsPlaying : Option (List ℕ) → Option Played → ℕ → ℕ → List ScriptEntry → ProgramFailure → Type 0
StopsPlaying path left vars slots entries f =
    ((f ≡ failure.Refused fault.Geometry) × (¬ IsLayout vars slots) × (left ≡ None)) ⊎ (IsLayout vars slots × StopsWhere path left vars slots entries f)
