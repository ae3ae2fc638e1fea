-- What appending a batch makes of a log.
use Rattle.std.specs.Prelude.{◌≡◌, ◌⊎◌, ℕ, List, [], ◌∷◌, ◌++◌, length}
use Rattle.tmem_disk.specs.Disk.{SameOutside}
use Rattle.tmem_fault.specs.declared.fault.Fault.{Fault}
use Rattle.tmem_fault.specs.declared.fault.Fault.TheVariants.{Device, Unknown, LogFull}
use Rattle.tmem_record.specs.Layout.{slot_at}
use Rattle.tmem_effect.specs.State.{State}
use Rattle.tmem_effect.specs.declared.effect.Effect.{Effect}
use Rattle.tmem_redolog.specs.Log.{HoldsLog, StaysWithin, replayed}
use Rattle.tmem_redolog.specs.declared.log.Log.{Log}
use Rattle.tmem_record.specs.declared.layout.Layout.{Layout}
use Rattle.tmem_state.specs.declared.version.Version.TheVariants.{Two}

-- a batch with this first number may go into that slot next: the log ends there, its last state has that count, and that
-- state stays within the limits, record by record
pub record FollowsOn (slot first : ℕ) (es : List Effect) (image : State) (batches : List (List Effect)) : Type 0 where
  pub used : length batches ≡ slot
  pub number : (replayed image batches).count ≡ first
  pub room : StaysWithin (replayed image batches) es

-- Which batch goes where: over so many variables and slots, of this generation, into this slot, with this first number.
pub record BatchPlaced : Type 0 where
  pub vars : ℕ
  pub slots : ℕ
  pub generation : ℕ
  pub slot : ℕ
  pub first : ℕ
  pub batch : List Effect

-- where the next batch of a log goes
abbrev pub batch_placed : Layout → Log → ℕ → List Effect → BatchPlaced
batch_placed layout log first es = record { vars = layout.vars; slots = layout.slots; generation = log.generation; slot = log.used; first = first; batch = es }

-- the second content holds each log of the first, of version 2, that the batch follows on, and is the same outside the slot
pub record WithoutBatch (p : BatchPlaced) (b c : List ℕ) : Type 0 where
  pub elsewhere : SameOutside (slot_at p.vars p.slot) 4096 b c
  pub log : (image : State) (batches : List (List Effect)) → FollowsOn p.slot p.first p.batch image batches → HoldsLog Two p.vars p.slots p.generation image batches b → HoldsLog Two p.vars p.slots p.generation image batches c

-- the second content holds each such log with the batch last, and is the same outside the slot
pub record WithBatch (p : BatchPlaced) (b c : List ℕ) : Type 0 where
  pub elsewhere : SameOutside (slot_at p.vars p.slot) 4096 b c
  pub log : (image : State) (batches : List (List Effect)) → FollowsOn p.slot p.first p.batch image batches → HoldsLog Two p.vars p.slots p.generation image batches b → HoldsLog Two p.vars p.slots p.generation image (batches ++ p.batch ∷ []) c

-- what an append is refused by
abbrev pub IsAppendFault : Fault → Type 0
IsAppendFault f = (f ≡ LogFull) ⊎ ((f ≡ Device) ⊎ (f ≡ Unknown))
