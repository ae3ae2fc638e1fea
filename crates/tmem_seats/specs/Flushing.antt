-- What a flush takes from the core, and what it makes durable.
use Rattle.std.specs.Prelude.{◌≡◌, ◌≤◌, ◌<◌, ◌^◌, ◌++◌, ℕ, List, length, drop, All, Option, Some, None, Result, Err}
use Rattle.tmem_fault.specs.declared.fault.Fault.{Fault}
use Rattle.tmem_fault.specs.declared.fault.Fault.TheVariants as fault
use Rattle.tmem_effect.specs.Loggable.{IsLoggable}
use Rattle.tmem_effect.specs.Prefix.{IsPrefix}
use Rattle.tmem_effect.specs.State.{State, StaysWithin}
use Rattle.tmem_effect.specs.declared.effect.Effect.{Effect}
use Rattle.tmem_core.specs.Taking.{IsTaken}
use Rattle.tmem_spine.specs.declared.view.MarkedEffect.{MarkedEffect}
use Rattle.tmem_spine.specs.History.{count, unmarked}
use Rattle.tmem_seats.specs.Histories.{state_after_history}
use Rattle.tmem_seats.specs.declared.failure.Failure.{Failure}
use Rattle.tmem_seats.specs.declared.failure.Failure.TheVariants as failure

-- A batch goes on from what is durable to what the journal aims at, and a log takes it: each effect changes something,
-- and the state after each of them is within the limits of counts and names.
pub record BatchGoesOn (start : ℕ) (opening : State) (durable : List MarkedEffect) (batch : List Effect) (aimed : List MarkedEffect) : Type 0 where
  pub begins : IsPrefix durable aimed
  pub more : unmarked aimed ≡ unmarked durable ++ batch
  pub few : length batch ≤ 64
  pub each : All (IsLoggable (length opening.values)) batch
  pub countable : count start aimed < 2 ^ 64
  pub room : StaysWithin (state_after_history opening durable) batch

-- the batch is taken from the oldest of what is committed and not durable, each next one as long as any other would
-- still fit
pub record TakesOldest (committed durable : List MarkedEffect) (batch : List Effect) (aimed : List MarkedEffect) : Type 0 where
  pub ahead : IsPrefix aimed committed
  pub oldest : IsTaken (drop (length durable) (unmarked committed)) batch
  pub some : length durable < length committed → 1 ≤ length batch

-- what a flush can be refused for
abbrev pub IsFlushRefusal : Fault → Type 0
IsFlushRefusal fault.Device = Unit {0}
IsFlushRefusal fault.Unknown = Unit {0}
IsFlushRefusal fault.Closed = Unit {0}
IsFlushRefusal fault.LogFull = Unit {0}
IsFlushRefusal _ = ⊥

-- what a checkpoint can be refused for
abbrev pub IsCheckpointRefusal : Fault → Type 0
IsCheckpointRefusal fault.Device = Unit {0}
IsCheckpointRefusal fault.Unknown = Unit {0}
IsCheckpointRefusal fault.Closed = Unit {0}
IsCheckpointRefusal fault.Spent = Unit {0}
IsCheckpointRefusal _ = ⊥

-- what a flush that makes room can be refused for: as a flush is, but for a full log, or as a checkpoint is
abbrev pub IsFlusherRefusal : Fault → Type 0
IsFlusherRefusal fault.Device = Unit {0}
IsFlusherRefusal fault.Unknown = Unit {0}
IsFlusherRefusal fault.Closed = Unit {0}
IsFlusherRefusal fault.Spent = Unit {0}
IsFlusherRefusal _ = ⊥

-- the failure that an answer tells of, if it tells of one
abbrev pub failure_in : {A : Type 0} → Result A Fault → Failure
failure_in (Err fault.Device) = failure.Device
failure_in (Err fault.Unknown) = failure.Unknown
failure_in _ = failure.None

-- the fault that tells how a device failed
abbrev pub told_of : Failure → Option Fault
told_of failure.None = None
told_of failure.Device = Some fault.Device
told_of failure.Unknown = Some fault.Unknown
