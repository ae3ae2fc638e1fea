-- Words for what the calls of a journal ask and answer.
use Rattle.std.specs.Prelude.{◌≤◌, ℕ, List, [], Option, Some, None, Result, Ok, Err}
use Rattle.std.specs.declared.snapshot.Snapshot.{Snapshot}
use Rattle.tmem_fault.specs.declared.fault.Fault.{Fault}
use Rattle.tmem_fault.specs.declared.fault.Fault.TheVariants.{Unknown}
use Rattle.tmem_effect.specs.declared.effect.Effect.{Effect}
use Rattle.tmem_record.specs.Layout.{IsLayout, end_at}

-- the numbers are within the limits, and the device holds their layout
pub record FitsOn (vars slots capacity : ℕ) : Type 0 where
  pub layout : IsLayout vars slots
  pub room : end_at vars slots ≤ capacity

-- the effects of a batch, where there is one
abbrev pub effects_in : Option (Snapshot (List Effect)) → List Effect
effects_in None = []
effects_in (Some batch) = batch.value

-- those of a batch that may be durable after a flush failed so
abbrev pub doubted : Fault → List Effect → List Effect
doubted Unknown es = es
doubted _ es = []

-- what a refusal that hands something back says
abbrev pub fault_alone : {A B : Type 0} → Result A (Fault × B) → Result (Unit {0}) Fault
fault_alone (Ok it) = Ok tt
fault_alone (Err e) = Err e.0
