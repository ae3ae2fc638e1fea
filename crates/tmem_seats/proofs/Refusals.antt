-- Which refusals a flush and a checkpoint can have, by what a journal says.
use Rattle.std.proofs.Common.{ℕ, List, Result, Ok, Err, IfErr}
use Rattle.tmem_fault.specs.declared.fault.Fault.{Fault}
use Rattle.tmem_fault.specs.declared.fault.Fault.TheVariants as fault
use Rattle.tmem_effect.specs.declared.effect.Effect.{Effect}
use Rattle.tmem_journal.specs.declared.journal.Journal.{Journal}
use Rattle.tmem_journal.specs.Journals.{Flushes, Checkpoints}
use Rattle.tmem_seats.specs.Flushing.{IsFlushRefusal, IsCheckpointRefusal}

pub flush_refusal : {D : Type 0} {d : _} (old new : Journal D d) (es : List Effect) (r : Result ℕ Fault) → Flushes old es r new → IfErr r IsFlushRefusal
flush_refusal old new es (Ok n) f = tt
flush_refusal old new es (Err fault.Device) f = tt
flush_refusal old new es (Err fault.Unknown) f = tt
flush_refusal old new es (Err fault.Closed) f = tt
flush_refusal old new es (Err fault.LogFull) f = tt
flush_refusal old new es (Err e) f = absurd f

pub checkpoint_refusal : {D : Type 0} {d : _} (old new : Journal D d) (r : Result (Unit {0}) Fault) → Checkpoints old r new → IfErr r IsCheckpointRefusal
checkpoint_refusal old new (Ok n) f = tt
checkpoint_refusal old new (Err fault.Device) f = tt
checkpoint_refusal old new (Err fault.Unknown) f = tt
checkpoint_refusal old new (Err fault.Closed) f = tt
checkpoint_refusal old new (Err fault.Spent) f = tt
checkpoint_refusal old new (Err e) f = absurd f
