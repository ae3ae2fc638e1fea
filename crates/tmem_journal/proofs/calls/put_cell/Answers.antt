use Rattle.std.proofs.Common.{◌≡◌, ◌⊎◌, inl, inr, subst}
use Rattle.std.specs.Prelude.{Err}
use Rattle.tmem_disk.specs.Disk.{DeviceView}
use Rattle.tmem_fault.specs.declared.fault.Fault.{Fault}
use Rattle.tmem_fault.specs.declared.fault.Fault.TheVariants.{Device, Unknown}
use Rattle.tmem_gate.specs.Calls.{Uses}
use Rattle.tmem_journal.proofs.Building.{there_or_not}
use Rattle.tmem_journal.proofs.calls.put_cell.Goals as goal

-- each of the two counts as a failed call
told_as_device : (old new : DeviceView) (f : Fault) → (f ≡ Device) ⊎ (f ≡ Unknown) → Uses {T = Unit {0}} old new (Err f) → Uses {T = Unit {0}} old new (Err Device)
told_as_device old new f (inl is) uses = subst (λ (e : Fault). Uses {T = Unit {0}} old new (Err e)) is uses
told_as_device old new f (inr is) uses =
    let it : Uses {T = Unit {0}} old new (Err Unknown) = subst (λ (e : Fault). Uses {T = Unit {0}} old new (Err e)) is uses in
    record { capacity = it.capacity; model = it.model; failures = it.failures }

pub returns-in-Err-clause-uses : goal.returns-in-Err-clause-uses
returns-in-Err-clause-uses g c = told_as_device _ _ _ c.in-Err.ensures.errors c.in-Err.ensures.uses

pub returns-in-Ok-clause-any_moment : goal.returns-in-Ok-clause-any_moment
returns-in-Ok-clause-any_moment g c = there_or_not _ _ _ _ c.put_cell.result c.put_cell.ensures.errors c.put_cell.ensures.puts.any_moment

pub returns-in-Err-clause-any_moment : goal.returns-in-Err-clause-any_moment
returns-in-Err-clause-any_moment g c = there_or_not _ _ _ _ c.put_cell.result c.put_cell.ensures.errors c.put_cell.ensures.puts.any_moment
