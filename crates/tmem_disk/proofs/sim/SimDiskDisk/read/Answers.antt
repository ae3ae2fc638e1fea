use Rattle.std.proofs.Common.{refl}
use Rattle.tmem_disk.proofs.Calls.{call_fails, call_works}
use Rattle.tmem_disk.proofs.sim.SimDiskDisk.read.Goals as goal

pub returns-then-fails_at_read-clause-call : goal.returns-then-fails_at_read-clause-call
returns-then-fails_at_read-clause-call c = call_fails _ _ _ refl c.note.ensures.count c.note.ensures.last (λ k. k)

pub returns-clause-call : goal.returns-clause-call
returns-clause-call c = call_works _ _ _ _ refl refl refl (λ k. k)
