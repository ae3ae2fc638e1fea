use Rattle.tmem_disk.proofs.Fills.{LeftBy-stamped}
use Rattle.tmem_disk.proofs.sim.fill_unsynced.Goals as goal

pub returns-in-Byte-clause-left : goal.returns-in-Byte-clause-left
returns-in-Byte-clause-left c = rw (c.stamp.ensures, c.deref-in-Byte.ensures.value) (LeftBy-stamped c.in-Byte.byte _ _ _ c.requires.agrees)
