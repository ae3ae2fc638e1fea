use Rattle.tmem_disk.proofs.Laws.{LeavesOnly-each}
use Rattle.tmem_gate.proofs.Laws.{reads_only}
use Rattle.tmem_gate.proofs.device.read.Goals as goal

pub returns-in-Ok-clause-reads_only : goal.returns-in-Ok-clause-reads_only
returns-in-Ok-clause-reads_only g c = reads_only _ _ c.read.ensures.seen (LeavesOnly-each _ _ c.read.ensures.crash) c.read.ensures.time

pub returns-in-Err-clause-reads_only : goal.returns-in-Err-clause-reads_only
returns-in-Err-clause-reads_only g c = reads_only _ _ c.read.ensures.seen (LeavesOnly-each _ _ c.read.ensures.crash) c.read.ensures.time
