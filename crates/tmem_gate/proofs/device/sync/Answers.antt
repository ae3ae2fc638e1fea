use Rattle.tmem_gate.proofs.Laws.{reads_only}
use Rattle.tmem_gate.proofs.device.sync.Goals as goal

pub returns-in-Ok-clause-reads_only : goal.returns-in-Ok-clause-reads_only
returns-in-Ok-clause-reads_only g c = reads_only _ _ c.sync.ensures.seen c.sync.ensures.crash c.sync.ensures.time

pub returns-in-Err-clause-reads_only : goal.returns-in-Err-clause-reads_only
returns-in-Err-clause-reads_only g c = reads_only _ _ c.sync.ensures.seen c.sync.ensures.crash c.sync.ensures.time
