use Rattle.tmem_redolog.proofs.Closing.{Closing}
use Rattle.tmem_redolog.proofs.stale.close_gates.Given as goal

abbrev pub invariant-loop-k : goal.invariant-loop-k
invariant-loop-k g l = Closing l.layout.vars l.layout.slots l.from l.k (g.D.Disk.view l.fn.disk) (g.D.Disk.view l.disk) l.any
