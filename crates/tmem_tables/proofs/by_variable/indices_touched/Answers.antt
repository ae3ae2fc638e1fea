use Rattle.tmem_invariants.proofs.Laws.{has_index-zero}
use Rattle.tmem_tables.proofs.Touching.{touched_more}
use Rattle.tmem_tables.proofs.by_variable.indices_touched.Goals as goal

pub loop-var-init : goal.loop-var-init
loop-var-init c = λ index. has_index-zero index

pub loop-var-preserved : goal.loop-var-preserved
loop-var-preserved c = touched_more c.args.by_variable.now c.args.written.now c.loop-var.var-index c.loop-var.indices c.indices_over-indices.result _ c.loop-var-test.true c.indices_over-indices.ensures c.loop-var.invariant
