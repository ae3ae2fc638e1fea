use Rattle.std.proofs.lemmas.Grind.{common_steps}
use Rattle.std.proofs.Common.{arith}
use Rattle.tmem_tree.proofs.Laws.{depth-Seq, choices-Seq}
use Rattle.tmem_tree.proofs.choices.+count_choices.Goals as goal

pub loop-t-init : goal.loop-t-init
loop-t-init t c =
    record {
      deep = grind (arith, depth-Seq c.in-Seq.txs);
      few = grind (arith, depth-Seq c.in-Seq.txs);
      choices = grind (arith, choices-Seq c.in-Seq.txs);
    }

pub loop-t-preserved : goal.loop-t-preserved
loop-t-preserved t c = grind (arith, common_steps)

pub returns-after-loop-t-clause-choices : goal.returns-after-loop-t-clause-choices
returns-after-loop-t-clause-choices t c = grind (arith, common_steps)
