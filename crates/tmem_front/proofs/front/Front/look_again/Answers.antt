use Rattle.std.proofs.Common.{arith}
use Rattle.std.proofs.lemmas.Grind.{common_steps}
use Rattle.tmem_front.proofs.front.Front.look_again.Goals as goal

pub loop-init : goal.loop-init
loop-init g c = grind (arith, common_steps)

pub returns-then-number-seen-clause-later : goal.returns-then-number-seen-clause-later
returns-then-number-seen-clause-later g c = grind (arith, common_steps)

pub loop-preserved : goal.loop-preserved
loop-preserved g c = grind (arith, common_steps)

pub returns-clause-later : goal.returns-clause-later
returns-clause-later g c = grind (arith, common_steps)
