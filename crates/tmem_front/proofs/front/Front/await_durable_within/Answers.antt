use Rattle.std.proofs.Common.{arith}
use Rattle.std.proofs.lemmas.Grind.{common_steps}
use Rattle.tmem_front.proofs.front.Front.await_durable_within.Goals as goal

pub returns-then-number-durable-clause-later : goal.returns-then-number-durable-clause-later
returns-then-number-durable-clause-later g c = grind (arith, common_steps)

pub returns-then-has_ended-clause-later : goal.returns-then-has_ended-clause-later
returns-then-has_ended-clause-later g c = grind (arith, common_steps)

pub returns-else-has_ended-clause-later : goal.returns-else-has_ended-clause-later
returns-else-has_ended-clause-later g c = grind (arith, common_steps)
