use Rattle.std.proofs.Common.{arith}
use Rattle.std.proofs.lemmas.Grind.{common_steps}
use Rattle.tmem_front.proofs.front.Front.await_durable.Goals as goal

pub returns-then-number-durable-clause-later : goal.returns-then-number-durable-clause-later
returns-then-number-durable-clause-later g c = grind (arith, common_steps)

pub returns-else-number-durable-clause-later : goal.returns-else-number-durable-clause-later
returns-else-number-durable-clause-later g c = grind (arith, common_steps)
