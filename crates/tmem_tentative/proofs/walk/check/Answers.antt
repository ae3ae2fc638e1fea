use Rattle.std.proofs.Common.{arith}
use Rattle.std.proofs.lemmas.Grind.{common_steps}
use Rattle.tmem_tentative.proofs.walk.check.Goals as goal

pub returns-clause-names : goal.returns-clause-names
returns-clause-names c = grind (arith, common_steps)

pub returns-clause-flow : goal.returns-clause-flow
returns-clause-flow c = grind (arith, common_steps)
