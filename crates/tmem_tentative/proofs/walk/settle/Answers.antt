use Rattle.std.proofs.Common.{arith}
use Rattle.tmem_effect.proofs.Laws.{length-without_name-le}
use Rattle.tmem_tentative.proofs.walk.settle.Goals as goal

pub returns-in-Some-true-clause-retired : goal.returns-in-Some-true-clause-retired
returns-in-Some-true-clause-retired c = grind (arith, length-without_name-le)
