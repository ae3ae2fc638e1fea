use Rattle.std.proofs.Common.{arith}
use Rattle.std.proofs.lemmas.Grind.{common_steps}
use Rattle.tmem_front.proofs.front.Front.into_disk.Goals as goal

pub returns : goal.returns
returns g c = grind (arith, common_steps)
