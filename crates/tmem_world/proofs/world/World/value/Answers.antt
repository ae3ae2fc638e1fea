use Rattle.std.proofs.Common.{arith}
use Rattle.std.proofs.lemmas.Grind.{elements}
use Rattle.tmem_world.proofs.world.World.value.Goals as goal

pub returns : goal.returns
returns g c = grind (arith, elements)
