use Rattle.std.proofs.Common.{arith}
use Rattle.std.proofs.lemmas.Grind.{common_steps}
use Rattle.tmem_shape.proofs.shape.StoreShape.invariant_names.Goals as goal

pub loop-linear-preserved : goal.loop-linear-preserved
loop-linear-preserved c = grind (arith, common_steps)

pub returns : goal.returns
returns c = grind (arith, common_steps)
