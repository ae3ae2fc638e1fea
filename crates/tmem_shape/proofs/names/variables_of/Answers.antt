use Rattle.std.proofs.Common.{arith}
use Rattle.std.proofs.lemmas.Grind.{common_steps}
use Rattle.tmem_shape.proofs.names.variables_of.Goals as goal

pub loop-named-preserved : goal.loop-named-preserved
loop-named-preserved c = grind (arith, common_steps)

pub returns : goal.returns
returns c = grind (arith, common_steps)
