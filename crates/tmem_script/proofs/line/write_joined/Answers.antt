use Rattle.std.proofs.Common.{arith}
use Rattle.std.proofs.lemmas.Grind.{common_steps}
use Rattle.tmem_script.proofs.line.write_joined.Goals as goal

pub loop-other-preserved : goal.loop-other-preserved
loop-other-preserved g c = grind (arith, common_steps)
