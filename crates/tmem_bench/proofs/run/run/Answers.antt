use Rattle.std.proofs.Common.{arith}
use Rattle.std.proofs.lemmas.Grind.{common_steps}
use Rattle.tmem_bench.proofs.run.run.Goals as goal

pub run_in-had-requires-send-D : goal.run_in-had-requires-send-D
run_in-had-requires-send-D g c κs within = grind (arith, common_steps)
