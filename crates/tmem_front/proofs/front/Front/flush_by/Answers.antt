use Rattle.std.proofs.Common.{arith}
use Rattle.std.proofs.lemmas.Grind.{common_steps}
use Rattle.tmem_front.proofs.front.Front.flush_by.Goals as goal

pub write-flushed-requires-clause-goes_on : goal.write-flushed-requires-clause-goes_on
write-flushed-requires-clause-goes_on g c = grind (arith, common_steps)
