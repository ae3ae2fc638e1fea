use Rattle.std.proofs.Common.{arith}
use Rattle.std.proofs.lemmas.Grind.{common_steps}
use Rattle.tmem_seats.proofs.core_seat.CoreSeat.peek_all.Goals as goal

pub loop-var-preserved : goal.loop-var-preserved
loop-var-preserved g c = grind (arith, common_steps)

pub returns-clause-values : goal.returns-clause-values
returns-clause-values g c = grind (arith, common_steps)
