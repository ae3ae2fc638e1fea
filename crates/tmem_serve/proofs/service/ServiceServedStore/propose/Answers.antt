use Rattle.std.proofs.Common.{arith}
use Rattle.std.proofs.lemmas.Grind.{common_steps}
use Rattle.tmem_serve.proofs.service.ServiceServedStore.propose.Goals as goal

pub returns-in_err-attempt-clause-knows : goal.returns-in_err-attempt-clause-knows
returns-in_err-attempt-clause-knows g c = grind (arith, common_steps)
