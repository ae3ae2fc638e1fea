use Rattle.std.proofs.Common.{rules}
use Rattle.tmem_requests.proofs.Wrongs.{nothing_wrong, wrong_here}
use Rattle.tmem_requests.specs.declared.why.RequestFlaw.TheVariants.{NotRequest}
use Rattle.tmem_requests.proofs.explain.wrong.WrongValue.unknown.Goals as goal

pub returns : goal.returns
returns c = λ scope d. wrong_here scope NotRequest _ d (search rules) (nothing_wrong scope d)
