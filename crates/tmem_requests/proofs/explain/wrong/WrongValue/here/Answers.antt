use Rattle.tmem_requests.proofs.Wrongs.{wrong_here}
use Rattle.tmem_requests.proofs.explain.wrong.WrongValue.here.Goals as goal

pub returns : goal.returns
returns c = λ scope d is. wrong_here scope c.args.why c.new.result.items d c.new.ensures.items is
