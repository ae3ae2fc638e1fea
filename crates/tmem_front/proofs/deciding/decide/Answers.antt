use Rattle.tmem_front.proofs.Settled.{settles_as_decided}
use Rattle.tmem_front.proofs.deciding.decide.Goals as goal

pub returns-clause-settled : goal.returns-clause-settled
returns-clause-settled g c = settles_as_decided _ _ _ _ _ _ _ _ _ c.decide.ensures.decided
