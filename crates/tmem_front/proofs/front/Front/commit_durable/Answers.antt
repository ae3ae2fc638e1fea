use Rattle.tmem_front.proofs.Awaiting.{refused_durably}
use Rattle.tmem_front.proofs.front.Front.commit_durable.Goals as goal

pub returns-in_err-settled-clause-settled : goal.returns-in_err-settled-clause-settled
returns-in_err-settled-clause-settled g c = ∣ refused_durably _ _ _ _ _ _ _ _ _ c.in_err-settled.was c.from_residual.ensures.1 c.atomically_with_room.ensures.settled ∣₁
