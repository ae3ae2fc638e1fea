use Rattle.std.proofs.Math.Logic.{∥∥₁_elim}
use Rattle.std.proofs.Props.{props}
use Rattle.tmem_journal.proofs.Unique.{one_state_at_most}
use Rattle.tmem_journal.proofs.laws.represents_one.Goals as goal

pub returns : goal.returns
returns c = λ vars slots p q s t content few one other. ∥∥₁_elim one (hlevel props) (λ held. ∥∥₁_elim other (hlevel props) (one_state_at_most vars slots few content p q s t held))
