use Rattle.std.proofs.Math.Logic.{∥∥₁_elim}
use Rattle.std.proofs.Props.{props}
use Rattle.tmem_journal.proofs.Refused.{last_where_spent}
use Rattle.tmem_journal.proofs.laws.spent_is_at_last.Goals as goal

pub returns : goal.returns
returns c = λ vars slots p s content few is stands. ∥∥₁_elim stands (hlevel props) (last_where_spent vars slots few content is p s)
