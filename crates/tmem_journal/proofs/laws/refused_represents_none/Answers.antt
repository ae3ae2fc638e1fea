use Rattle.std.proofs.Math.Logic.{∥∥₁_elim}
use Rattle.std.proofs.Props.{props}
use Rattle.tmem_journal.proofs.Refused.{none_where_refused}
use Rattle.tmem_journal.proofs.laws.refused_represents_none.Goals as goal

pub returns : goal.returns
returns c = λ vars slots p s content f other layout is stands. ∥∥₁_elim stands (hlevel props) (none_where_refused vars slots layout content f other is p s)
