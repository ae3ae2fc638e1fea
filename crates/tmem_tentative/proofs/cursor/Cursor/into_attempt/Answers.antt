use Rattle.tmem_tentative.specs.declared.attempt.Progress.TheVariants.{Ended}
use Rattle.tmem_tentative.proofs.CursorStands.{at_right}
use Rattle.tmem_tentative.proofs.cursor.Cursor.into_attempt.Goals as goal

pub returns-clause-right : goal.returns-clause-right
returns-clause-right c = λ m tests plan at. at_right m tests plan c.args.self Ended at c.requires
