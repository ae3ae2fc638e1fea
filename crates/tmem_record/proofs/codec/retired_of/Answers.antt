use Rattle.tmem_effect.proofs.Laws.{AreChecks-nil}
use Rattle.tmem_record.proofs.codec.retired_of.Goals as goal

pub returns-in-One-clause-are_checks : goal.returns-in-One-clause-are_checks
returns-in-One-clause-are_checks c = rw c.requires AreChecks-nil
