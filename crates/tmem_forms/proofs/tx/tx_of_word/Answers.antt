use Rattle.tmem_forms.proofs.Levels.{IsTx-Skip, IsTx-Retry}
use Rattle.tmem_forms.proofs.tx.tx_of_word.Goals as goal

pub returns-in-skip-clause-ok : goal.returns-in-skip-clause-ok
returns-in-skip-clause-ok c = rw c.in-skip.is IsTx-Skip

pub returns-in-retry-clause-ok : goal.returns-in-retry-clause-ok
returns-in-retry-clause-ok c = rw c.in-retry.is IsTx-Retry
