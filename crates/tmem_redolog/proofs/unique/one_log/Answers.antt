use Rattle.tmem_redolog.proofs.OneLog.{one_log}
use Rattle.tmem_redolog.proofs.unique.one_log.Goals as goal

pub returns : goal.returns
returns c = one_log
