use Rattle.std.proofs.Common.{subst, sym}
use Rattle.tmem_bench.specs.Transactions.{AreOneMoved}
use Rattle.tmem_bench.proofs.jobs.transfer.Goals as goal

pub returns : goal.returns
returns c = (c.in_ok-vec.field-0, c.all_of.ensures.is, subst AreOneMoved (sym c.in_ok-vec.ensures.items) (c.in_ok-paid.ensures.runs, c.in_ok-received.ensures.runs))
