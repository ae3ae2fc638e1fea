use Rattle.std.proofs.Common.{subst, sym, ap}
use Rattle.tmem_tree.specs.declared.tx.Tx.TheVariants.{Check}
use Rattle.tmem_bench.specs.Transactions.{AreDeposits}
use Rattle.tmem_bench.proofs.jobs.deposits.Goals as goal

pub returns : goal.returns
returns c = (c.in_ok-vec.field-0, c.all_of.ensures.is, subst AreDeposits (sym c.in_ok-vec.ensures.items) (c.in_ok-payer.ensures.runs, c.in_ok-payee.ensures.runs, ap Check c.in_ok-name.ensures.ok))
