use Rattle.std.proofs.Common.{sym, subst}
use Rattle.tmem_tree.specs.declared.tx.Tx.{Tx}
use Rattle.tmem_bench.specs.Transactions.{Does}
use Rattle.tmem_bench.proofs.service.FrontSharedStore.work.Goals as goal

pub settle_until-had-requires-clause-does : goal.settle_until-had-requires-clause-does
settle_until-had-requires-clause-does g c = subst (λ (tx : Tx). Does c.args.job.act tx) (sym c.in_ok-plan.ensures.plan) c.in_ok-transaction.ensures

pub settle_until-had-requires-clause-steps : goal.settle_until-had-requires-clause-steps
settle_until-had-requires-clause-steps g c = c.in_ok-plan.ensures.steps

pub settle_until-had-requires-clause-variables : goal.settle_until-had-requires-clause-variables
settle_until-had-requires-clause-variables g c = c.in_ok-plan.ensures.variables

pub settle_until-had-requires-clause-names : goal.settle_until-had-requires-clause-names
settle_until-had-requires-clause-names g c = c.in_ok-plan.ensures.names
