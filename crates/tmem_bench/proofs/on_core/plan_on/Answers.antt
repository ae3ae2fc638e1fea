use Rattle.std.proofs.Common.{sym, subst}
use Rattle.tmem_tree.specs.Plans.{FitsSteps}
use Rattle.tmem_tree.specs.declared.tx.Tx.{Tx}
use Rattle.tmem_bench.specs.Transactions.{Does}
use Rattle.tmem_bench.proofs.on_core.plan_on.Goals as goal

pub settle_on-requires-clause-does : goal.settle_on-requires-clause-does
settle_on-requires-clause-does g c = subst (λ (tx : Tx). Does c.args.job.act tx) (sym c.in_ok-plan.ensures.plan) c.in_ok-transaction.ensures

pub settle_on-requires-clause-sized : goal.settle_on-requires-clause-sized
settle_on-requires-clause-sized g c = c.requires

pub settle_on-requires-clause-steps : goal.settle_on-requires-clause-steps
settle_on-requires-clause-steps g c = subst (λ (tx : Tx). FitsSteps (g.S.StoredSteps.arities c.args.steps.now) tx) (sym c.in_ok-plan.ensures.plan) c.in_ok-plan.ensures.steps
