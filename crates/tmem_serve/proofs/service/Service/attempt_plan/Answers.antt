use Rattle.std.proofs.Common.{subst}
use Rattle.tmem_tree.specs.declared.settled.Settled.{Settled}
use Rattle.tmem_desk.specs.Asking.{SettlesTx, store}
use Rattle.tmem_serve.proofs.service.Service.attempt_plan.Goals as goal

pub returns-then-is_retry-clause-tries : goal.returns-then-is_retry-clause-tries
returns-then-is_retry-clause-tries g c =
    subst
    (λ (settled : Settled). SettlesTx (store g.N.Naming.name.start g.N.StoreNaming.opening g.N.ProgramNaming.program g.N.ServedNaming.arities g.N.ServedNaming.always) c.args.ready.now.plan.tree c.args.pass.now settled c.settle.new.pass)
    (c.is_retry.ensures.retry c.if-is_retry.true) c.in_ok-settled.ensures.settles
