use Rattle.std.proofs.Common.{inr, subst}
use Rattle.tmem_tree.specs.declared.tx.Tx.{Tx}
use Rattle.tmem_desk.specs.Asking.{SettlesTx, store}
use Rattle.tmem_serve.proofs.service.ServiceServedStore.try_once.Goals as goal

pub returns-in_ok-settled-in-Ok-clause-answers : goal.returns-in_ok-settled-in-Ok-clause-answers
returns-in_ok-settled-in-Ok-clause-answers g c =
    inr (
      c.in_ok-settled-in-Ok.settled,
      record {
        then = c.settle.new.pass;
        settles =
            subst (λ (tx : Tx). SettlesTx (store g.N.Naming.name.start g.N.StoreNaming.opening g.N.ProgramNaming.program g.N.ServedNaming.arities g.N.ServedNaming.always) tx c.args.pass.now c.in_ok-settled-in-Ok.settled c.settle.new.pass) c.in-Ok.ensures.plan c.in_ok-settled-in-Ok.ensures.settles;
        knows = c.told_ending.ensures.knows;
        tells = c.told_ending.ensures.tells;
      },
    )
