use Rattle.std.proofs.Common.{inr, sym, subst}
use Rattle.std.proofs.Math.Logic.{∥∥₁_map}
use Rattle.tmem_tentative.specs.Right.{IsRight}
use Rattle.tmem_spine.specs.Views.{PassRoleView}
use Rattle.tmem_seats.specs.Settling.{SettlesPass, SettlesPlan}
use Rattle.tmem_front.proofs.front.Front.try_atomically.Goals as goal

pub returns-clause-settled : goal.returns-clause-settled
returns-clause-settled g c =
    let p = g.N.ProgramNaming.program in
    let settled = subst (λ (v : PassRoleView). SettlesPass g.N.Naming.name.start g.N.StoreNaming.opening p c.attempt.result.now v c.settle_under.result c.settle_under.new.seat) c.pass.view_is c.settle_under.ensures.settled in
    inr (∥∥₁_map c.args.self.now.stated (λ s. (
      c.attempt.result.now,
      subst (λ a. IsRight p.steps p.tests c.args.plan.now.tree a) (sym c.attempt.ensures.attempt) (c.in_ok-evaluate.ensures.right p.steps s),
      settled,
    )))

pub returns-then-is_short-clause-settled : goal.returns-then-is_short-clause-settled
returns-then-is_short-clause-settled g c =
    subst (λ (v : PassRoleView). SettlesPlan g.N.Naming.name.start g.N.StoreNaming.opening g.N.ProgramNaming.program c.args.plan.now.tree v c.try_alone.result c.try_alone.new.seat) c.pass.view_is c.try_alone.ensures.settled
