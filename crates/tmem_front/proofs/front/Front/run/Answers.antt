use Rattle.std.proofs.Common.{Result, sym, subst}
use Rattle.tmem_fault.specs.declared.fault.Fault.{Fault}
use Rattle.tmem_tree.specs.declared.settled.Settled.{Settled}
use Rattle.tmem_spine.specs.Views.{PassRoleView}
use Rattle.tmem_seats.specs.Settling.{KnowsMore, SettlesAtLast}
use Rattle.tmem_front.proofs.Again.{knows_still, knows_more_at_last, settles_at_last, not_over}
use Rattle.tmem_front.proofs.front.Front.run.Goals as goal

pub loop-init : goal.loop-init
loop-init g c = subst (λ (v : PassRoleView). KnowsMore c.args.pass.now v) (sym c.pass.view_is) (knows_still c.args.pass.now)

pub loop-preserved : goal.loop-preserved
loop-preserved g c =
    let turn = settles_at_last g.N.Naming.name.start g.N.StoreNaming.opening g.N.ProgramNaming.program c.args.plan.now.tree c.args.pass.now _ _ _ c.loop.invariant c.take_turn-answer.ensures.settled in
    knows_more_at_last g.N.Naming.name.start g.N.StoreNaming.opening g.N.ProgramNaming.program c.args.plan.now.tree c.args.pass.now _ _ (λ effect. c.is_done.ensures.again _ effect c.if-is_done.false) turn

pub returns-then-is_done-clause-settled : goal.returns-then-is_done-clause-settled
returns-then-is_done-clause-settled g c =
    let turn = settles_at_last g.N.Naming.name.start g.N.StoreNaming.opening g.N.ProgramNaming.program c.args.plan.now.tree c.args.pass.now _ _ _ c.loop.invariant c.take_turn-answer.ensures.settled in
    subst (λ (answer : Result Settled Fault). SettlesAtLast g.N.Naming.name.start g.N.StoreNaming.opening g.N.ProgramNaming.program c.args.plan.now.tree c.args.pass.now answer c.take_turn-answer.new.seat) (sym c.whole.ensures) turn

pub returns-then-is_done-clause-no_conflict : goal.returns-then-is_done-clause-no_conflict
returns-then-is_done-clause-no_conflict g c = rw c.whole.ensures (c.is_done.ensures.no_conflict _ c.if-is_done.true)

pub returns-then-is_done-clause-no_retry : goal.returns-then-is_done-clause-no_retry
returns-then-is_done-clause-no_retry g c = λ never.
    rw c.whole.ensures (c.is_done.ensures.no_retry _ c.if-is_done.true (not_over _ c.is_over-is_late.ensures never))

pub returns-then-is_done-clause-no_full : goal.returns-then-is_done-clause-no_full
returns-then-is_done-clause-no_full g c = λ never waits.
    rw c.whole.ensures (c.is_done.ensures.no_full _ c.if-is_done.true (not_over _ c.is_over-is_late.ensures never) waits)
