use Rattle.std.proofs.Common.{zero, suc, refl}
use Rattle.tmem_desk.specs.Asking.{store}
use Rattle.tmem_desk.specs.Held.{desk_view}
use Rattle.tmem_desk.specs.Serving.{Round}
use Rattle.tmem_desk.proofs.StepLaws.{Repeats-push}
use Rattle.tmem_desk.proofs.Losing.{handed, or_memory, rounds_turns, turns_until}
use Rattle.tmem_desk.proofs.desk.Desk.wake.Goals as goal

pub loop-init : goal.loop-init
loop-init g c = (zero, refl)

pub loop-preserved : goal.loop-preserved
loop-preserved g c =
    (suc c.loop.invariant.0, Repeats-push (Round (store g.N.Naming.name.start g.N.StoreNaming.opening g.N.ProgramNaming.program g.N.ServedNaming.arities g.N.ServedNaming.always)) c.loop.invariant.0 (desk_view c.args.self.now) (desk_view c.loop.self) (desk_view c.try_each.new.self) c.loop.invariant.1 c.in_ok-try_each.ensures.ok)

pub returns-in_err-try_each-clause-err : goal.returns-in_err-try_each-clause-err
returns-in_err-try_each-clause-err g c =
    handed c.from_residual.result c.in_err-try_each.field-0.0 _ c.from_residual.ensures.1
    (or_memory c.in_err-try_each.field-0.0
    (λ until.
    let turns = rounds_turns (store g.N.Naming.name.start g.N.StoreNaming.opening g.N.ProgramNaming.program g.N.ServedNaming.arities g.N.ServedNaming.always) c.loop.invariant.0 (desk_view c.args.self.now) (desk_view c.loop.self) c.loop.invariant.1 in
    turns_until (store g.N.Naming.name.start g.N.StoreNaming.opening g.N.ProgramNaming.program g.N.ServedNaming.arities g.N.ServedNaming.always) turns.0 (desk_view c.args.self.now) (desk_view c.loop.self) (desk_view c.try_each.new.self) turns.1 until)
    c.in_err-try_each.ensures.err)
