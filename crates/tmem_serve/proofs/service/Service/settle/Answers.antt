use Rattle.std.proofs.Common.{ℕ, List, sym, subst}
use Rattle.std.proofs.lemmas.Result.{err_from_is_err_and}
use Rattle.tmem_tree.specs.Plans.{FitsSteps, FitsVariables}
use Rattle.tmem_front.proofs.Laws.{knows_still}
use Rattle.tmem_desk.specs.Asking.{store}
use Rattle.tmem_desk.proofs.Laws.{handed}
use Rattle.tmem_serve.proofs.Settled.{settles_tx, knows_again}
use Rattle.tmem_serve.proofs.service.Service.settle.Goals as goal

pub try_atomically-requires-clause-steps : goal.try_atomically-requires-clause-steps
try_atomically-requires-clause-steps g c = subst (λ (l : List ℕ). FitsSteps l c.args.ready.now.plan.tree) (sym c.args.self.now.arities) c.args.ready.now.steps

pub loop-init : goal.loop-init
loop-init g c = knows_still c.args.pass.now

pub loop-preserved-in-Err-Conflict : goal.loop-preserved-in-Err-Conflict
loop-preserved-in-Err-Conflict g c =
    knows_again (store g.N.Naming.name.start g.N.StoreNaming.opening g.N.ProgramNaming.program g.N.ServedNaming.arities g.N.ServedNaming.always) c.args.ready.now.plan.tree c.args.pass.now c.loop.pass c.try_atomically.new.pass c.try_atomically.result c.in-Err-Conflict.field-0 c.loop.invariant c.try_atomically.ensures.settled c.in-Err-Conflict.is

pub loop-preserved : goal.loop-preserved
loop-preserved g c =
    knows_again (store g.N.Naming.name.start g.N.StoreNaming.opening g.N.ProgramNaming.program g.N.ServedNaming.arities g.N.ServedNaming.always) c.args.ready.now.plan.tree c.args.pass.now c.loop.pass c.try_atomically.new.pass c.try_atomically.result c.in-Err-Full.field-0 c.loop.invariant c.try_atomically.ensures.settled c.in-Err-Full.is

pub returns-in-Ok-clause-settles : goal.returns-in-Ok-clause-settles
returns-in-Ok-clause-settles g c =
    settles_tx (store g.N.Naming.name.start g.N.StoreNaming.opening g.N.ProgramNaming.program g.N.ServedNaming.arities g.N.ServedNaming.always) c.args.ready.now.plan.tree c.args.pass.now c.loop.pass c.try_atomically.new.pass c.try_atomically.result c.in-Ok.settled c.loop.invariant c.try_atomically.ensures.settled c.in-Ok.is

pub returns-in_err-flush_with_room-in-Err-Full-clause-knows : goal.returns-in_err-flush_with_room-in-Err-Full-clause-knows
returns-in_err-flush_with_room-in-Err-Full-clause-knows g c =
    handed c.from_residual.result c.in_err-flush_with_room-in-Err-Full.field-0.0 _ c.from_residual.ensures.1
    (knows_again (store g.N.Naming.name.start g.N.StoreNaming.opening g.N.ProgramNaming.program g.N.ServedNaming.arities g.N.ServedNaming.always) c.args.ready.now.plan.tree c.args.pass.now c.loop.pass c.try_atomically.new.pass c.try_atomically.result c.in-Err-Full.field-0 c.loop.invariant c.try_atomically.ensures.settled c.in-Err-Full.is)

pub returns-in-Err : goal.returns-in-Err
returns-in-Err g c = record {
  settles = tt;
  knows = knows_again (store g.N.Naming.name.start g.N.StoreNaming.opening g.N.ProgramNaming.program g.N.ServedNaming.arities g.N.ServedNaming.always) c.args.ready.now.plan.tree c.args.pass.now c.loop.pass c.try_atomically.new.pass c.try_atomically.result c.in-Err.fault c.loop.invariant c.try_atomically.ensures.settled c.in-Err.is;
}

pub returns-in_err-flush_with_room-in-Err-Full-clause-settles : goal.returns-in_err-flush_with_room-in-Err-Full-clause-settles
returns-in_err-flush_with_room-in-Err-Full-clause-settles g c = rw (err_from_is_err_and c.from_residual.result c.from_residual.ensures.1).1 tt

pub try_atomically-requires-clause-variables : goal.try_atomically-requires-clause-variables
try_atomically-requires-clause-variables g c = subst (λ (n : ℕ). FitsVariables n c.args.ready.now.plan) (sym c.args.self.now.front.now.over) c.args.ready.now.variables

pub try_atomically-requires-clause-names : goal.try_atomically-requires-clause-names
try_atomically-requires-clause-names g c = c.args.ready.now.names

pub try_atomically-requires-clause-signatures : goal.try_atomically-requires-clause-signatures
try_atomically-requires-clause-signatures g c = c.args.ready.now.signatures

pub returns-in-Ok-clause-knows : goal.returns-in-Ok-clause-knows
returns-in-Ok-clause-knows g c = tt
