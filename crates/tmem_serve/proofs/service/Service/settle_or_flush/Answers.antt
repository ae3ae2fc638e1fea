use Rattle.std.proofs.Common.{Result, Ok, Err, refl, subst}
use Rattle.std.proofs.lemmas.Result.{err_from_is_err_and}
use Rattle.tmem_fault.specs.declared.fault.Fault.{Fault}
use Rattle.tmem_tree.specs.declared.settled.Settled.{Settled}
use Rattle.tmem_seats.specs.Settling.{SettlesPass}
use Rattle.tmem_front.proofs.Laws.{knows_still}
use Rattle.tmem_desk.specs.Asking.{store}
use Rattle.tmem_desk.proofs.Laws.{handed}
use Rattle.tmem_serve.proofs.Settled.{knows_again_elsewhere}
use Rattle.tmem_serve.proofs.service.Service.settle_or_flush.Goals as goal

pub returns-in-Ok-clause-settles : goal.returns-in-Ok-clause-settles
returns-in-Ok-clause-settles g c = λ proposal made. record {
  attempt = c.args.attempt.now;
  made = made;
  result = Ok c.in-Ok.settled;
  then = c.settle.new.pass;
  settles = subst (λ (r : Result Settled Fault). SettlesPass g.N.Naming.name.start g.N.StoreNaming.opening g.N.ProgramNaming.program c.args.attempt.now c.args.pass.now r c.settle.new.pass) c.in-Ok.is c.settle.ensures.settled;
  knows = c.told_ending_of.ensures.knows;
  tells = c.told_ending_of.ensures.tells;
  end = c.told_ending_of.ensures.end;
}

pub returns-in-Err-Conflict-clause-settles : goal.returns-in-Err-Conflict-clause-settles
returns-in-Err-Conflict-clause-settles g c = λ proposal made. record {
  attempt = c.args.attempt.now;
  made = made;
  result = Err c.in-Err-Conflict.field-0;
  then = c.settle.new.pass;
  settles =
      subst (λ (r : Result Settled Fault). SettlesPass g.N.Naming.name.start g.N.StoreNaming.opening g.N.ProgramNaming.program c.args.attempt.now c.args.pass.now r c.settle.new.pass) c.in-Err-Conflict.is c.settle.ensures.settled;
  knows = knows_still c.settle.new.pass;
  tells = (cc, refl);
  end = tt;
}

pub returns-in_ok-flush_with_room-in-Err-Full-clause-none : goal.returns-in_ok-flush_with_room-in-Err-Full-clause-none
returns-in_ok-flush_with_room-in-Err-Full-clause-none g c = λ _.
    knows_again_elsewhere (store g.N.Naming.name.start g.N.StoreNaming.opening g.N.ProgramNaming.program g.N.ServedNaming.arities g.N.ServedNaming.always) c.args.attempt.now c.args.pass.now c.args.pass.now c.settle.new.pass c.settle.result c.in-Err-Full.field-0 (knows_still c.args.pass.now) c.settle.ensures.settled c.in-Err-Full.is

pub returns-in_err-flush_with_room-in-Err-Full-clause-knows : goal.returns-in_err-flush_with_room-in-Err-Full-clause-knows
returns-in_err-flush_with_room-in-Err-Full-clause-knows g c =
    handed c.from_residual.result c.in_err-flush_with_room-in-Err-Full.field-0.0 _ c.from_residual.ensures.1
    (knows_again_elsewhere (store g.N.Naming.name.start g.N.StoreNaming.opening g.N.ProgramNaming.program g.N.ServedNaming.arities g.N.ServedNaming.always) c.args.attempt.now c.args.pass.now c.args.pass.now c.settle.new.pass c.settle.result c.in-Err-Full.field-0 (knows_still c.args.pass.now) c.settle.ensures.settled c.in-Err-Full.is)

pub returns-in-Err-clause-knows : goal.returns-in-Err-clause-knows
returns-in-Err-clause-knows g c =
    knows_again_elsewhere (store g.N.Naming.name.start g.N.StoreNaming.opening g.N.ProgramNaming.program g.N.ServedNaming.arities g.N.ServedNaming.always) c.args.attempt.now c.args.pass.now c.args.pass.now c.settle.new.pass c.settle.result c.in-Err.fault (knows_still c.args.pass.now) c.settle.ensures.settled c.in-Err.is

pub returns-in_err-flush_with_room-in-Err-Full-clause-settles : goal.returns-in_err-flush_with_room-in-Err-Full-clause-settles
returns-in_err-flush_with_room-in-Err-Full-clause-settles g c = rw (err_from_is_err_and c.from_residual.result c.from_residual.ensures.1).1 tt

pub returns-in_err-flush_with_room-in-Err-Full-clause-none : goal.returns-in_err-flush_with_room-in-Err-Full-clause-none
returns-in_err-flush_with_room-in-Err-Full-clause-none g c = rw (err_from_is_err_and c.from_residual.result c.from_residual.ensures.1).1 tt

pub returns-in-Ok-clause-knows : goal.returns-in-Ok-clause-knows
returns-in-Ok-clause-knows g c = tt

pub returns-in-Err-clause-settles : goal.returns-in-Err-clause-settles
returns-in-Err-clause-settles g c = tt

pub returns-in-Err-clause-none : goal.returns-in-Err-clause-none
returns-in-Err-clause-none g c = tt

pub returns-in-Err-Conflict-clause-knows : goal.returns-in-Err-Conflict-clause-knows
returns-in-Err-Conflict-clause-knows g c = tt

pub returns-in_ok-flush_with_room-in-Err-Full-clause-settles : goal.returns-in_ok-flush_with_room-in-Err-Full-clause-settles
returns-in_ok-flush_with_room-in-Err-Full-clause-settles g c = tt

pub returns-in_ok-flush_with_room-in-Err-Full-clause-knows : goal.returns-in_ok-flush_with_room-in-Err-Full-clause-knows
returns-in_ok-flush_with_room-in-Err-Full-clause-knows g c = tt
