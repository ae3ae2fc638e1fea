use Rattle.std.proofs.Common.{refl}
use Rattle.std.proofs.lemmas.Result.{err_from_is_err_and}
use Rattle.tmem_front.proofs.Laws.{knows_still}
use Rattle.tmem_desk.specs.Asking.{store}
use Rattle.tmem_desk.proofs.Laws.{handed}
use Rattle.tmem_serve.proofs.Settled.{proposal_later, knows_then}
use Rattle.tmem_serve.proofs.service.Service.settle_attempt.Goals as goal

pub returns-in-Some-2-clause-settles : goal.returns-in-Some-2-clause-settles
returns-in-Some-2-clause-settles g c = λ proposal made.
    proposal_later (store g.N.Naming.name.start g.N.StoreNaming.opening g.N.ProgramNaming.program g.N.ServedNaming.arities g.N.ServedNaming.always) proposal c.args.pass.now c.loop.pass c.settle_or_flush.new.pass c.in-Some-2.answer c.loop.invariant
    ((rw c.in-Some-2.is at c.in_ok-answer.ensures.settles) proposal made)

pub returns-in_err-answer-clause-settles : goal.returns-in_err-answer-clause-settles
returns-in_err-answer-clause-settles g c = rw (err_from_is_err_and c.from_residual.result c.from_residual.ensures.1).1 tt

pub returns-in_err-answer-clause-knows : goal.returns-in_err-answer-clause-knows
returns-in_err-answer-clause-knows g c =
    handed c.from_residual.result c.in_err-answer.field-0.0 _ c.from_residual.ensures.1 (knows_then c.args.pass.now c.loop.pass c.settle_or_flush.new.pass c.loop.invariant c.in_err-answer.ensures.knows)

pub loop-init : goal.loop-init
loop-init g c = knows_still c.args.pass.now

pub loop-preserved : goal.loop-preserved
loop-preserved g c = knows_then c.args.pass.now c.loop.pass c.settle_or_flush.new.pass c.loop.invariant (c.in_ok-answer.ensures.none (rw c.in_default.is refl))

pub settle_or_flush-requires-clause-variables : goal.settle_or_flush-requires-clause-variables
settle_or_flush-requires-clause-variables g c = c.requires.variables

pub settle_or_flush-requires-clause-names : goal.settle_or_flush-requires-clause-names
settle_or_flush-requires-clause-names g c = c.requires.names

pub returns-in-Some-2-clause-knows : goal.returns-in-Some-2-clause-knows
returns-in-Some-2-clause-knows g c = tt
