use Rattle.std.proofs.Common.{refl}
use Rattle.std.proofs.lemmas.Result.{err_from_is_err_and}
use Rattle.tmem_bench.proofs.on_core.settle_on.Goals as goal

pub loop-init : goal.loop-init
loop-init g c = c.requires.sized

pub settle_round-requires-clause-steps : goal.settle_round-requires-clause-steps
settle_round-requires-clause-steps g c = c.requires.steps

pub settle_round-requires-clause-variables : goal.settle_round-requires-clause-variables
settle_round-requires-clause-variables g c = c.requires.variables

pub settle_round-requires-clause-names : goal.settle_round-requires-clause-names
settle_round-requires-clause-names g c = c.requires.names

pub settle_round-requires-clause-sized : goal.settle_round-requires-clause-sized
settle_round-requires-clause-sized g c = c.loop.invariant

pub loop-preserved : goal.loop-preserved
loop-preserved g c = c.settle_round.ensures

pub returns-clause-work : goal.returns-clause-work
returns-clause-work g c = refl

pub returns-in_err-start-clause-work : goal.returns-in_err-start-clause-work
returns-in_err-start-clause-work g c = rw (err_from_is_err_and c.from_residual.result c.from_residual.ensures.1).1 tt

pub returns-in_err-start-clause-counted : goal.returns-in_err-start-clause-counted
returns-in_err-start-clause-counted g c = rw (err_from_is_err_and c.from_residual.result c.from_residual.ensures.1).1 tt

pub returns-in_err-settle_round-clause-work : goal.returns-in_err-settle_round-clause-work
returns-in_err-settle_round-clause-work g c = rw (err_from_is_err_and c.from_residual-in_err-settle_round.result c.from_residual-in_err-settle_round.ensures.1).1 tt

pub returns-in_err-settle_round-clause-counted : goal.returns-in_err-settle_round-clause-counted
returns-in_err-settle_round-clause-counted g c = rw (err_from_is_err_and c.from_residual-in_err-settle_round.result c.from_residual-in_err-settle_round.ensures.1).1 tt

pub returns-in_err-since-clause-work : goal.returns-in_err-since-clause-work
returns-in_err-since-clause-work g c = rw (err_from_is_err_and c.from_residual-in_err-since.result c.from_residual-in_err-since.ensures.1).1 tt

pub returns-in_err-since-clause-counted : goal.returns-in_err-since-clause-counted
returns-in_err-since-clause-counted g c = rw (err_from_is_err_and c.from_residual-in_err-since.result c.from_residual-in_err-since.ensures.1).1 tt
