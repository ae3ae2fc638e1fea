use Rattle.std.proofs.Common.{◌∙◌}
use Rattle.std.proofs.lemmas.Result.{err_from_is_err_and}
use Rattle.tmem_bench.proofs.service.settle_until.Goals as goal

pub loop-init : goal.loop-init
loop-init g c = c.zero-had.ensures.work

pub settle_some-requires-clause-steps : goal.settle_some-requires-clause-steps
settle_some-requires-clause-steps g c = c.requires.steps

pub settle_some-requires-clause-variables : goal.settle_some-requires-clause-variables
settle_some-requires-clause-variables g c = c.requires.variables

pub settle_some-requires-clause-names : goal.settle_some-requires-clause-names
settle_some-requires-clause-names g c = c.requires.names

pub settle_some-requires-clause-signatures : goal.settle_some-requires-clause-signatures
settle_some-requires-clause-signatures g c = c.requires.signatures

pub loop-preserved : goal.loop-preserved
loop-preserved g c = c.settle_some.ensures ∙ c.loop.invariant

pub returns-then-is_over : goal.returns-then-is_over
returns-then-is_over g c = c.settle_some.ensures ∙ c.loop.invariant

pub returns-in_err-settle_some : goal.returns-in_err-settle_some
returns-in_err-settle_some g c = rw (err_from_is_err_and c.from_residual.result c.from_residual.ensures.1).1 tt
