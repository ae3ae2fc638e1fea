use Rattle.std.proofs.Common.{◌∙◌, sym}
use Rattle.std.proofs.lemmas.Result.{err_from_is_err_and}
use Rattle.tmem_bench.proofs.opening.open_until.Goals as goal

pub loop-init : goal.loop-init
loop-init g c = (c.zero-opened.ensures.work, c.zero-read.ensures.work)

pub with-opened-requires : goal.with-opened-requires
with-opened-requires g c = c.in_ok-open_once.ensures ∙ sym c.loop.invariant.0

pub with-read-requires : goal.with-read-requires
with-read-requires g c = c.in_ok-read_twice.ensures ∙ sym c.loop.invariant.1

pub loop-preserved : goal.loop-preserved
loop-preserved g c = (c.with-opened.ensures.work ∙ c.loop.invariant.0, c.with-read.ensures.work ∙ c.loop.invariant.1)

pub returns-in_err-open_once-clause-opened : goal.returns-in_err-open_once-clause-opened
returns-in_err-open_once-clause-opened g c = rw (err_from_is_err_and c.from_residual.result c.from_residual.ensures.1).1 tt

pub returns-in_err-open_once-clause-read : goal.returns-in_err-open_once-clause-read
returns-in_err-open_once-clause-read g c = rw (err_from_is_err_and c.from_residual.result c.from_residual.ensures.1).1 tt

pub returns-in_err-read_twice-clause-opened : goal.returns-in_err-read_twice-clause-opened
returns-in_err-read_twice-clause-opened g c = rw (err_from_is_err_and c.from_residual-in_err-read_twice.result c.from_residual-in_err-read_twice.ensures.1).1 tt

pub returns-in_err-read_twice-clause-read : goal.returns-in_err-read_twice-clause-read
returns-in_err-read_twice-clause-read g c = rw (err_from_is_err_and c.from_residual-in_err-read_twice.result c.from_residual-in_err-read_twice.ensures.1).1 tt
