use Rattle.tmem_requests.proofs.buffer.ReadBuffer.value.Goals as goal

pub returns-in_err-text-clause-utf8 : goal.returns-in_err-text-clause-utf8
returns-in_err-text-clause-utf8 c = rw c.from_residual.ensures tt

pub returns-in_err-text-clause-value : goal.returns-in_err-text-clause-value
returns-in_err-text-clause-value c = rw c.from_residual.ensures tt

pub returns-in_err-reader-clause-utf8 : goal.returns-in_err-reader-clause-utf8
returns-in_err-reader-clause-utf8 c = rw c.from_residual-in_err-reader.ensures tt

pub returns-in_err-reader-clause-value : goal.returns-in_err-reader-clause-value
returns-in_err-reader-clause-value c = rw c.from_residual-in_err-reader.ensures tt

pub returns-in_err-value-clause-utf8 : goal.returns-in_err-value-clause-utf8
returns-in_err-value-clause-utf8 c = rw c.from_residual-in_err-value.ensures tt

pub returns-in_err-value-clause-value : goal.returns-in_err-value-clause-value
returns-in_err-value-clause-value c = rw c.from_residual-in_err-value.ensures tt
