use Rattle.tmem_record.proofs.CodecReads.{or_none, no_beginning}
use Rattle.tmem_record.proofs.codec.read_batch.Goals as goal

pub returns-in_err-generation-clause-none : goal.returns-in_err-generation-clause-none
returns-in_err-generation-clause-none c = or_none _ (no_beginning c.args.version c.args.vars c.args.bytes.now c.in_err-generation.ensures.none)
