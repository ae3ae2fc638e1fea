use Rattle.tmem_record.proofs.CodecReads.{or_none}
use Rattle.tmem_record.proofs.ReadOnto.{no_beginning_onto}
use Rattle.tmem_record.proofs.onto.commit_batch.Goals as goal

pub returns-in_err-generation-clause-none : goal.returns-in_err-generation-clause-none
returns-in_err-generation-clause-none c = or_none _ (no_beginning_onto c.args.version c.args.vars c.args.state.now c.args.bytes.now c.in_err-generation.ensures.none)
