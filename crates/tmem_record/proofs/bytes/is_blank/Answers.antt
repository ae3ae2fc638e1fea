use Rattle.tmem_record.proofs.Standing.{blank_read, blank_reads, between_is}
use Rattle.tmem_record.proofs.bytes.is_blank.Goals as goal

pub returns : goal.returns
returns c = (λ yes. blank_read c.args.from c.args.count c.args.bytes.now _ (between_is c.args.from c.args.count c.args.bytes.now) c.requires (c.is_zero.ensures.0 yes), λ stands. c.is_zero.ensures.1 (blank_reads c.args.from c.args.count c.args.bytes.now _ (between_is c.args.from c.args.count c.args.bytes.now) c.requires stands))
