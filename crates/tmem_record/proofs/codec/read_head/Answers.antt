use Rattle.std.proofs.Common.{arith}
use Rattle.tmem_record.proofs.CodecReads.{head_alone}
use Rattle.tmem_record.proofs.codec.read_head.Goals as goal

pub returns : goal.returns
returns c =
    head_alone c.number_of-generation.result.0 c.number_of-first.result.0 c.short_of-count.result.0 c.args.bytes.now _ _ _ c.number_of-generation.ensures.parts c.number_of-first.ensures.parts c.short_of-count.ensures.parts (omega (arith, c.number_of-generation.ensures.rest, c.number_of-first.ensures.rest, c.short_of-count.ensures.rest))
