use Rattle.std.proofs.Common.{ℕ, arith}
use Rattle.tmem_record.proofs.CodecReads.{number_front}
use Rattle.tmem_record.proofs.codec.short_of.Goals as goal

pub returns-clause-parts : goal.returns-clause-parts
returns-clause-parts c = number_front 2 _ c.args.bytes.now (λ (i : ℕ). omega (arith, c.type_inv.bytes i)) c.requires c.read_u16.ensures
