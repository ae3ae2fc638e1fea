use Rattle.std.proofs.Common.{ℕ, arith}
use Rattle.tmem_record.proofs.Standing.{number_read}
use Rattle.tmem_record.proofs.bytes.short_at.Goals as goal

pub returns : goal.returns
returns c = number_read 2 c.args.at _ c.args.bytes.now (λ (i : ℕ). omega (arith, c.type_inv.bytes i)) c.requires c.read_u16.ensures
