use Rattle.std.proofs.Common.{ℕ, ◌∙◌, arith, rules, w64, FitsSigned}
use Rattle.std.proofs.lemmas.Int.{to_z-of_z}
use Rattle.tmem_record.proofs.CodecReads.{value_front}
use Rattle.tmem_record.proofs.codec.value_of.Goals as goal

pub returns-clause-parts : goal.returns-clause-parts
returns-clause-parts c =
    let fits : FitsSigned w64 c.read_i64.result = search rules in
    value_front _ c.args.bytes.now (λ (i : ℕ). omega (arith, c.type_inv.bytes i)) c.requires (to_z-of_z w64 _ fits ∙ c.read_i64.ensures)
