use Rattle.std.proofs.Common.{ℕ, ◌∙◌, arith, rules, w64, FitsSigned}
use Rattle.std.proofs.lemmas.Int.{to_z-of_z}
use Rattle.tmem_record.proofs.Standing.{value_read}
use Rattle.tmem_record.proofs.bytes.value_at.Goals as goal

pub returns-clause-bytes : goal.returns-clause-bytes
returns-clause-bytes c =
    let fits : FitsSigned w64 c.read_i64.result = search rules in
    value_read c.args.at _ c.args.bytes.now (λ (i : ℕ). omega (arith, c.type_inv.bytes i)) c.requires (to_z-of_z w64 _ fits ∙ c.read_i64.ensures)
