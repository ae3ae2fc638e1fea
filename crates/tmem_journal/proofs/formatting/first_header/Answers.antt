use Rattle.std.proofs.Common.{ℕ, ◌≡◌, ◌∙◌, List, [], ◌∷◌, ◌++◌, replicate, length, refl, ap, arith}
use Rattle.byteorder.specs.Endian.{little_bytes}
use Rattle.tmem_journal.proofs.Spelled.{header_is}
use Rattle.tmem_journal.proofs.formatting.first_header.Goals as goal

pub returns : goal.returns
returns c =
    let long : length c.to_le_bytes.result ≡ 8 = ap length c.to_le_bytes.ensures in
    header_is 2046 _ c.put.new.into c.put-2.new.into c.to_le_bytes.result c.put.result c.put-2.result c.byte.result (omega arith) refl long (omega (arith, c.put.ensures.next, long)) c.put.ensures.front c.put.ensures.rest c.put-2.ensures.next c.put-2.ensures.front c.put-2.ensures.rest
    ∙ ap (λ (gen : List ℕ). gen ++ (replicate 2038 0 ++ c.byte.result ∷ [])) c.to_le_bytes.ensures ∙ ap (λ (byte : ℕ). little_bytes 8 1 ++ (replicate 2038 0 ++ byte ∷ [])) c.byte.ensures
