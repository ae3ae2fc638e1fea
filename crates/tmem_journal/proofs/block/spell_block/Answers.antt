use Rattle.std.proofs.Common.{ℕ, ◌≡◌, ◌-◌, ◌∙◌, replicate, length, refl, ap, arith}
use Rattle.tmem_journal.proofs.Spelled.{block_is, rest_is}
use Rattle.tmem_journal.proofs.block.spell_block.Goals as goal

pub returns : goal.returns
returns c =
    let vars_two : length c.to_le_bytes.result ≡ 2 = ap length c.to_le_bytes.ensures in
    let slots_two : length c.to_le_bytes-2.result ≡ 2 = ap length c.to_le_bytes-2.ensures in
    let second = c.put-at-2.ensures.next in
    let third = c.put-at-3.ensures.next in
    let last : c.put.result ≡ 9 = omega (arith, c.put-at.ensures.next, second, third, c.put.ensures.next) in
    let rest = rest_is 511 _ _ _ _ _ c.put-at.result c.put-at-2.result c.put-at-3.result c.put.result (omega (arith, second)) (omega (arith, third)) (omega (arith, c.put.ensures.next)) c.put-at.ensures.rest c.put-at-2.ensures.rest c.put-at-3.ensures.rest c.put.ensures.rest refl in
    block_is c.args.version c.args.vars c.args.slots _ _ _ _ _ _ _ _ c.put-at.ensures.front c.number.ensures c.put-at-2.ensures.front c.put-at-3.ensures.front c.put.ensures.front (rest ∙ ap (λ (k : ℕ). replicate (511 - k) 0) last) c.to_le_bytes.ensures c.to_le_bytes-2.ensures
