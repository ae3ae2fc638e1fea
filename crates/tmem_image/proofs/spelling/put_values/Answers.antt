use Rattle.std.proofs.Common.{ℤ, ◌∙◌, ap, length, arith, get_or, pos, rules, w64, FitsSigned}
use Rattle.std.proofs.lemmas.Int.{to_z-of_z}
use Rattle.std.specs.Int.{cast_unsigned}
use Rattle.byteorder.specs.Endian.{little_bytes}
use Rattle.tmem_record.proofs.Laws.{drop_further}
use Rattle.tmem_image.proofs.Pages.{value_put, number_more}
use Rattle.tmem_image.proofs.spelling.put_values.Goals as goal

pub loop-value-preserved : goal.loop-value-preserved
loop-value-preserved c =
    let fits : FitsSigned w64 (get_or c.args.values.now c.loop-value.value-index (pos 0)) = search rules in
    let same = ap (λ (z : ℤ). little_bytes 8 (cast_unsigned w64 z)) (to_z-of_z w64 _ fits) in
    let long = ap length c.to_le_bytes.ensures in
    record {
      at = omega (arith, long, c.put-at.ensures.next, c.loop-value.invariant.at);
      front = value_put c.args.values.now c.loop-value.value-index c.loop-value-test.true _ _ _ c.loop-value.invariant.front c.put-at.ensures.front (c.to_le_bytes.ensures ∙ same);
      rest = c.put-at.ensures.rest ∙ drop_further c.loop-value.at c.put-at.result _ _ (omega (arith, c.put-at.ensures.next)) c.loop-value.invariant.rest;
      numbers = number_more c.args.values.now c.loop-value.value-index c.loop-value-test.true c.loop-value.invariant.numbers fits;
    }
