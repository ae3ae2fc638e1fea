use Rattle.std.proofs.Common.{ℤ, List, [], ◌∷◌, ◌++◌, ◌∙◌, ap, sym, subst, rules, arith}
use Rattle.std.proofs.lemmas.Grind.{elements}
use Rattle.std.proofs.lemmas.Int.{to_z-of_z}
use Rattle.std.specs.Int.{w64}
use Rattle.tmem_record.specs.StandsAt.{StandsAt, values_bytes}
use Rattle.tmem_record.proofs.Laws.{no_values, one_value_more, moved}
use Rattle.tmem_image.proofs.reading.read_values.Goals as goal

pub loop-k-init : goal.loop-k-init
loop-k-init c = record {
  count = search rules;
  room = search rules;
  fits = grind (arith, elements);
  values = subst (λ (zs : List ℤ). StandsAt c.args.from (values_bytes zs) c.args.bytes.now) (sym c.requires.empty) (no_values c.args.from c.args.bytes.now);
}

pub loop-k-preserved : goal.loop-k-preserved
loop-k-preserved c =
    let pushed = rw c.unwrap.ensures at c.push.ensures.items in
    let same = pushed ∙ ap (λ (z : ℤ). c.loop-k.values.items ++ z ∷ []) (to_z-of_z w64 _ c.value_at.ensures.fits) in
    record {
      count = search rules;
      room = search rules;
      fits = grind (arith, elements);
      values = subst (λ (zs : List ℤ). StandsAt c.args.from (values_bytes zs) c.args.bytes.now) (sym same)
          (one_value_more c.args.from c.loop-k.values.items _ c.args.bytes.now c.loop-k.invariant.values (moved _ _ _ _ (omega (arith, c.loop-k.invariant.count)) c.value_at.ensures.bytes));
    }
