use Rattle.std.proofs.Common.{◌≡◌, ◌≤◌, ◌+◌, ◌*◌, ◌^◌, pos, get_or, unsigned_abs, sym, ◌∙◌, subst, arith, to_z}
use mir.Syntax.{w128}
use Rattle.std.proofs.lemmas.Int.{to_z-of_z}
use Rattle.tmem_tables.specs.Sums.{weighted}
use Rattle.tmem_tables.specs.declared.weight.Weight.TheVariants.{Value}
use Rattle.tmem_tables.proofs.Totals.{sum_step, passed_on, size_step}
use Rattle.tmem_tables.proofs.sum.sum.Goals as goal

pub loop-i-preserved : goal.loop-i-preserved
loop-i-preserved c =
    let back = passed_on c.plus-total.result (record { sfits = c.plus-total.type_inv }) in
    let value = c.plus-total.ensures.value in
    let term = c.counts.ensures.value in
    let here : c.counts.result ≡ weighted (get_or c.args.weights.now c.loop-i.i (Value (pos 0))) (get_or c.args.values.now c.loop-i.i (pos 0)) = grind (arith, to_z-of_z, term) in (
      back ∙ sum_step c.args.weights.now c.args.values.now c.loop-i.i (Value (pos 0)) (pos 0) c.counts.result (to_z w128 c.loop-i.total-bits) c.plus-total.result c.loop-i-test.true c.requires.paired here c.loop-i.invariant.0 (grind (arith, to_z-of_z, value)),
      subst (λ z. unsigned_abs z ≤ (c.loop-i.i + 1) * 2 ^ 94) (sym back) (size_step c.loop-i.i (unsigned_abs (to_z w128 c.loop-i.total-bits)) (unsigned_abs c.plus-total.result) c.loop-i.invariant.1 c.plus-total.ensures.size),
    )
