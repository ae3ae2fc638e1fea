use Rattle.std.proofs.Common.{◌<◌, ◌∙◌, sym, length, arith}
use Rattle.std.proofs.lemmas.List.Filters.{FiltersInPlace-more_set, FiltersInPlace-more_no}
use Rattle.tmem_effect.proofs.names.keep_others.Goals as goal
use Rattle.tmem_effect.proofs.names.keep_others.Goals.{then-ne, else-ne}

pub loop-at-preserved : goal.loop-at-preserved
loop-at-preserved c =
    let within : c.loop-at.at < length c.loop-at.items = omega (arith, c.loop-at-test.true, c.requires, c.loop-at.auto.items) in
    elim c.if-ne.branch [
      | then-ne w ↦ rw (w.items-is, w.kept-is) (FiltersInPlace-more_set c.loop-at.invariant within (sym c.ne.ensures ∙ w.if-ne.true) c.index-items-at.is)
      | else-ne w ↦ rw (w.items-is, w.kept-is) (FiltersInPlace-more_no c.loop-at.invariant within (sym c.ne.ensures ∙ w.if-ne.false) c.index-items-at.is)
    ]
