use Rattle.std.proofs.Common.{bytes_eq, Some, refl, sym, ap, ◌∙◌}
use Rattle.std.proofs.lemmas.Option.{slice_get-get_or}
use Rattle.std.proofs.lemmas.Slice.Eq.{bytes_eq-Decides}
use Rattle.tmem_forms.proofs.Laws.{distinct_more, distinct_whole, not_distinct}
use Rattle.tmem_requests.proofs.limits.are_distinct_names.Goals as goal

pub returns-then-has_name : goal.returns-then-has_name
returns-then-has_name c =
    let name = c.index-names-i.result in
    let at = slice_get-get_or c.args.names.now c.loop-i.i name c.loop-i-test.true ∙ ap Some (sym c.index-names-i.is) in (
      λ no. absurd (cc),
      λ distinct. absurd (not_distinct bytes_eq bytes_eq-Decides c.args.names.now c.loop-i.i name at (sym c.has_name.ensures ∙ c.if-has_name.true) distinct),
    )

pub loop-i-preserved : goal.loop-i-preserved
loop-i-preserved c =
    let name = c.index-names-i.result in
    let at = slice_get-get_or c.args.names.now c.loop-i.i name c.loop-i-test.true ∙ ap Some (sym c.index-names-i.is) in
    distinct_more bytes_eq bytes_eq-Decides c.args.names.now c.loop-i.i name at c.loop-i.invariant (sym c.has_name.ensures ∙ c.if-has_name.false)

pub returns : goal.returns
returns c = (
  λ yes. distinct_whole c.args.names.now c.loop-i.i c.loop-i-test.false c.loop-i.invariant,
  λ distinct. refl,
)
