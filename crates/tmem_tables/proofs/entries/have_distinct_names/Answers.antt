use Rattle.std.proofs.Common.{bytes_eq, map, Some, refl, sym, ap, ◌∙◌}
use Rattle.std.proofs.lemmas.Bool.{false_from_ne_true}
use Rattle.std.proofs.lemmas.List.{length-map, take-map}
use Rattle.std.proofs.lemmas.Slice.Eq.{bytes_eq-Decides}
use Rattle.tmem_invariants.specs.TableNames.{has_name}
use Rattle.tmem_invariants.proofs.Laws.{slice_get-map_read, AreDistinct-take_more, AreDistinct_whole, not-AreDistinct}
use Rattle.tmem_tables.proofs.entries.have_distinct_names.Goals as goal

pub returns-then-is_some : goal.returns-then-is_some
returns-then-is_some g c =
    let x = c.name.result in
    let at = slice_get-map_read c.args.entries.now g.E.TableEntry.name c.loop-i.i c.index-entries-i.result c.loop-i-test.true c.index-entries-i.is ∙ ap Some (sym c.name.ensures) in
    let before = take-map g.E.TableEntry.name c.loop-i.i c.args.entries.now in
    let some = ap (λ names. has_name names x) before ∙ c.index_among.ensures.there.0 (sym c.is_some.ensures ∙ c.if-is_some.true) in (
      λ no. absurd (cc),
      λ distinct. absurd (not-AreDistinct bytes_eq bytes_eq-Decides _ c.loop-i.i x at some distinct),
    )

pub loop-i-preserved : goal.loop-i-preserved
loop-i-preserved g c =
    let x = c.name.result in
    let at = slice_get-map_read c.args.entries.now g.E.TableEntry.name c.loop-i.i c.index-entries-i.result c.loop-i-test.true c.index-entries-i.is ∙ ap Some (sym c.name.ensures) in
    let before = take-map g.E.TableEntry.name c.loop-i.i c.args.entries.now in
    let none = ap (λ names. has_name names x) before ∙ false_from_ne_true _ (λ among. let some = c.index_among.ensures.there.1 among in cc) in
    AreDistinct-take_more bytes_eq bytes_eq-Decides _ c.loop-i.i x at c.loop-i.invariant none

pub returns : goal.returns
returns g c = (
  λ yes. AreDistinct_whole (map g.E.TableEntry.name c.args.entries.now) c.loop-i.i (simp length-map c.loop-i-test.false) c.loop-i.invariant,
  λ distinct. refl,
)
