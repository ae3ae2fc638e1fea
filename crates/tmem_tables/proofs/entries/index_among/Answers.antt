use Rattle.std.proofs.Common.{bytes_eq, Some, refl, sym, ap, ◌∙◌}
use Rattle.std.proofs.lemmas.Slice.Eq.{bytes_eq-Decides}
use Rattle.tmem_invariants.proofs.Laws.{slice_get-map_read, list_any_here, scan_more, scan_none}
use Rattle.tmem_tables.proofs.entries.index_among.Goals as goal

pub returns-then-eq-clause-there : goal.returns-then-eq-clause-there
returns-then-eq-clause-there g c = (
  λ yes. list_any_here (λ other. bytes_eq other c.args.name.now) _ c.loop-i.i (g.E.TableEntry.name c.index-entries-i.result) (slice_get-map_read c.args.entries.now g.E.TableEntry.name c.loop-i.i c.index-entries-i.result c.loop-i-test.true c.index-entries-i.is) (sym (c.eq.ensures ∙ ap (λ n. bytes_eq n c.args.name.now) c.name.ensures) ∙ c.if-eq.true),
  λ among. refl,
)

pub returns-then-eq-clause-index : goal.returns-then-eq-clause-index
returns-then-eq-clause-index g c =
    slice_get-map_read c.args.entries.now g.E.TableEntry.name c.loop-i.i c.index-entries-i.result c.loop-i-test.true c.index-entries-i.is
    ∙ ap Some ((bytes_eq-Decides (g.E.TableEntry.name c.index-entries-i.result) c.args.name.now).0 (sym (c.eq.ensures ∙ ap (λ n. bytes_eq n c.args.name.now) c.name.ensures) ∙ c.if-eq.true))

pub loop-i-preserved : goal.loop-i-preserved
loop-i-preserved g c =
    scan_more c.args.entries.now g.E.TableEntry.name (λ other. bytes_eq other c.args.name.now) c.loop-i.i c.index-entries-i.result c.loop-i-test.true c.index-entries-i.is c.loop-i.invariant (sym (c.eq.ensures ∙ ap (λ n. bytes_eq n c.args.name.now) c.name.ensures) ∙ c.if-eq.false)

pub returns-clause-there : goal.returns-clause-there
returns-clause-there g c = (
  λ no. absurd (cc),
  λ among. sym (scan_none c.args.entries.now g.E.TableEntry.name (λ other. bytes_eq other c.args.name.now) c.loop-i.i c.loop-i-test.false c.loop-i.invariant) ∙ among,
)
