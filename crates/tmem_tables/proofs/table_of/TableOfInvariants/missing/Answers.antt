use Rattle.std.proofs.Common.{not, map, sym, ap, ◌∙◌}
use Rattle.tmem_invariants.specs.TableNames.{lacks}
use Rattle.tmem_invariants.proofs.Laws.{slice_get_read, lacks_from_none, list_any-take_more, list_any_whole, find_here, find_none}
use Rattle.tmem_tables.proofs.table_of.TableOfInvariants.missing.Goals as goal

pub returns-then-is_none : goal.returns-then-is_none
returns-then-is_none g c =
    sym (find_here (lacks (map g.E.TableEntry.name c.args.self.now.entries.items)) c.args.registered.now c.loop-name.name-index c.name-item.result (slice_get_read c.args.registered.now c.loop-name.name-index c.name-item.result c.loop-name-test.true c.name-item.is) c.loop-name.invariant (lacks_from_none _ _ c.index_of.ensures.there.1 (c.is_none.ensures ∙ ap not c.if-is_none.true)))

pub loop-name-preserved : goal.loop-name-preserved
loop-name-preserved g c =
    list_any-take_more (lacks (map g.E.TableEntry.name c.args.self.now.entries.items)) c.args.registered.now c.loop-name.name-index c.name-item.result (slice_get_read c.args.registered.now c.loop-name.name-index c.name-item.result c.loop-name-test.true c.name-item.is) c.loop-name.invariant (ap not (c.index_of.ensures.there.0 (c.is_none.ensures ∙ ap not c.if-is_none.false)))

pub returns : goal.returns
returns g c =
    sym (find_none (lacks (map g.E.TableEntry.name c.args.self.now.entries.items)) c.args.registered.now (list_any_whole (lacks (map g.E.TableEntry.name c.args.self.now.entries.items)) c.args.registered.now c.loop-name.name-index c.loop-name-test.false c.loop-name.invariant))
