use Rattle.std.proofs.Common.{List, ℕ, ap, ◌∙◌}
use Rattle.tmem_tables.proofs.Shown.{within_entries, within_vec, same_shown, as_many}
use Rattle.tmem_tables.proofs.table_of.TableOfInvariants.answer.Goals as goal

pub index-requires : goal.index-requires
index-requires g c = within_vec c.args.self.now.entries g.E.TableEntry.name c.args.index c.requires.there

pub answer-requires : goal.answer-requires
answer-requires g c = as_many c.args.self.now.entries.items g.E.TableEntry.name g.E.TableEntry.footprint c.args.index c.index.result.now c.args.values.now c.requires.there c.index.ensures c.requires.given

pub returns : goal.returns
returns g c = λ m name stated named.
    let entries = c.args.self.now.entries.items in
    let entry = c.index.result.now in
    (rw c.index.ensures at (c.answer.ensures m)) (stated c.args.index entry (within_entries entries g.E.TableEntry.name c.args.index c.requires.there))
    ∙ ap (λ (n : List ℕ). m.test n c.args.values.now) (same_shown entries g.E.TableEntry.name c.args.index entry name c.requires.there c.index.ensures named)
