use Rattle.std.proofs.Common.{◌||◌, bit_and, map, ◌∙◌}
use Rattle.tmem_invariants.specs.Meanings.{touched}
use Rattle.tmem_invariants.specs.TableNames.{has_name}
use Rattle.tmem_tables.proofs.Touching.{asks_either, touched_indices}
use Rattle.tmem_invariants.proofs.Laws.{first_false-touched}
use Rattle.tmem_tables.proofs.table_of.TableOfInvariants.test_touched.Goals as goal

pub returns-clause-first : goal.returns-clause-first
returns-clause-first g c = λ m held asked stated are_held are_asked.
    let table = c.args.self.now in
    let names = map g.E.TableEntry.name table.entries.items in
    let written = c.args.written.now in
    let indices = c.indices_touched-touched.result in
    let are = touched_indices m written g.E.TableEntry.name g.E.TableEntry.footprint table.entries.items table.by_variable.items table.touching (λ k d within. (stated k d within).over) held c.args.registered indices are_held (rw c.deref.ensures.value at c.indices_touched-touched.ensures) in
    let h = rw c.deref-2.ensures.value at (c.test_indices.ensures.first m (λ name. has_name (touched m written held) name || has_name asked name)) in
    h stated (asks_either (touched m written held) asked names (bit_and indices c.args.registered) c.args.proposed are are_asked)

pub returns-clause-all : goal.returns-clause-all
returns-clause-all g c = λ m held asked before stated are_held are_asked differ sound.
    let names = map g.E.TableEntry.name c.args.self.now.entries.items in
    returns-clause-first g c m held asked stated are_held are_asked
    ∙ first_false-touched m names held asked c.args.written.now before c.args.values.now differ sound
