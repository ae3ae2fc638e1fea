use Rattle.std.proofs.Common.{◌||◌, map}
use Rattle.tmem_invariants.specs.TableNames.{has_name}
use Rattle.tmem_tables.proofs.Touching.{asks_either}
use Rattle.tmem_tables.proofs.table_of.TableOfInvariants.test_all.Goals as goal

pub returns-clause-first : goal.returns-clause-first
returns-clause-first g c = λ m held asked stated are_held are_asked.
    let names = map g.E.TableEntry.name c.args.self.now.entries.items in
    let h = rw c.deref.ensures.value at (c.test_indices.ensures.first m (λ name. has_name held name || has_name asked name)) in
    h stated (asks_either held asked names c.args.registered c.args.proposed are_held are_asked)
