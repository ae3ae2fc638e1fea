use Rattle.std.proofs.Common.{◌<◌, ◌^◌, bit_and, map, arith}
use Rattle.std.proofs.lemmas.Nat.{and_le_l}
use Rattle.tmem_invariants.specs.Meanings.{touched}
use Rattle.tmem_tables.proofs.Touching.{is_empty_set, touched_indices}
use Rattle.tmem_tables.proofs.table_of.TableOfInvariants.is_touched.Goals as goal

pub returns : goal.returns
returns g c = λ m held stated are_held.
    let table = c.args.self.now in
    let written = c.args.written.now in
    let indices = c.indices_touched.result in
    let fits : bit_and indices c.args.registered < 2 ^ 64 = omega (arith, and_le_l indices c.args.registered) in
    is_empty_set (touched m written held) (map g.E.TableEntry.name table.entries.items) (bit_and indices c.args.registered) fits
    (touched_indices m written g.E.TableEntry.name g.E.TableEntry.footprint table.entries.items table.by_variable.items table.touching (λ k d within. (stated k d within).over) held c.args.registered indices are_held (rw c.deref.ensures.value at c.indices_touched.ensures))
