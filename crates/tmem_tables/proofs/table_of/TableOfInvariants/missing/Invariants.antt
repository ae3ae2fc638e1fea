use Rattle.std.proofs.Common.{◌≡◌, false, map, take}
use Rattle.std.specs.List.{list_any}
use Rattle.tmem_invariants.specs.TableNames.{lacks}
use Rattle.tmem_tables.proofs.table_of.TableOfInvariants.missing.Given as goal

abbrev pub invariant-loop-name : goal.invariant-loop-name
invariant-loop-name g l =
    list_any (lacks (map g.E.TableEntry.name l.self.entries.items)) (take l.name-index l.registered) ≡ false
