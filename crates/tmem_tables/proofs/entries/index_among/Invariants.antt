use Rattle.std.proofs.Common.{◌≡◌, false, map, take}
use Rattle.tmem_invariants.specs.TableNames.{has_name}
use Rattle.tmem_tables.proofs.entries.index_among.Given as goal

abbrev pub invariant-loop-i : goal.invariant-loop-i
invariant-loop-i g l = has_name (take l.i (map g.E.TableEntry.name l.entries)) l.name ≡ false
