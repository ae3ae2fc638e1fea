use Rattle.std.proofs.Common.{map, take}
use Rattle.tmem_invariants.specs.TableNames.{AreDistinct}
use Rattle.tmem_tables.proofs.entries.have_distinct_names.Given as goal

abbrev pub invariant-loop-i : goal.invariant-loop-i
invariant-loop-i g l = AreDistinct (take l.i (map g.E.TableEntry.name l.entries))
