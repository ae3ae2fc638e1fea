use Rattle.std.proofs.Common.{take}
use Rattle.tmem_invariants.specs.TableNames.{AreDistinct}
use Rattle.tmem_tables.proofs.footprint.first_repeated.Given as goal

abbrev pub invariant-loop-i : goal.invariant-loop-i
invariant-loop-i l = AreDistinct (take l.i l.variables)
