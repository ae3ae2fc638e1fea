use Rattle.std.proofs.Common.{All, take}
use Rattle.tmem_invariants.specs.TableNames.{AreBelow}
use Rattle.tmem_tables.proofs.entries.are_within.Given as goal

abbrev pub invariant-loop-entry : goal.invariant-loop-entry
invariant-loop-entry g l = All (λ entry. AreBelow l.vars (g.E.TableEntry.footprint entry)) (take l.entry-index l.entries)
