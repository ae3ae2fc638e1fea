use Rattle.std.proofs.Common.{◌≡◌, take}
use Rattle.tmem_invariants.specs.Meanings.{values_at}
use Rattle.tmem_tables.proofs.footprint.gather.Given as goal

abbrev pub invariant-loop-i : goal.invariant-loop-i
invariant-loop-i l = take l.i l.into ≡ values_at l.values (take l.i l.footprint)
