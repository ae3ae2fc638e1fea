use Rattle.std.proofs.Common.{◌≡◌, ◌≤◌, ◌*◌, ◌^◌, take}
use Rattle.std.specs.Prelude.{unsigned_abs}
use Rattle.tmem_tables.specs.Sums.{weighted_sum}
use Rattle.tmem_tables.proofs.sum.sum.Given as goal

abbrev pub invariant-loop-i : goal.invariant-loop-i
invariant-loop-i l =
    (l.total ≡ weighted_sum (take l.i l.weights) (take l.i l.values)) × (unsigned_abs l.total ≤ l.i * 2 ^ 94)
