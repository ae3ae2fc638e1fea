use Rattle.std.proofs.Common.{◌≡◌, ◌<◌, ◌≤◌, ℕ}
use Rattle.std.specs.Prelude.{slice_index}
use Rattle.tmem_parts.proofs.block.other_than_zero.Given as goal

-- the bytes so far are zeros
abbrev pub invariant-loop-at : goal.invariant-loop-at
invariant-loop-at l = (k : ℕ) → 10 ≤ k → k < l.at → slice_index l.bytes k ≡ 0
