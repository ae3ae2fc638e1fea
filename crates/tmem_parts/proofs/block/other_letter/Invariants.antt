use Rattle.std.proofs.Common.{◌≡◌, ◌+◌, ◌<◌, ℕ, codes}
use Rattle.std.specs.Prelude.{slice_index}
use Rattle.tmem_parts.proofs.block.other_letter.Given as goal

-- the letters so far are those
abbrev pub invariant-loop-i : goal.invariant-loop-i
invariant-loop-i l = (k : ℕ) → k < l.i → slice_index l.bytes (1 + k) ≡ slice_index (codes "TMEM") k
