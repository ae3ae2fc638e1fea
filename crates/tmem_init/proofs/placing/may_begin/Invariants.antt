use Rattle.std.proofs.Common.{◌≡◌, ◌⊎◌, ℕ, ◌<◌, get_or}
use Rattle.tmem_init.proofs.placing.may_begin.Given as goal

abbrev pub invariant-loop-i : goal.invariant-loop-i
invariant-loop-i l = (k : ℕ) → k < l.i → (get_or l.found k 0 ≡ 0) ⊎ (get_or l.found k 0 ≡ get_or l.content k 0)
