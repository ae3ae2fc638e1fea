use Rattle.std.proofs.Common.{◌≡◌, ◌≤◌, ◌+◌, ◌*◌, length, take, sum_by}
use Rattle.tmem_state.proofs.batch.names_length.Given as goal

abbrev pub invariant-loop-name : goal.invariant-loop-name
invariant-loop-name l = (l.bytes ≡ 1 + sum_by (λ n. 1 + length n) (take l.name-index l.names)) × (l.bytes ≤ 1 + 17 * l.name-index)
