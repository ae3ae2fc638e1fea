use Rattle.std.proofs.Common.{◌≡◌, ◌+◌, length, drop}
use Rattle.tmem_core.proofs.Taken.{IsTakenSoFar}
use Rattle.tmem_core.proofs.core_state.Core.take.Given as goal

abbrev pub invariant-loop-index : goal.invariant-loop-index
invariant-loop-index g l = (l.index ≡ l.first + length l.batch) × IsTakenSoFar (drop l.first l.self.waiting) l.batch
