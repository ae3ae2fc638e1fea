use Rattle.std.proofs.Common.{◌≤◌, ◌<◌, ℕ}
use Rattle.tmem_redolog.specs.Log.{IsClosedOrStale}
use Rattle.tmem_redolog.specs.Scans.{slot_bytes}
use Rattle.tmem_redolog.proofs.scanning.are_closed_or_stale.Given as goal

abbrev pub invariant-loop-k : goal.invariant-loop-k
invariant-loop-k l = (j : ℕ) → l.from ≤ j → j < l.k → IsClosedOrStale l.generation 0 (slot_bytes l.log j)
