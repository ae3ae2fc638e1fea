use Rattle.std.proofs.Common.{◌≡◌, ◌≤◌, ◌+◌, ℕ}
use Rattle.tmem_bench.specs.Printed.{PrintsTable}
use Rattle.tmem_bench.proofs.run.run_jobs.Given as goal

-- the lines so far, from the first one on
abbrev pub invariant-loop-index : goal.invariant-loop-index
invariant-loop-index g l = ((n : ℕ) × PrintsTable (g.W.Write.contents l.fn.out) (g.W.Write.contents l.out) n × (l.first + n ≡ l.index)) × (l.index ≤ l.end)
