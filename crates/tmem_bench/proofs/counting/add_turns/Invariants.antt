use Rattle.std.proofs.Common.{◌≤◌}
use Rattle.tmem_bench.specs.Counting.{AddsDurable}
use Rattle.tmem_bench.proofs.counting.add_turns.Given as goal

-- so many were committed and are durable
abbrev pub invariant-loop-turn : goal.invariant-loop-turn
invariant-loop-turn g l = record {
  added : ∥ AddsDurable g.N.Naming.name.start l.fn.pass l.committed l.pass ∥₁;
  most : l.committed ≤ l._turn;
}
