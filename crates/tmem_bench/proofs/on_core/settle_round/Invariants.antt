use Rattle.std.proofs.Common.{◌≡◌, length}
use Rattle.tmem_core.specs.Held.{core_state}
use Rattle.tmem_bench.proofs.on_core.settle_round.Given as goal

abbrev pub invariant-loop : goal.invariant-loop
invariant-loop g l = length (core_state l.core).values ≡ l.vars
