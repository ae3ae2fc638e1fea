use Rattle.std.proofs.Common.{◌≡◌}
use Rattle.tmem_bench.proofs.service.settle_some.Given as goal

abbrev pub invariant-loop : goal.invariant-loop
invariant-loop g l = l.had.work ≡ l.fn.had.work
