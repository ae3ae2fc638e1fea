use Rattle.std.proofs.Common.{◌≡◌, length}
use Rattle.tmem_world_tests.proofs.tests.names.variables_of.Given as goal

abbrev pub invariant-loop-k : goal.invariant-loop-k
invariant-loop-k l = length l.vars.items ≡ l.k
