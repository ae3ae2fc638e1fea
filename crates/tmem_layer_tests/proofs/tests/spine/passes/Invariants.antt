use Rattle.std.proofs.Common.{◌≤◌}
use Rattle.tmem_layer_tests.proofs.tests.spine.passes.Given as goal

abbrev pub invariant-loop-turn : goal.invariant-loop-turn
invariant-loop-turn g l = l.given ≤ l.turn
