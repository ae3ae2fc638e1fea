use Rattle.std.proofs.Common.{◌≤◌}
use Rattle.tmem_player.proofs.evaluating.by_evaluate.Given as goal

abbrev pub invariant-loop : goal.invariant-loop
invariant-loop g l = l.answered ≤ 8
