use Rattle.std.proofs.Common.{◌-◌, ◌≤◌}
use Rattle.tmem_explain.proofs.device.fill.Given as goal

abbrev pub invariant-loop-done : goal.invariant-loop-done
invariant-loop-done l = l.done ≤ l.size

abbrev pub decreases-loop-done : goal.decreases-loop-done
decreases-loop-done l = l.size - l.done
