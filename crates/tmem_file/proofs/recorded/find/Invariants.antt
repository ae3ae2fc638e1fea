use Rattle.std.proofs.Common.{◌-◌, ◌≡◌, ◌≤◌, length}
use Rattle.tmem_file.specs.Recorded.{range_bytes}
use Rattle.tmem_file.proofs.recorded.find.Given as goal

abbrev pub invariant-loop-done : goal.invariant-loop-done
invariant-loop-done l = record {
  within : l.done ≤ l.count;
  at : l.found.at ≡ l.at;
  so_far : length (range_bytes l.found) ≡ l.done;
}

abbrev pub decreases-loop-done : goal.decreases-loop-done
decreases-loop-done l = l.count - l.done
