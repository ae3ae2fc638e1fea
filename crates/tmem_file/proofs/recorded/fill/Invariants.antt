use Rattle.std.proofs.Common.{◌-◌, ◌≡◌, ◌≤◌, replicate}
use Rattle.tmem_file.specs.Recorded.{range_bytes}
use Rattle.tmem_file.proofs.recorded.fill.Given as goal

abbrev pub invariant-loop-done : goal.invariant-loop-done
invariant-loop-done l = record {
  within : l.done ≤ l.size;
  at : l.written.at ≡ 0;
  so_far : range_bytes l.written ≡ replicate l.done 0;
}

abbrev pub decreases-loop-done : goal.decreases-loop-done
decreases-loop-done l = l.size - l.done
