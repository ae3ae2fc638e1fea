use Rattle.std.proofs.Common.{◌+◌, ◌≤◌, drop}
use Rattle.std.specs.Prelude.{◌↔◌}
use Rattle.tmem_tree.specs.Limits.{depth}
use Rattle.tmem_tree.proofs.Laws.{depth_items}
use Rattle.tmem_explain.proofs.total.+is_within_depth.Given as goal

abbrev pub invariant-loop-t : goal.invariant-loop-t
invariant-loop-t l = (depth l.tx ≤ l.most) ↔ (depth_items (drop l.t-index l.t-items) + 1 ≤ l.most)
