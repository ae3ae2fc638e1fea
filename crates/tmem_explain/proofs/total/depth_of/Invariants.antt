use Rattle.std.proofs.Common.{◌<◌, ◌≤◌}
use Rattle.tmem_tree.specs.Limits.{depth}
use Rattle.tmem_explain.proofs.total.depth_of.Given as goal

abbrev pub invariant-loop-most : goal.invariant-loop-most
invariant-loop-most l = 32 < depth l.tx → l.most ≤ depth l.tx
