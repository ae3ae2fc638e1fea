use Rattle.std.proofs.Common.{◌≡◌, ◌+◌, ◌≤◌, drop}
use Rattle.std.specs.Prelude.{◌↔◌}
use Rattle.tmem_tree.specs.Limits.{depth, count, is_node, is_write, is_check, is_retire, is_step}
use Rattle.tmem_tree.specs.Signatures.{names_of}
use Rattle.tmem_tree.specs.Plans.{is_bad}
use Rattle.tmem_tree.proofs.Laws.{depth_items, count_items}
use Rattle.tmem_tree.proofs.budget.+pay.Given as goal

abbrev pub invariant-loop-t : goal.invariant-loop-t
invariant-loop-t g l =
    let bad = is_bad (g.S.StoredSteps.arities l.steps) l.vars (names_of l.signatures) in
    let rest = drop l.t-index l.t-items in
    record {
      shallow : (depth l.tx ≤ l.most) ↔ (depth_items rest + 1 ≤ l.most);
      nodes : l.left.nodes + count is_node l.tx ≡ l.fn.budget.nodes + count_items is_node rest;
      writes : l.left.writes + count is_write l.tx ≡ l.fn.budget.writes + count_items is_write rest;
      checks : l.left.checks + count is_check l.tx ≡ l.fn.budget.checks + count_items is_check rest;
      retires : l.left.retires + count is_retire l.tx ≡ l.fn.budget.retires + count_items is_retire rest;
      steps : l.left.steps + count is_step l.tx ≡ l.fn.budget.steps + count_items is_step rest;
      good : count bad l.tx ≡ count_items bad rest;
    }
