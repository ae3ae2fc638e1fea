use Rattle.std.proofs.Common.{◌≡◌, ◌+◌, drop}
use Rattle.tmem_tree.specs.Limits.{count}
use Rattle.tmem_tree.specs.Signatures.{names_of}
use Rattle.tmem_tree.specs.Plans.{is_counted}
use Rattle.tmem_tree.proofs.Laws.{count_items}
use Rattle.tmem_tree.proofs.limits.+spend.Given as goal

abbrev pub invariant-loop-t : goal.invariant-loop-t
invariant-loop-t g l =
    let test = is_counted l.cause (g.S.StoredSteps.arities l.steps) l.vars (names_of l.signatures) in
    l.left + count test l.tx ≡ l.budget + count_items test (drop l.t-index l.t-items)
