use Rattle.std.proofs.Common.{◌≡◌, ◌+◌, drop}
use Rattle.tmem_builtins.specs.Builtins.{builtin_names}
use Rattle.tmem_tree.specs.Limits.{count}
use Rattle.tmem_tree.specs.Plans.{is_counted}
use Rattle.tmem_tree.proofs.Laws.{count_items}
use Rattle.tmem_explain.specs.Flaws.{step_arities}
use Rattle.tmem_explain.proofs.total.+spend.Given as goal

abbrev pub invariant-loop-t : goal.invariant-loop-t
invariant-loop-t l =
    let test = is_counted l.cause step_arities l.vars (builtin_names l.vars) in
    l.left + count test l.tx ≡ l.budget + count_items test (drop l.t-index l.t-items)
