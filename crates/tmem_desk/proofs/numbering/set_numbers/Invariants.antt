use Rattle.std.proofs.Common.{◌≡◌, ℕ, List, take}
use Rattle.std.proofs.lemmas.List.Edits.{sets}
use Rattle.tmem_tree.specs.Numbers.{numbers}
use Rattle.tmem_tree.specs.Plans.{FitsSteps, FitsVariables, FitsNames}
use Rattle.tmem_desk.specs.Numbering.{with_numbers}
use Rattle.tmem_desk.proofs.numbering.set_numbers.Given as goal

-- the numbers so far were taken
abbrev pub invariant-loop-index : goal.invariant-loop-index
invariant-loop-index l = record {
  tree : l.plan.tree ≡ with_numbers (take l.index l.numbers) l.fn.plan.tree;
  taken : numbers l.plan.tree ≡ sets (numbers l.fn.plan.tree) 0 (take l.index l.numbers);
  signatures : l.plan.signatures ≡ l.fn.plan.signatures;
  steps : (arities : List ℕ) → FitsSteps arities l.fn.plan.tree → FitsSteps arities l.plan.tree;
  variables : (vars : ℕ) → FitsVariables vars l.fn.plan → FitsVariables vars l.plan;
  names : (names : List (List ℕ)) → FitsNames names l.fn.plan.tree → FitsNames names l.plan.tree;
}
