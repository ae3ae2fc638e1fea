-- A plan of the front is for its program's names.
use Rattle.std.proofs.Common.{◌≡◌, ℕ, List, Result, Ok, Err, IfOk, subst, sym}
use Rattle.tmem_fault.specs.declared.fault.Fault.{Fault}
use Rattle.tmem_tree.specs.declared.tx.Tx.{Tx}
use Rattle.tmem_tree.specs.Plans.{PlanView, FitsSteps, FitsNames}

-- it is for the names that the signatures have
pub for_names : (r : Result PlanView Fault) (tx : Tx) (ns names : List (List ℕ)) → IfOk r (λ plan. plan.tree ≡ tx) → IfOk r (λ _. FitsNames ns tx) → ns ≡ names → IfOk r (λ plan. FitsNames names plan.tree)
for_names (Ok plan) tx ns names is fits same = subst (λ (l : List (List ℕ)). FitsNames l plan.tree) same (subst (λ (t : Tx). FitsNames ns t) (sym is) fits)
for_names (Err e) tx ns names is fits same = tt

-- and for the steps
pub for_steps : (r : Result PlanView Fault) (tx : Tx) (arities : List ℕ) → IfOk r (λ plan. plan.tree ≡ tx) → IfOk r (λ _. FitsSteps arities tx) → IfOk r (λ plan. FitsSteps arities plan.tree)
for_steps (Ok plan) tx arities is fits = subst (λ (t : Tx). FitsSteps arities t) (sym is) fits
for_steps (Err e) tx arities is fits = tt
