use Rattle.tmem_explain.proofs.plan.+plan.Given as goal

abbrev pub invariant-find_in_row-loop-i : goal.invariant-find_in_row-loop-i
invariant-find_in_row-loop-i l = Unit {0}
