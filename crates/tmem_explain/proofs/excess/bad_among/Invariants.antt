use Rattle.tmem_explain.proofs.excess.bad_among.Given as goal

abbrev pub invariant-loop-reg : goal.invariant-loop-reg
invariant-loop-reg l = Unit {0}
