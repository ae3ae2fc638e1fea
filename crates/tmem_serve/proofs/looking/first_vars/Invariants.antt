use Rattle.std.proofs.Common.{◌≡◌}
use Rattle.tmem_desk.specs.Held.{first_numbers}
use Rattle.tmem_serve.proofs.looking.first_vars.Given as goal

-- the variables so far
abbrev pub invariant-loop-var : goal.invariant-loop-var
invariant-loop-var l = l.vars.items ≡ first_numbers l.var
