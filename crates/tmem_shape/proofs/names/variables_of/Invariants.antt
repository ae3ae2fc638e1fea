use Rattle.std.proofs.Common.{◌≡◌, map, take}
use Rattle.tmem_shape.proofs.names.variables_of.Given as goal

abbrev pub invariant-loop-named : goal.invariant-loop-named
invariant-loop-named l = l.variables.items ≡ map (λ named. named.1) (take l.named-index l.names)
