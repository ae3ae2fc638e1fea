use Rattle.std.proofs.Common.{map, take}
use Rattle.tmem_invariants.specs.TableNames.{AreDistinct}
use Rattle.tmem_shape.proofs.invariants.name_repeated.Given as goal

abbrev pub invariant-loop-i : goal.invariant-loop-i
invariant-loop-i l = AreDistinct (take l.i (map (λ linear. linear.name) l.invariants))
