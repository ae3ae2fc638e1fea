use Rattle.std.proofs.Common.{◌≡◌, map, take}
use Rattle.tmem_shape.proofs.shape.StoreShape.invariant_names.Given as goal

abbrev pub invariant-loop-linear : goal.invariant-loop-linear
invariant-loop-linear l = l.names.items ≡ map (λ linear. linear.name) (take l.linear-index l.linear-items)
