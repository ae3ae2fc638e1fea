use Rattle.std.proofs.Common.{◌≡◌, filter, map, take}
use Rattle.tmem_shape.proofs.shape.StoreShape.always_names.Given as goal

abbrev pub invariant-loop-linear : goal.invariant-loop-linear
invariant-loop-linear l = l.names.items ≡ map (λ linear. linear.name) (filter (λ linear. linear.always) (take l.linear-index l.linear-items))
