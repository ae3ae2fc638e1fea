use Rattle.std.proofs.Common.{◌≡◌, count_by, not, take}
use Rattle.tmem_effect.specs.Names.{has_name}
use Rattle.tmem_effect.proofs.names.count_others.Given as goal

abbrev pub invariant-loop-name : goal.invariant-loop-name
invariant-loop-name l = l.count ≡ count_by (λ name. not (has_name l.those name)) (take l.name-index l.names)
