use Rattle.std.proofs.Common.{◌≡◌, count_by, not, take}
use Rattle.tmem_effect.specs.Names.{has_name, without_names}
use Rattle.tmem_effect.proofs.names.count_new.Given as goal

abbrev pub invariant-loop-name : goal.invariant-loop-name
invariant-loop-name l = l.count ≡ count_by (λ name. not (has_name (without_names l.held l.retired) name)) (take l.name-index l.names)
