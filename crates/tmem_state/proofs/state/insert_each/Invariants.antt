use Rattle.std.proofs.Common.{◌≡◌, take}
use Rattle.tmem_effect.specs.Names.{with_names}
use Rattle.tmem_state.proofs.state.insert_each.Given as goal

abbrev pub invariant-loop-name : goal.invariant-loop-name
invariant-loop-name l = l.names ≡ with_names l.initial.names (take l.name-index l.more)
