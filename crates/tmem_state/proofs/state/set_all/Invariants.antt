use Rattle.std.proofs.Common.{◌≡◌, take}
use Rattle.tmem_effect.specs.State.{written}
use Rattle.tmem_state.proofs.state.set_all.Given as goal

abbrev pub invariant-loop-write : goal.invariant-loop-write
invariant-loop-write l = l.values.items ≡ written l.initial.values.items (take l.write-index l.writes)
