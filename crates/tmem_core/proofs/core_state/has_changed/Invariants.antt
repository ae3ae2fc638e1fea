use Rattle.std.proofs.Common.{◌≡◌, ◌<◌, length, All}
use Rattle.std.specs.Map.{keys_of}
use Rattle.tmem_core.specs.SettleAnswer.{has_changed}
use Rattle.tmem_core.proofs.core_state.has_changed.Given as goal

abbrev pub invariant-loop-var : goal.invariant-loop-var
invariant-loop-var l =
    All (λ var. var < length l.state.values) (keys_of l.var-iterator)
    × (has_changed l.state l.reads.entries ≡ has_changed l.state l.var-iterator)
