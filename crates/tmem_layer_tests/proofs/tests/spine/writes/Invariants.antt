use Rattle.std.proofs.Common.{◌≡◌, length}
use Rattle.tmem_layer_tests.proofs.tests.spine.writes.Given as goal

-- as many are committed and durable as there were turns
abbrev pub invariant-loop-turn : goal.invariant-loop-turn
invariant-loop-turn g l = (length l.core.committed ≡ l.turn) × (length l.journal.durable ≡ l.turn)
