use Rattle.std.proofs.Common.{◌≡◌, ◌≤◌, length, vec_capacity}
use Rattle.tmem_state.proofs.records.spare.Given as goal

abbrev pub invariant-loop : goal.invariant-loop
invariant-loop l = (length l.effects.items ≡ l.counter) × (64 ≤ vec_capacity l.effects)
