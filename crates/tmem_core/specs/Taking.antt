-- Which of the effects that wait are taken together.
use Rattle.std.specs.Prelude.{ℕ, ◌+◌, ◌≤◌, ◌<◌, ◌↔◌, List, length, take}
use Rattle.tmem_state.specs.Batch.{records_length}
use Rattle.tmem_effect.specs.Prefix.{IsPrefix}
use Rattle.tmem_effect.specs.declared.effect.Effect.{Effect}

-- a batch of these effects has room for any other: it has fewer than 64, and of its 4077 bytes there are 915 left, the most
-- that a record has
abbrev pub BatchHasRoom : List Effect → Type 0
BatchHasRoom es = (length es < 64) × (records_length es + 915 ≤ 4077)

-- what is taken of the effects that wait: the first ones. Each is taken exactly where a batch of those before it has room
-- for any other
pub record IsTaken (waits taken : List Effect) : Type 0 where
  pub first : IsPrefix taken waits
  pub each : (i : ℕ) → i < length waits → (i < length taken) ↔ BatchHasRoom (take i waits)
