-- How many effects wait, as one more is committed.
use Rattle.std.proofs.Common.{◌≡◌, ℕ, ◌+◌, ◌-◌, ◌<◌, ◌≤◌, ◌^◌, List, [], ◌∷◌, ◌++◌, length, arith}
use Rattle.std.proofs.lemmas.List.{length_push}
use Rattle.tmem_effect.specs.declared.effect.Effect.{Effect}

module _ (count durable number : ℕ) (waiting : List Effect) (e : Effect) (is : number ≡ count) (counted : count ≡ durable + length waiting) where
  -- there is room for it
  pub room_left : length waiting ≤ 256 → ¬ (number - durable ≡ 256) → length waiting < 256
  room_left few not_full = omega (arith, is, counted, few, not_full)

  pub few_on : length waiting ≤ 256 → ¬ (number - durable ≡ 256) → length (waiting ++ e ∷ []) ≤ 256
  few_on few not_full = omega (arith, room_left few not_full, length_push waiting e)

  -- it waits with the others
  pub counts_on : count + 1 ≡ durable + length (waiting ++ e ∷ [])
  counts_on = omega (arith, counted, length_push waiting e)

-- a greater count is left
pub count_left : (count number : ℕ) → number ≡ count → count < 2 ^ 64 → ¬ (number ≡ 2 ^ 64 - 1) → count + 1 < 2 ^ 64
count_left count number is fits not_last = omega (arith, is, fits, not_last)
