-- Why an invariant refuses a transaction.
use Rattle.std.specs.Prelude.{◌≡◌, ℕ, ℤ, false, List, map, slice_get, Option, Some}
use Rattle.std.specs.Map.{keys_of}
use Rattle.std.specs.Option.{option_or}
use Rattle.tmem_invariants.specs.Meanings.{Meanings}
use Rattle.tmem_effect.specs.Writes.{value_in}

-- the invariant of this name is false on these variables, which are those of its footprint, in its order, each with a value
pub record IsFalseOn (tests : Meanings) (name : List ℕ) (values : List (ℕ × ℤ)) : Type 0 where
  pub footprint : keys_of values ≡ tests.footprint name
  pub fails : tests.test name (map (λ (v : ℕ × ℤ). v.1) values) ≡ false

-- the value of a variable after these writes, where the values were these
abbrev pub end_value : List ℤ → List (ℕ × ℤ) → ℕ → Option ℤ
end_value values writes var = option_or (value_in writes var) (slice_get values var)

-- each of these variables has the value that it has after these writes, where the values were these
abbrev pub AreEndValues : List ℤ → List (ℕ × ℤ) → List (ℕ × ℤ) → Type 0
AreEndValues values writes seen = map (λ (v : ℕ × ℤ). Some v.1) seen ≡ map (λ (v : ℕ × ℤ). end_value values writes v.0) seen
