-- What a linear invariant means: the least <= the sum <= the most, as whole numbers.
use Rattle.std.specs.Prelude.{◌≡◌, ℤ, pos, ◌+ℤ◌, ◌*ℤ◌, if◌then◌else◌, ◌&&◌, Bool, List, [], ◌∷◌, Option}
use Rattle.std.specs.Ordering.{int_eq}
use Rattle.std.specs.Borrow.{Bor}
use Rattle.tmem_tables.specs.Bounds.{is_from, is_to}
use Rattle.tmem_tables.specs.declared.weight.Weight.{Weight}
use Rattle.tmem_tables.specs.declared.weight.Weight.TheVariants.{Value, Nonzero}

-- what a value adds to the sum: a number times the value, or a number where the value is not 0
abbrev pub weighted : Weight → ℤ → ℤ
weighted (Value number) value = number *ℤ value
weighted (Nonzero number) value = if int_eq value (pos 0) then pos 0 else number

-- the sum of the values, each as its weight says
abbrev pub weighted_sum : List Weight → List ℤ → ℤ
weighted_sum [] values = pos 0
weighted_sum (weight ∷ weights) [] = pos 0
weighted_sum (weight ∷ weights) (value ∷ values) = weighted weight value +ℤ weighted_sum weights values

-- the sum is within the bounds
abbrev pub is_sum_within : List Weight → Option ℤ → Option ℤ → List ℤ → Bool
is_sum_within weights least most values =
    is_from least (weighted_sum weights values) && is_to most (weighted_sum weights values)

-- the answer on a list of values
abbrev pub IsAnswerOfSum : List Weight → Option ℤ → Option ℤ → Bor (List ℤ) → Bool → Type 0
IsAnswerOfSum weights least most values answer = answer ≡ is_sum_within weights least most values.now
