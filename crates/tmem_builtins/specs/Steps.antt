-- What the stored steps of scripts answer.
use Rattle.std.specs.Prelude.{ℕ, ℤ, pos, neg_ℤ, ◌+ℤ◌, ◌-ℤ◌, ◌^◌, ◌&&◌, Bool, List, [], ◌∷◌, codes, slice_index_or, int_le, int_lt, if◌then◌else◌}
use Rattle.tmem_tree.specs.declared.step.StepAnswer.{StepAnswer}
use Rattle.tmem_tree.specs.declared.step.StepAnswer.TheVariants.{Value, Retry, Abort}

-- the first and the second of the arguments
abbrev pub first : List ℤ → ℤ
first args = slice_index_or args 0 (pos 0)

abbrev pub second : List ℤ → ℤ
second args = slice_index_or args 1 (pos 0)

-- a signed integer of 64 bits
abbrev pub is_i64 : ℤ → Bool
is_i64 n = int_le (neg_ℤ (pos (2 ^ 63))) n && int_lt n (pos (2 ^ 63))

-- the whole number, or an abort where it is no i64
abbrev pub value_or_abort : ℤ → StepAnswer
value_or_abort n = if is_i64 n then Value n else Abort 65535

-- the sum of two numbers
abbrev pub sum_of : List ℤ → StepAnswer
sum_of args = value_or_abort (first args +ℤ second args)

-- the first number without the second
abbrev pub difference_of : List ℤ → StepAnswer
difference_of args = value_or_abort (first args -ℤ second args)

-- the first number, once it is at least the second
abbrev pub at_least : List ℤ → StepAnswer
at_least args = if int_lt (first args) (second args) then Retry else Value (first args)

-- their names, each at its index
abbrev pub step_names : List (List ℕ)
step_names = codes "add" ∷ codes "sub" ∷ codes "need" ∷ []
