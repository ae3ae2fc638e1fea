-- Bounds of a sum, where there are any.
use Rattle.std.specs.Prelude.{ℤ, Bool, true, Option, Some, None, int_le}

-- it is not below the least, where there is one
abbrev pub is_from : Option ℤ → ℤ → Bool
is_from None total = true
is_from (Some least) total = int_le least total

-- it is not above the most, where there is one
abbrev pub is_to : Option ℤ → ℤ → Bool
is_to None total = true
is_to (Some most) total = int_le total most
