-- What the invariants mean that stores for one thread are opened with.
use Rattle.std.specs.Prelude.{ℤ, pos, ◌+ℤ◌, Bool, List, int_le, slice_index_or}
use Rattle.tmem_builtins.specs.Steps.{first, second}

-- the last of sixteen is at least 0
abbrev pub is_last_not_negative : List ℤ → Bool
is_last_not_negative values = int_le (pos 0) (slice_index_or values 15 (pos 0))

-- the first two add up to at least 0, as whole numbers
abbrev pub is_sum_not_negative : List ℤ → Bool
is_sum_not_negative values = int_le (pos 0) (first values +ℤ second values)
