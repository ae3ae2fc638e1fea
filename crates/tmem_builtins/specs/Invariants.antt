-- What the invariants of scripts mean, and which of them go with a number of variables.
use Rattle.std.specs.Prelude.{ℕ, ℤ, pos, ◌+ℤ◌, Bool, not, List, filter, nat_lt, int_lt, int_le}
use Rattle.std.specs.List.{list_all, list_any}
use Rattle.std.specs.Ordering.{int_eq}
use Rattle.tmem_builtins.specs.Steps.{first, second}

-- the first is at least 0
abbrev pub is_not_negative : List ℤ → Bool
is_not_negative values = int_le (pos 0) (first values)

-- it is below 0
abbrev pub is_negative : ℤ → Bool
is_negative value = int_lt value (pos 0)

-- none of these is below 0
abbrev pub has_no_negative : List ℤ → Bool
has_no_negative values = not (list_any is_negative values)

-- the first two add up to 100, as whole numbers
abbrev pub add_to_hundred : List ℤ → Bool
add_to_hundred values = int_eq (first values +ℤ second values) (pos 100)

-- the first is at most the second
abbrev pub are_ordered : List ℤ → Bool
are_ordered values = int_le (first values) (second values)

-- each variable of a footprint is there
abbrev pub is_footprint_within : ℕ → List ℕ → Bool
is_footprint_within vars footprint = list_all (λ var. nat_lt var vars) footprint

-- of names with their footprints and closures, those whose footprints are there
abbrev pub fitting : {A : Type 0} → ℕ → List (List ℕ × List ℕ × A) → List (List ℕ × List ℕ × A)
fitting vars entries = filter (λ entry. is_footprint_within vars entry.1) entries
