-- Sets of at most 64 indices of a table, as the bits of a number.
use Rattle.std.specs.Prelude.{◌≡◌, ℕ, ◌==◌, Bool, false, List, [], Some, slice_get, slice_index_or}
use Rattle.std.specs.Int.{bit_at}
use Rattle.std.specs.List.{list_any}
use Rattle.std.specs.Option.{option_map_or}
use Rattle.tmem_invariants.specs.TableNames.{has_name}

-- whether a set has an index: the bit there is 1
unfoldable pub has_index : ℕ → ℕ → Bool
has_index indices index = bit_at indices index == 1

-- whether one of these names stands at an index of a table
abbrev pub stands_at : List (List ℕ) → List (List ℕ) → ℕ → Bool
stands_at chosen names index = option_map_or (has_name chosen) (slice_get names index) false

-- the set has exactly the indices of these names in a table
abbrev pub AreIndicesOf : List (List ℕ) → List (List ℕ) → ℕ → Type 0
AreIndicesOf chosen names indices = (index : ℕ) → has_index indices index ≡ stands_at chosen names index

-- whether a footprint holds a variable
abbrev pub has_var : List ℕ → ℕ → Bool
has_var footprint var = list_any (λ other. other == var) footprint

-- the set has exactly the indices of the footprints that hold a variable
abbrev pub IsTouching : List (List ℕ) → ℕ → ℕ → Type 0
IsTouching footprints var indices =
    (index : ℕ) → has_index indices index ≡ has_var (slice_index_or footprints index []) var

-- a set has exactly the indices of those names of a table that are asked for
abbrev pub AreAsked : (List ℕ → Bool) → List (List ℕ) → ℕ → Type 0
AreAsked asked names indices =
    (index : ℕ) (name : List ℕ) → slice_get names index ≡ Some name → has_index indices index ≡ asked name
