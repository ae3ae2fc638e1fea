-- Lists of names, as of a table or of what is registered.
use Rattle.std.specs.Prelude.{ℕ, ◌≤◌, ◌<◌, Bool, not, List, length, find, All, Option, option_and_then, slice_get}
pub use Rattle.tmem_fault.specs.Distinct.{AreDistinct}
pub use Rattle.tmem_fault.specs.Name.{has_name}

-- whether it is none of them
abbrev pub lacks : List (List ℕ) → List ℕ → Bool
lacks names name = not (has_name names name)

-- the name at an index
abbrev pub name_at : List (List ℕ) → Option ℕ → Option (List ℕ)
name_at names index = option_and_then (slice_get names) index

-- the first of the registered names that a table lacks
abbrev pub first_missing : List (List ℕ) → List (List ℕ) → Option (List ℕ)
first_missing names registered = find (lacks names) registered

-- names that a table may have: at most 64, and none twice
abbrev pub AreTableNames : List (List ℕ) → Type 0
AreTableNames names = (length names ≤ 64) × AreDistinct names

-- a footprint that an invariant may have: 1 to 16 variables, and none twice
pub record IsFootprint (footprint : List ℕ) : Type 0 where
  pub not_empty : 1 ≤ length footprint
  pub short : length footprint ≤ 16
  pub distinct : AreDistinct footprint

-- each variable is below a number
abbrev pub AreBelow : ℕ → List ℕ → Type 0
AreBelow vars footprint = All (λ var. var < vars) footprint
