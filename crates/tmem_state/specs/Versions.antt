-- The two versions of the format: their numbers, and what a record of each may tell of retired names.
use Rattle.std.specs.Prelude.{◌≡◌, ℕ, ◌+◌, List, [], length, sum_by}
pub use Rattle.tmem_state.specs.declared.version.Version.{Version}
pub use Rattle.tmem_state.specs.declared.version.Version.TheVariants.{One, Two}

-- the number that block 0 has for a version
abbrev pub version_number : Version → ℕ
version_number One = 1
version_number Two = 2

-- the byte that the header of an image of a version ends with
abbrev pub version_byte : Version → ℕ
version_byte One = 0
version_byte Two = 2

-- a record of this version may retire these names: of the first version none
abbrev pub MayRetire : Version → List (List ℕ) → Type 0
MayRetire One ns = ns ≡ []
MayRetire Two ns = Unit {0}

-- how many bytes the retired names of a record have: in the first version they are not spelled at all
abbrev pub retired_length : Version → List (List ℕ) → ℕ
retired_length One ns = 0
retired_length Two ns = 1 + sum_by (λ n. 1 + length n) ns
