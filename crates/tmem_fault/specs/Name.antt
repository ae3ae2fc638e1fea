-- What counts as a name, how sixteen bytes hold one, and whether a name is one of several.
use Rattle.std.specs.Prelude.{◌≡◌, ℕ, ◌≤◌, ◌-◌, Bool, List, ◌++◌, length, take, replicate, All, bytes_eq}
use Rattle.std.specs.List.{list_any}

-- a letter from a to z
abbrev pub IsLetter : ℕ → Type 0
IsLetter b = (97 ≤ b) × (b ≤ 122)

-- one to sixteen bytes, each a letter from a to z
pub record IsName (bytes : List ℕ) : Type 0 where
  pub not_empty : 1 ≤ length bytes
  pub short : length bytes ≤ 16
  pub letters : All IsLetter bytes

-- these bytes hold a name of this length, with zeros behind it
pub record HoldsName (bytes : List ℕ) (len : ℕ) : Type 0 where
  pub name : IsName (take len bytes)
  pub long : length (take len bytes) ≡ len
  pub padded : bytes ≡ take len bytes ++ replicate (16 - len) 0

-- whether a name is among these
abbrev pub has_name : List (List ℕ) → List ℕ → Bool
has_name ns name = list_any (λ n. bytes_eq n name) ns
