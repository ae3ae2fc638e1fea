-- Lists of names: in order of first mention, and in ascending order. A name is the list of its bytes.
use Rattle.std.specs.Prelude.{◌≡◌, ℕ, ◌≤◌, Bool, true, false, not, List, [], ◌∷◌, ◌++◌, length, All, AllPairs, bytes_eq, if◌then◌else◌}
use Rattle.std.specs.List.{filter}
use Rattle.std.specs.Ordering.{nat_cmp, is_lt}
use Rattle.std.specs.Cmp.Lexicographic.{slice_cmp}
use Rattle.std.proofs.Props.{props}
use Rattle.tmem_fault.specs.Name.{IsName}
pub use Rattle.tmem_fault.specs.Name.{has_name}
use Rattle.tmem_fault.specs.Distinct.{AreDistinct}

-- with one name more, at the end unless it is there
abbrev pub with_name : List (List ℕ) → List ℕ → List (List ℕ)
with_name ns name = if has_name ns name then ns else ns ++ name ∷ []

-- whether the first name is below the second, byte by byte
abbrev pub is_before : List ℕ → List ℕ → Bool
is_before m n = is_lt (slice_cmp nat_cmp m n)

-- with this name put before the first that is not below it
abbrev pub at_its_place : List (List ℕ) → List ℕ → List (List ℕ)
at_its_place [] name = name ∷ []
at_its_place (n ∷ ns) name = if is_before n name then n ∷ at_its_place ns name else name ∷ n ∷ ns

-- with one name more, at its place unless it is there
abbrev pub insert_name : List (List ℕ) → List ℕ → List (List ℕ)
insert_name ns name = if has_name ns name then ns else at_its_place ns name

-- with these names more, each at its place
abbrev pub with_names : List (List ℕ) → List (List ℕ) → List (List ℕ)
with_names ns [] = ns
with_names ns (m ∷ ms) = with_names (insert_name ns m) ms

-- without this name
abbrev pub without_name : List (List ℕ) → List ℕ → List (List ℕ)
without_name ns name = filter (λ n. not (bytes_eq n name)) ns

-- without these names
abbrev pub without_names : List (List ℕ) → List (List ℕ) → List (List ℕ)
without_names ns [] = ns
without_names ns (m ∷ ms) = without_names (without_name ns m) ms

-- none of the first names is among the second
abbrev pub AreApart : List (List ℕ) → List (List ℕ) → Type 0
AreApart ns ms = All (λ n. has_name ms n ≡ false) ns

-- each is below each later one
abbrev pub AreAscending : List (List ℕ) → Type 0
AreAscending ns = AllPairs (λ m n. is_before m n ≡ true) ns

-- that is a fact: it has one proof at most
pub AreAscending-prop : (ns : List (List ℕ)) → IsProp (AreAscending ns)
AreAscending-prop ns = hlevel props

-- at most 8 names, and none twice
pub record AreChecks (ns : List (List ℕ)) : Type 0 where
  pub few : length ns ≤ 8
  pub names : All IsName ns
  pub distinct : AreDistinct ns

-- at most 64 names, strictly ascending
pub record AreRegistered (ns : List (List ℕ)) : Type 0 where
  pub few : length ns ≤ 64
  pub names : All IsName ns
  pub ascending : AreAscending ns

-- these are facts: each has one proof at most
pub AreApart-prop : (ns ms : List (List ℕ)) → IsProp (AreApart ns ms)
AreApart-prop ns ms = hlevel props

pub AreChecks-prop : (ns : List (List ℕ)) → IsProp (AreChecks ns)
AreChecks-prop ns = hlevel props

pub AreRegistered-prop : (ns : List (List ℕ)) → IsProp (AreRegistered ns)
AreRegistered-prop ns = hlevel props
