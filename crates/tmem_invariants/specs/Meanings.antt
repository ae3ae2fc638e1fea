-- What the names of invariants mean, and which of them a map of values breaks first.
use Rattle.std.specs.Prelude.{◌≡◌, ℕ, ℤ, pos, Bool, false, not, ◌&&◌, ◌||◌, ◌==◌, List, map, filter, find, All, Option, slice_index_or, IsTrue}
use Rattle.std.specs.List.{list_any}
use Rattle.tmem_invariants.specs.TableNames.{has_name}

-- What each name means, in every table of a program: a footprint, and a yes or no for each list of its length.
pub record Meanings : Type 0 where
  pub footprint : List ℕ → List ℕ
  pub test : List ℕ → List ℤ → Bool

-- what a map gives to a variable, 0 where it gives nothing
abbrev pub value_of : List ℤ → ℕ → ℤ
value_of values var = slice_index_or values var (pos 0)

-- what a map gives to the variables of a footprint, in its order
abbrev pub values_at : List ℤ → List ℕ → List ℤ
values_at values footprint = map (value_of values) footprint

-- whether the invariant of a name is true of a map of all variables
abbrev pub holds_on : Meanings → (ℕ → ℤ) → List ℕ → Bool
holds_on m values name = m.test name (map values (m.footprint name))

-- whether the invariant of a name is true of a map
abbrev pub holds : Meanings → List ℤ → List ℕ → Bool
holds m values name = holds_on m (value_of values) name

-- each of these names is true of a map
abbrev pub AllHold : Meanings → List (List ℕ) → List ℤ → Type 0
AllHold m names values = All (λ name. IsTrue (holds m values name)) names

-- A sound state: each registered name is in the table, and is true of the map.
pub record IsSound (m : Meanings) (names registered : List (List ℕ)) (values : List ℤ) : Type 0 where
  pub there : All (λ name. IsTrue (has_name names name)) registered
  pub hold : AllHold m registered values

-- whether a name is registered or proposed, and is false of the map
abbrev pub fails : Meanings → List (List ℕ) → List (List ℕ) → List ℤ → List ℕ → Bool
fails m registered proposed values name =
    (has_name registered name || has_name proposed name) && not (holds m values name)

-- the first of a table's names that is registered or proposed, and is false of the map
abbrev pub first_false : Meanings → List (List ℕ) → List (List ℕ) → List (List ℕ) → List ℤ → Option (List ℕ)
first_false m names registered proposed values = find (fails m registered proposed values) names

-- whether a variable is written
abbrev pub is_written : List (ℕ × ℤ) → ℕ → Bool
is_written written var = list_any (λ write. write.0 == var) written

-- whether a variable of a footprint is written
abbrev pub has_written : List (ℕ × ℤ) → List ℕ → Bool
has_written written footprint = list_any (is_written written) footprint

-- whether a variable of a name's footprint is written
abbrev pub touches : Meanings → List (ℕ × ℤ) → List ℕ → Bool
touches m written name = has_written written (m.footprint name)

-- those of the names whose footprint has a written variable
abbrev pub touched : Meanings → List (ℕ × ℤ) → List (List ℕ) → List (List ℕ)
touched m written names = filter (touches m written) names

-- Two maps give the same to each variable that is not written.
pub record DifferInWritten (written : List (ℕ × ℤ)) (before after : List ℤ) : Type 0 where
  pub others : (var : ℕ) → is_written written var ≡ false → value_of after var ≡ value_of before var
