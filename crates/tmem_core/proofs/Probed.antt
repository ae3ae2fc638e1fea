-- Tests that a table can be asked.
use Rattle.std.proofs.Common.{◌≡◌, ℕ, zero, suc, Bool, true, List, [], ◌∷◌, length, map, find, Some, sym, ap, ◌∙◌}
use Rattle.std.proofs.lemmas.List.Folds.{find_at}
use Rattle.std.proofs.lemmas.Option.{get_or_from_slice_get, slice_get_within}
use Rattle.std.specs.List.{position_or_len}
use Rattle.std.specs.Prelude.{slice_get, slice_index_or}
use Rattle.tmem_invariants.specs.Meanings.{Meanings}
use Rattle.tmem_invariants.specs.TableNames.{has_name}
use Rattle.tmem_invariants.proofs.Laws.{has_name-from_Contains}

-- a name that stands at an index is one of them
pub has_name-at : (names : List (List ℕ)) (index : ℕ) (name : List ℕ) → slice_get names index ≡ Some name → has_name names name ≡ true
has_name-at names index name at =
    has_name-from_Contains names name (index, slice_get_within names index name at, get_or_from_slice_get names index name name at)

-- so is one that is found among them
pub has_name-find : (test : List ℕ → Bool) (names : List (List ℕ)) (name : List ℕ) → find test names ≡ Some name → has_name names name ≡ true
has_name-find test names name is =
    has_name-at names (position_or_len test names) name (sym (find_at test names) ∙ is)

-- what a list of footprints has at the index of a name
footprint_at : (f : List ℕ → List ℕ) (names : List (List ℕ)) (index : ℕ) (name : List ℕ) → slice_get names index ≡ Some name → slice_index_or (map f names) index [] ≡ f name
footprint_at f [] index name is = cc
footprint_at f (n ∷ names) zero name is = let same : n ≡ name = cc in ap f same
footprint_at f (n ∷ names) (suc index) name is = footprint_at f names index name is

-- as many values as the footprint that is meant has variables are as many as the one at the name's index has
pub filled_by : (m : Meanings) (names footprints : List (List ℕ)) (name : List ℕ) (n : ℕ) → map m.footprint names ≡ footprints → n ≡ length (m.footprint name)
    → (index : ℕ) → slice_get names index ≡ Some name → n ≡ length (slice_index_or footprints index [])
filled_by m names footprints name n over filled index there =
    filled ∙ ap length (sym (footprint_at m.footprint names index name there) ∙ ap (λ (fs : List (List ℕ)). slice_index_or fs index []) over)
