-- What it is to be one of several names.
use Rattle.std.proofs.Common.{◌≡◌, ℕ, true, bytes_eq, List, All, Contains, get_or, refl, subst, ap, ◌∙◌}
use Rattle.std.proofs.lemmas.List.Folds.{Any-from_list_any, list_any_at}
use Rattle.std.proofs.lemmas.Slice.Eq.{bytes_eq-Decides}
use Rattle.tmem_invariants.specs.TableNames.{has_name}

-- to be among names is to stand in the list
pub Contains-from_has_name : (names : List (List ℕ)) (name : List ℕ) → has_name names name ≡ true → Contains names name
Contains-from_has_name names name among =
    let found = Any-from_list_any (λ other. bytes_eq other name) names among in
    let same : found.1 ≡ name = (bytes_eq-Decides found.1 name).0 found.4 in
    (found.0, found.2, subst (λ other. get_or names found.0 other ≡ other) same found.3)

pub has_name-from_Contains : (names : List (List ℕ)) (name : List ℕ) → Contains names name → has_name names name ≡ true
has_name-from_Contains names name there =
    list_any_at (λ other. bytes_eq other name) names there.0 name there.1 (ap (λ other. bytes_eq other name) there.2 ∙ (bytes_eq-Decides name name).1 refl)

-- what stands at an index is among them
pub at_index : (names : List (List ℕ)) → All (λ name. has_name names name ≡ true) names
at_index names k d within =
    list_any_at (λ other. bytes_eq other (get_or names k d)) names k d within ((bytes_eq-Decides (get_or names k d) (get_or names k d)).1 refl)

-- what all of them have, each among them has
pub All-at_name : (P : List ℕ → Type 0) (names : List (List ℕ)) (name : List ℕ) → All P names → has_name names name ≡ true → P name
All-at_name P names name all among =
    let there = Contains-from_has_name names name among in
    subst P there.2 (all there.0 name there.1)
