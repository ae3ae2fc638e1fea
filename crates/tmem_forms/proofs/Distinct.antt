-- That nothing stands twice among the first of a list, and one more.
use Rattle.std.proofs.Common.{◌≡◌, ◌≢◌, ℕ, ◌+◌, ◌<◌, ◌≤◌, Bool, true, false, List, [], ◌∷◌, ◌++◌, length, map, get_or, take, slice_get, Some, Decides, sym, ap, ◌∙◌, subst, arith}
use Rattle.std.specs.List.{list_any}
use Rattle.std.specs.Option.{option_map}
use Rattle.std.proofs.lemmas.Bool.{false≢true}
use Rattle.std.proofs.lemmas.Grind.{common_steps}
use Rattle.std.proofs.lemmas.List.{take_more, get_or-take, length-take}
use Rattle.std.proofs.lemmas.List.Folds.{list_any_at, Any-from_list_any}
use Rattle.std.proofs.lemmas.List.Quantifiers.{all_pairs_push}
use Rattle.std.proofs.lemmas.Option.{slice_get-map, slice_get-get_or, slice_get_within, get_or_from_slice_get}
use Rattle.tmem_fault.specs.Distinct.{AreDistinct}

-- what a map shows of the element that was read at a place
pub shown_at : {E X : Type 0} (es : List E) (f : E → X) (i : ℕ) (e : E) → i < length es → e ≡ get_or es i e → slice_get (map f es) i ≡ Some (f e)
shown_at es f i e within is =
    slice_get-map f es i ∙ ap (option_map f) (slice_get-get_or es i e within ∙ ap Some (sym is))

-- an element that no earlier one equals
pub distinct_more : {X : Type 0} (eq : X → X → Bool) → ((a b : X) → Decides (eq a b) (a ≡ b)) → (xs : List X) (i : ℕ) (x : X) → slice_get xs i ≡ Some x → AreDistinct (take i xs) → list_any (λ y. eq y x) (take i xs) ≡ false → AreDistinct (take (i + 1) xs)
distinct_more eq same xs i x at distinct none =
    let more : take (i + 1) xs ≡ take i xs ++ x ∷ [] =
    take_more xs i x (slice_get_within xs i x at) ∙ ap (λ y. take i xs ++ y ∷ []) (get_or_from_slice_get xs i x x at) in
    subst AreDistinct (sym more) (all_pairs_push (λ a b. a ≢ b) (take i xs) x distinct apart)
  where
    apart : (k : ℕ) (d : _) → k < length (take i xs) → get_or (take i xs) k d ≢ x
    apart k d within is =
        false≢true (sym none ∙ list_any_at (λ y. eq y x) (take i xs) k d within ((same (get_or (take i xs) k d) x).1 is))

pub distinct_whole : {X : Type 0} (xs : List X) (i : ℕ) → length xs ≤ i → AreDistinct (take i xs) → AreDistinct xs
distinct_whole xs i past distinct = let whole : take i xs ≡ xs = grind (arith, common_steps) in subst AreDistinct whole distinct

-- an element that an earlier one equals
pub not_distinct : {X : Type 0} (eq : X → X → Bool) → ((a b : X) → Decides (eq a b) (a ≡ b)) → (xs : List X) (i : ℕ) (x : X) → slice_get xs i ≡ Some x → list_any (λ y. eq y x) (take i xs) ≡ true → ¬ AreDistinct xs
not_distinct eq same xs i x at some distinct =
    let found = Any-from_list_any (λ y. eq y x) (take i xs) some in
    let before : found.0 < i = omega (arith, found.2, length-take i xs) in
    let there : get_or xs found.0 found.1 ≡ x = sym (get_or-take i xs found.0 found.1 before) ∙ found.3 ∙ (same found.1 x).0 found.4 in
    distinct found.0 i found.1 before (slice_get_within xs i x at) (there ∙ sym (get_or_from_slice_get xs i x found.1 at))
