-- What a search through a list from its front has found.
use Rattle.std.proofs.Common.{◌≡◌, ◌≢◌, ℕ, zero, suc, ◌+◌, ◌<◌, ◌≤◌, Bool, true, false, cond, not, ◌||◌, List, [], ◌∷◌, ◌++◌, length, map, get_or, All, take, slice_get, Some, None, find, Decides, refl, sym, ap, ◌∙◌, subst, arith}
use Rattle.std.specs.List.{list_any}
use Rattle.std.specs.Option.{option_map}
use Rattle.std.proofs.lemmas.Bool.{or_parts}
use Rattle.std.proofs.lemmas.Grind.{common_steps}
use Rattle.std.proofs.lemmas.List.{take_more, get_or-take, length-map, length-take, take-take}
use Rattle.std.proofs.lemmas.List.Elements.{All-push}
use Rattle.std.proofs.lemmas.List.Folds.{list_any_more, list_any_at, Any-from_list_any}
use Rattle.std.proofs.lemmas.List.Quantifiers.{all_pairs_push}
use Rattle.std.proofs.lemmas.Option.{slice_get-map, slice_get-get_or, slice_get_within, get_or_from_slice_get}
use Rattle.tmem_invariants.specs.TableNames.{AreDistinct}

-- the element that was read at an index
pub slice_get_read : {X : Type 0} (xs : List X) (i : ℕ) (x : X) → i < length xs → x ≡ get_or xs i x → slice_get xs i ≡ Some x
slice_get_read xs i x within is = slice_get-get_or xs i x within ∙ ap Some (sym is)

-- what a map shows of it
pub slice_get-map_read : {E X : Type 0} (es : List E) (f : E → X) (i : ℕ) (e : E) → i < length es → e ≡ get_or es i e → slice_get (map f es) i ≡ Some (f e)
slice_get-map_read es f i e within is = slice_get-map f es i ∙ ap (option_map f) (slice_get_read es i e within is)

-- what all have, it has
pub All_read : {E : Type 0} (es : List E) (P : E → Type 0) (i : ℕ) (e : E) → i < length es → e ≡ get_or es i e → All P es → P e
All_read es P i e within is all = subst P (sym is) (all i e within)

-- none of one more
pub list_any-take_more : {X : Type 0} (p : X → Bool) (xs : List X) (i : ℕ) (x : X) → slice_get xs i ≡ Some x → list_any p (take i xs) ≡ false → p x ≡ false → list_any p (take (i + 1) xs) ≡ false
list_any-take_more p xs i x at none fails =
    list_any_more p xs i x (slice_get_within xs i x at)
    ∙ ap (λ b. b || p (get_or xs i x)) none
    ∙ ap p (get_or_from_slice_get xs i x x at)
    ∙ fails

pub list_any_here : {X : Type 0} (p : X → Bool) (xs : List X) (i : ℕ) (x : X) → slice_get xs i ≡ Some x → p x ≡ true → list_any p xs ≡ true
list_any_here p xs i x at passes =
    list_any_at p xs i x (slice_get_within xs i x at) (ap p (get_or_from_slice_get xs i x x at) ∙ passes)

pub list_any_whole : {X : Type 0} (p : X → Bool) (xs : List X) (i : ℕ) → length xs ≤ i → list_any p (take i xs) ≡ false → list_any p xs ≡ false
list_any_whole p xs i past none = let whole : take i xs ≡ xs = grind (arith, common_steps) in rw whole at none

-- the first is the one at an index, where none before it is
pub find_here : {X : Type 0} (p : X → Bool) (xs : List X) (i : ℕ) (x : X) → slice_get xs i ≡ Some x → list_any p (take i xs) ≡ false → p x ≡ true → find p xs ≡ Some x
find_here p [] i x at none passes = cc
find_here p (y ∷ ys) zero x at none passes =
    let same : y ≡ x = cc in
    ap (λ b. cond b (Some y) (find p ys)) (ap p same ∙ passes) ∙ ap Some same
find_here p (y ∷ ys) (suc i) x at none passes =
    let parts = or_parts (p y) (list_any p (take i ys)) none in
    ap (λ b. cond b (Some y) (find p ys)) parts.0 ∙ find_here p ys i x at parts.1 passes

pub find_none : {X : Type 0} (p : X → Bool) (xs : List X) → list_any p xs ≡ false → find p xs ≡ None
find_none p [] none = refl
find_none p (y ∷ ys) none =
    let parts = or_parts (p y) (list_any p ys) none in
    ap (λ b. cond b (Some y) (find p ys)) parts.0 ∙ find_none p ys parts.1

-- the same, of the elements of a list by what a map shows of them
pub scan_more : {E X : Type 0} (es : List E) (f : E → X) (p : X → Bool) (i : ℕ) (e : E) → i < length es → e ≡ get_or es i e → list_any p (take i (map f es)) ≡ false → p (f e) ≡ false → list_any p (take (i + 1) (map f es)) ≡ false
scan_more es f p i e within is none fails =
    list_any-take_more p (map f es) i (f e) (slice_get-map_read es f i e within is) none fails

pub scan_none : {E X : Type 0} (es : List E) (f : E → X) (p : X → Bool) (i : ℕ) → length es ≤ i → list_any p (take i (map f es)) ≡ false → list_any p (map f es) ≡ false
scan_none es f p i past none =
    list_any_whole p (map f es) i (simp length-map past) none

-- what each of the elements so far has, and one more
pub All-take_more : {E : Type 0} (es : List E) (P : E → Type 0) (i : ℕ) (e : E) → i < length es → e ≡ get_or es i e → All P (take i es) → P e → All P (take (i + 1) es)
All-take_more es P i e within is all here =
    let more : take (i + 1) es ≡ take i es ++ e ∷ [] =
    take_more es i e within ∙ ap (λ x. take i es ++ x ∷ []) (sym is) in
    subst (All P) (sym more) (All-push P (take i es) e all here)

pub All_whole : {E : Type 0} (es : List E) (P : E → Type 0) (i : ℕ) → length es ≤ i → All P (take i es) → All P es
All_whole es P i past all = let whole : take i es ≡ es = grind (arith, common_steps) in subst (All P) whole all

-- a look-up that found nothing
pub lacks_from_none : (found among : Bool) → (among ≡ true → found ≡ true) → found ≡ false → not among ≡ true
lacks_from_none found true finds none = let clash : true ≡ false = sym (finds refl) ∙ none in cc
lacks_from_none found false finds none = refl

-- two tests that agree find the same
pub find_same : {X : Type 0} (p q : X → Bool) → ((x : X) → p x ≡ q x) → (xs : List X) → find p xs ≡ find q xs
find_same p q same [] = refl
find_same p q same (x ∷ xs) =
    ap (λ b. cond b (Some x) (find p xs)) (same x) ∙ ap (λ o. cond (q x) (Some x) o) (find_same p q same xs)

-- an element that no earlier one equals
pub AreDistinct-take_more : {X : Type 0} (eq : X → X → Bool) → ((a b : X) → Decides (eq a b) (a ≡ b)) → (xs : List X) (i : ℕ) (x : X) → slice_get xs i ≡ Some x → AreDistinct (take i xs) → list_any (λ y. eq y x) (take i xs) ≡ false → AreDistinct (take (i + 1) xs)
AreDistinct-take_more eq same xs i x at distinct none =
    let more : take (i + 1) xs ≡ take i xs ++ x ∷ [] =
    take_more xs i x (slice_get_within xs i x at) ∙ ap (λ y. take i xs ++ y ∷ []) (get_or_from_slice_get xs i x x at) in
    subst AreDistinct (sym more) (all_pairs_push (λ a b. a ≢ b) (take i xs) x distinct apart)
  where
    apart : (k : ℕ) (d : _) → k < length (take i xs) → get_or (take i xs) k d ≢ x
    apart k d within is =
        let found : list_any (λ y. eq y x) (take i xs) ≡ true = list_any_at (λ y. eq y x) (take i xs) k d within ((same (get_or (take i xs) k d) x).1 is) in
        let clash : true ≡ false = sym found ∙ none in
        cc

pub AreDistinct_whole : {X : Type 0} (xs : List X) (i : ℕ) → length xs ≤ i → AreDistinct (take i xs) → AreDistinct xs
AreDistinct_whole xs i past distinct = let whole : take i xs ≡ xs = grind (arith, common_steps) in subst AreDistinct whole distinct

-- an element that an earlier one equals
pub not-AreDistinct : {X : Type 0} (eq : X → X → Bool) → ((a b : X) → Decides (eq a b) (a ≡ b)) → (xs : List X) (i : ℕ) (x : X) → slice_get xs i ≡ Some x → list_any (λ y. eq y x) (take i xs) ≡ true → ¬ AreDistinct xs
not-AreDistinct eq same xs i x at some distinct =
    let found = Any-from_list_any (λ y. eq y x) (take i xs) some in
    let before : found.0 < i = omega (arith, found.2, length-take i xs) in
    let there : get_or xs found.0 found.1 ≡ x = sym (get_or-take i xs found.0 found.1 before) ∙ found.3 ∙ (same found.1 x).0 found.4 in
    distinct found.0 i found.1 before (slice_get_within xs i x at) (there ∙ sym (get_or_from_slice_get xs i x found.1 at))

-- nor are those up to it distinct
pub not-AreDistinct-take : {X : Type 0} (eq : X → X → Bool) → ((a b : X) → Decides (eq a b) (a ≡ b)) → (xs : List X) (i : ℕ) (x : X) → slice_get xs i ≡ Some x → list_any (λ y. eq y x) (take i xs) ≡ true → ¬ AreDistinct (take (i + 1) xs)
not-AreDistinct-take eq same xs i x at some =
    let within = slice_get_within xs i x at in
    let front : take i (take (i + 1) xs) ≡ take i xs = take-take i (i + 1) xs (omega arith) in
    let long : i < length (take (i + 1) xs) = omega (arith, within, length-take (i + 1) xs) in
    let here : slice_get (take (i + 1) xs) i ≡ Some x =
    slice_get_read (take (i + 1) xs) i x long (sym (get_or-take (i + 1) xs i x (omega arith) ∙ get_or_from_slice_get xs i x x at)) in
    not-AreDistinct eq same (take (i + 1) xs) i x here (ap (list_any (λ y. eq y x)) front ∙ some)
