-- The entries that a program's table has are within the limits of tables.
use Rattle.std.proofs.Common.{Bool, true, ◌&&◌, cond, filter, nat_lt, ap, ◌≤◌, ◌≡◌, ◌≢◌, ℕ, ◌<◌, false, bytes_eq, List, [], ◌∷◌, map, All, Result, Ok, Err, IsOk, IfErr, ◌⊎◌, inl, inr, codes, lit≤, refl, sym, ◌∙◌, arith}
use Rattle.std.proofs.lemmas.Bool.{false≢true, lt-ltb, le-ltb}
use Rattle.std.proofs.lemmas.List.Elements.{All-nil, All-cons}
use Rattle.std.proofs.lemmas.List.Kept.{AllPairs-cons}
use Rattle.std.proofs.lemmas.Slice.Eq.{bytes_eq-Decides}
use Rattle.tmem_invariants.specs.TableNames.{AreBelow, AreTableNames, AreDistinct, IsFootprint}
use Rattle.tmem_builtins.specs.Invariants.{is_footprint_within}

-- where a result is Ok or one error, any error that is spoken of is that one
pub one_error : {A E : Type 0} (r : Result A E) (e : E) → IsOk r ⊎ (r ≡ Err e) → IfErr r (λ other. other ≡ e)
one_error (Ok a) e is = tt
one_error (Err other) e (inl ok) = absurd (false≢true ok)
one_error (Err other) e (inr is) = cc

apart : (a b : List ℕ) → bytes_eq a b ≡ false → a ≢ b
apart a b differ same = false≢true (sym differ ∙ (bytes_eq-Decides a b).1 same)

none : {X : Type 0} → AreDistinct {X = X} []
none i j d before within = absurd (omega (arith, within))

one : {X : Type 0} (x : X) → AreDistinct (x ∷ [])
one x = AllPairs-cons (λ a b. a ≢ b) x [] (All-nil (λ b. x ≢ b)) none

two : {X : Type 0} (x y : X) → x ≢ y → AreDistinct (x ∷ y ∷ [])
two x y first = AllPairs-cons (λ a b. a ≢ b) x (y ∷ []) (All-cons (λ b. x ≢ b) y [] first (All-nil (λ b. x ≢ b))) (one y)

three : {X : Type 0} (x y z : X) → x ≢ y → x ≢ z → y ≢ z → AreDistinct (x ∷ y ∷ z ∷ [])
three x y z first second third = AllPairs-cons (λ a b. a ≢ b) x (y ∷ z ∷ []) (All-cons (λ b. x ≢ b) y (z ∷ []) first (All-cons (λ b. x ≢ b) z [] second (All-nil (λ b. x ≢ b)))) (two y z third)

below : (vars a : ℕ) → a < vars → AreBelow vars (a ∷ [])
below vars a first = All-cons (λ v. v < vars) a [] first (All-nil (λ v. v < vars))

both_below : (vars a b : ℕ) → a < vars → b < vars → AreBelow vars (a ∷ b ∷ [])
both_below vars a b first second = All-cons (λ v. v < vars) a (b ∷ []) first (below vars b second)

pub of_none : {E : Type 0} (name footprint : E → List ℕ) (vars : ℕ) (es : List E) → es ≡ [] → AreTableNames (map name es) × All (λ e. AreBelow vars (footprint e)) es
of_none name footprint vars es is = rw is ((lit≤ tt, none), All-nil (λ e. AreBelow vars (footprint e)))

pub of_one : {E : Type 0} (name footprint : E → List ℕ) (vars : ℕ) (es : List E) (x : E) → es ≡ x ∷ [] → footprint x ≡ 0 ∷ [] → 0 < vars → AreTableNames (map name es) × All (λ e. AreBelow vars (footprint e)) es
of_one name footprint vars es x is over enough =
    let P = λ (e : _). AreBelow vars (footprint e) in
    rw is ((lit≤ tt, one (name x)), All-cons P x [] (rw over (below vars 0 enough)) (All-nil P))

pub of_two : {E : Type 0} (name footprint : E → List ℕ) (vars : ℕ) (es : List E) (x y : E) → es ≡ x ∷ y ∷ [] → name x ≡ codes "nonneg" → name y ≡ codes "sum" → footprint x ≡ 0 ∷ [] → footprint y ≡ 0 ∷ 1 ∷ [] → 1 < vars → AreTableNames (map name es) × All (λ e. AreBelow vars (footprint e)) es
of_two name footprint vars es x y is first second over_first over_second enough =
    let P = λ (e : _). AreBelow vars (footprint e) in
    rw is ((lit≤ tt, two (name x) (name y) (rw (first, second) (apart (codes "nonneg") (codes "sum") refl))), All-cons P x (y ∷ []) (rw over_first (below vars 0 (omega arith))) (All-cons P y [] (rw over_second (both_below vars 0 1 (omega arith) enough)) (All-nil P)))

pub of_three : {E : Type 0} (name footprint : E → List ℕ) (vars : ℕ) (es : List E) (x y z : E) → es ≡ x ∷ y ∷ z ∷ [] → name x ≡ codes "nonneg" → name y ≡ codes "sum" → name z ≡ codes "ordered" → footprint x ≡ 0 ∷ [] → footprint y ≡ 0 ∷ 1 ∷ [] → footprint z ≡ 2 ∷ 3 ∷ [] → 3 < vars → AreTableNames (map name es) × All (λ e. AreBelow vars (footprint e)) es
of_three name footprint vars es x y z is first second third over_first over_second over_third enough =
    let P = λ (e : _). AreBelow vars (footprint e) in
    rw is ((lit≤ tt, three (name x) (name y) (name z) (rw (first, second) (apart (codes "nonneg") (codes "sum") refl)) (rw (first, third) (apart (codes "nonneg") (codes "ordered") refl)) (rw (second, third) (apart (codes "sum") (codes "ordered") refl))), All-cons P x (y ∷ z ∷ []) (rw over_first (below vars 0 (omega arith))) (All-cons P y (z ∷ []) (rw over_second (both_below vars 0 1 (omega arith) (omega arith))) (All-cons P z [] (rw over_third (both_below vars 2 3 (omega arith) enough)) (All-nil P))))

pub one_variable : (a : ℕ) → IsFootprint (a ∷ [])
one_variable a = record { not_empty = lit≤ tt; short = lit≤ tt; distinct = one a }

pub two_variables : (a b : ℕ) → a ≢ b → IsFootprint (a ∷ b ∷ [])
two_variables a b differ = record { not_empty = lit≤ tt; short = lit≤ tt; distinct = two a b differ }

-- which footprints are within a number of variables: those of one and of two
pub within_one : (vars a : ℕ) (footprint : List ℕ) → footprint ≡ a ∷ [] → a < vars → is_footprint_within vars footprint ≡ true
within_one vars a footprint is enough = ap (is_footprint_within vars) is ∙ ap (λ b. b && true) (lt-ltb a vars enough)

pub past_one : (vars a : ℕ) (footprint : List ℕ) → footprint ≡ a ∷ [] → vars ≤ a → is_footprint_within vars footprint ≡ false
past_one vars a footprint is few = ap (is_footprint_within vars) is ∙ ap (λ b. b && true) (le-ltb a vars few)

pub within_two : (vars a b : ℕ) (footprint : List ℕ) → footprint ≡ a ∷ b ∷ [] → a < vars → b < vars → is_footprint_within vars footprint ≡ true
within_two vars a b footprint is enough more = ap (is_footprint_within vars) is ∙ ap (λ t. t && (nat_lt b vars && true)) (lt-ltb a vars enough) ∙ ap (λ t. t && true) (lt-ltb b vars more)

pub past_two : (vars a b : ℕ) (footprint : List ℕ) → footprint ≡ a ∷ b ∷ [] → vars ≤ b → is_footprint_within vars footprint ≡ false
past_two vars a b footprint is few = ap (is_footprint_within vars) is ∙ ap (λ t. nat_lt a vars && (t && true)) (le-ltb b vars few) ∙ neither (nat_lt a vars)
  where
    neither : (t : Bool) → (t && false) ≡ false
    neither true = refl
    neither false = refl

-- of three, those whose tests are so
abbrev pub chosen : {E : Type 0} → Bool → Bool → Bool → E → E → E → List E
chosen a b c x y z = cond a (x ∷ cond b (y ∷ cond c (z ∷ []) []) (cond c (z ∷ []) [])) (cond b (y ∷ cond c (z ∷ []) []) (cond c (z ∷ []) []))

pub three_filtered : {E : Type 0} (p : E → Bool) (x y z : E) (a b c : Bool) → p x ≡ a → p y ≡ b → p z ≡ c → filter p (x ∷ y ∷ z ∷ []) ≡ chosen a b c x y z
three_filtered p x y z a b c first second third = rw (first, second, third) refl

map_chosen : {E A : Type 0} (f : E → A) (a b c : Bool) (x y z : E) → map f (chosen a b c x y z) ≡ chosen a b c (f x) (f y) (f z)
map_chosen f true true true x y z = refl
map_chosen f true true false x y z = refl
map_chosen f true false true x y z = refl
map_chosen f true false false x y z = refl
map_chosen f false true true x y z = refl
map_chosen f false true false x y z = refl
map_chosen f false false true x y z = refl
map_chosen f false false false x y z = refl

pub filtered_images : {E A : Type 0} (f : E → A) (p : E → Bool) (x y z : E) (a b c : Bool) (u v w : A) → p x ≡ a → p y ≡ b → p z ≡ c → f x ≡ u → f y ≡ v → f z ≡ w → map f (filter p (x ∷ y ∷ z ∷ [])) ≡ chosen a b c u v w
filtered_images f p x y z a b c u v w first second third one_is two_is three_is = ap (map f) (three_filtered p x y z a b c first second third) ∙ map_chosen f a b c x y z ∙ rw (one_is, two_is, three_is) refl

pub same_triple : {A B C : Type 0} {a d : A} {b e : B} {c f : C} → a ≡ d → b ≡ e → c ≡ f → ◌≡◌ {A = A × B × C} (a, b, c) (d, e, f)
same_triple first second third = rw (first, second, third) refl
