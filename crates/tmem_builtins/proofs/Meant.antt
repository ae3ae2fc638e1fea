-- Each entry of a table of invariants has its own meaning.
use Rattle.std.proofs.Common.{◌≡◌, ℕ, ℤ, Bool, List, [], ◌∷◌, All, codes, filter, refl}
use Rattle.std.proofs.lemmas.List.Elements.{All-nil, All-cons, All-filter}
use Rattle.std.specs.Borrow.{Bor}
use Rattle.tmem_invariants.specs.Answers.{Gives, IsMeant}
use Rattle.tmem_builtins.specs.Builtins.{builtin_tests}
use Rattle.tmem_builtins.specs.Invariants.{is_not_negative, add_to_hundred, are_ordered}

abbrev Post : Type 1
Post = Bor (List ℤ) → Bool → Type 0

pub nonneg_meant : (name footprint : List ℕ) (post : Post) → name ≡ codes "nonneg" → footprint ≡ 0 ∷ [] → Gives post 1 is_not_negative → IsMeant builtin_tests name footprint post
nonneg_meant name footprint post named over gives = rw (named, over) (record { over = refl; answers = gives })

pub sum_meant : (name footprint : List ℕ) (post : Post) → name ≡ codes "sum" → footprint ≡ 0 ∷ 1 ∷ [] → Gives post 2 add_to_hundred → IsMeant builtin_tests name footprint post
sum_meant name footprint post named over gives = rw (named, over) (record { over = refl; answers = gives })

pub ordered_meant : (name footprint : List ℕ) (post : Post) → name ≡ codes "ordered" → footprint ≡ 2 ∷ 3 ∷ [] → Gives post 2 are_ordered → IsMeant builtin_tests name footprint post
ordered_meant name footprint post named over gives = rw (named, over) (record { over = refl; answers = gives })

-- what holds of each of three holds of each that a test keeps
pub some_meant : {E : Type 0} (P : E → Type 0) (p : E → Bool) (es : List E) (x y z : E) → es ≡ filter p (x ∷ y ∷ z ∷ []) → P x → P y → P z → All P es
some_meant P p es x y z is first second third = rw is (All-filter p P (x ∷ y ∷ z ∷ []) (All-cons P x (y ∷ z ∷ []) first (All-cons P y (z ∷ []) second (All-cons P z [] third (All-nil P)))))
