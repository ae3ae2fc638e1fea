-- What stands at an index among those that wait, and among those that are kept.
use Rattle.std.proofs.Common.{◌≡◌, ℕ, suc, ℤ, ◌<◌, ◌+◌, Bool, true, false, ◌||◌, cond, not, nat_lt, List, [], ◌∷◌, ◌++◌, length, map, set, get_or, Some, None, refl, ap, subst, arith}
use Rattle.std.specs.Prelude.{find, position, bytes_eq, if◌then◌else◌}
use Rattle.std.proofs.lemmas.Bool.Decides.{nat_tests}
use Rattle.std.specs.List.{position_or_len, remove}
use Rattle.std.specs.Option.{option_map}
use Rattle.std.specs.Ordering.{int_eq}
use Rattle.tmem_tree.specs.declared.tx.Tx.{Tx}
use Rattle.tmem_requests.specs.declared.request.RequestBody.{RequestBody}
use Rattle.tmem_desk.specs.Keeping.{is_under, kept_under, with_kept}
use Rattle.tmem_desk.specs.Serving.{waits, without}

-- ---- those that wait

-- where none of this id waits
pub none_waits : {X : Type 0} (g : X → ℤ × RequestBody) (id : ℤ) (xs : List X) → ¬ (position_or_len (λ (x : X). int_eq (g x).0 id) xs < length xs) → waits id (map g xs) ≡ false
none_waits g id [] none = refl
none_waits {X} g id (x ∷ xs) none = either (int_eq (g x).0 id) none (none_waits g id xs)
  where
    rest : ℕ
    rest = position_or_len (λ (y : X). int_eq (g y).0 id) xs

    either : (b : Bool) → ¬ (cond (not b) (1 + rest) 0 < length (x ∷ xs)) → (¬ (rest < length xs) → waits id (map g xs) ≡ false) → (b || waits id (map g xs)) ≡ false
    either true short later = absurd (short (omega arith))
    either false short later = later (λ below. short (omega arith))

-- the first of this id that waits
pub first_waits : {X : Type 0} (g : X → ℤ × RequestBody) (id : ℤ) (xs : List X) → position_or_len (λ (x : X). int_eq (g x).0 id) xs < length xs → waits id (map g xs) ≡ true
first_waits g id [] below = absurd (omega arith)
first_waits {X} g id (x ∷ xs) below = either (int_eq (g x).0 id) below (first_waits g id xs)
  where
    rest : ℕ
    rest = position_or_len (λ (y : X). int_eq (g y).0 id) xs

    either : (b : Bool) → cond (not b) (1 + rest) 0 < length (x ∷ xs) → (rest < length xs → waits id (map g xs) ≡ true) → (b || waits id (map g xs)) ≡ true
    either true at later = refl
    either false at later = later (omega arith)

-- the others, without it
pub without_first : {X : Type 0} (g : X → ℤ × RequestBody) (id : ℤ) (xs : List X) → position_or_len (λ (x : X). int_eq (g x).0 id) xs < length xs
    → map g (remove xs (position_or_len (λ (x : X). int_eq (g x).0 id) xs)) ≡ without id (map g xs)
without_first g id [] below = absurd (omega arith)
without_first {X} g id (x ∷ xs) below = either (int_eq (g x).0 id) below (without_first g id xs)
  where
    rest : ℕ
    rest = position_or_len (λ (y : X). int_eq (g y).0 id) xs

    either : (b : Bool) → cond (not b) (1 + rest) 0 < length (x ∷ xs) → (rest < length xs → map g (remove xs rest) ≡ without id (map g xs))
        → map g (remove (x ∷ xs) (cond (not b) (1 + rest) 0)) ≡ (if b then map g xs else g x ∷ without id (map g xs))
    either true at later = refl
    either false at later =
        let next : 1 + rest ≡ suc rest = omega arith in
        rw next (ap (λ (ws : List (ℤ × RequestBody)). g x ∷ ws) (later (omega arith)))

-- ---- those that are kept

-- where none is kept under this word
pub none_kept : {X : Type 0} (g : X → List ℕ × Tx) (word : List ℕ) (xs : List X) → ¬ (position_or_len (λ (x : X). bytes_eq (g x).0 word) xs < length xs) → kept_under word (map g xs) ≡ None
none_kept g word [] none = refl
none_kept {X} g word (x ∷ xs) none = either (bytes_eq (g x).0 word) none (none_kept g word xs)
  where
    rest : ℕ
    rest = position_or_len (λ (y : X). bytes_eq (g y).0 word) xs

    either : (b : Bool) → ¬ (cond (not b) (1 + rest) 0 < length (x ∷ xs)) → (¬ (rest < length xs) → kept_under word (map g xs) ≡ None)
        → option_map (λ (k : List ℕ × Tx). k.1) (cond b (Some (g x)) (find (is_under word) (map g xs))) ≡ None
    either true short later = absurd (short (omega arith))
    either false short later = later (λ below. short (omega arith))

-- the one that is kept under it
pub first_kept : {X : Type 0} (g : X → List ℕ × Tx) (word : List ℕ) (xs : List X) (d : X) → position_or_len (λ (x : X). bytes_eq (g x).0 word) xs < length xs
    → kept_under word (map g xs) ≡ Some (g (get_or xs (position_or_len (λ (x : X). bytes_eq (g x).0 word) xs) d)).1
first_kept g word [] d below = absurd (omega arith)
first_kept {X} g word (x ∷ xs) d below = either (bytes_eq (g x).0 word) below (first_kept g word xs d)
  where
    rest : ℕ
    rest = position_or_len (λ (y : X). bytes_eq (g y).0 word) xs

    either : (b : Bool) → cond (not b) (1 + rest) 0 < length (x ∷ xs) → (rest < length xs → kept_under word (map g xs) ≡ Some (g (get_or xs rest d)).1)
        → option_map (λ (k : List ℕ × Tx). k.1) (cond b (Some (g x)) (find (is_under word) (map g xs))) ≡ Some (g (get_or (x ∷ xs) (cond (not b) (1 + rest) 0) d)).1
    either true at later = refl
    either false at later =
        let next : 1 + rest ≡ suc rest = omega arith in
        rw next (later (omega arith))

-- one in its place
pub put_first : {X : Type 0} (g : X → List ℕ × Tx) (word : List ℕ) (tx : Tx) (xs : List X) (y : X) → g y ≡ (word, tx) → position_or_len (λ (x : X). bytes_eq (g x).0 word) xs < length xs
    → map g (set xs (position_or_len (λ (x : X). bytes_eq (g x).0 word) xs) y) ≡ with_kept word tx (map g xs)
put_first g word tx [] y is below = absurd (omega arith)
put_first {X} g word tx (x ∷ xs) y is below = either (bytes_eq (g x).0 word) below (put_first g word tx xs y is)
  where
    rest : ℕ
    rest = position_or_len (λ (z : X). bytes_eq (g z).0 word) xs

    either : (b : Bool) → cond (not b) (1 + rest) 0 < length (x ∷ xs) → (rest < length xs → map g (set xs rest y) ≡ with_kept word tx (map g xs))
        → map g (set (x ∷ xs) (cond (not b) (1 + rest) 0) y) ≡ (if b then (word, tx) ∷ map g xs else g x ∷ with_kept word tx (map g xs))
    either true at later = ap (λ (k : List ℕ × Tx). k ∷ map g xs) is
    either false at later =
        let next : 1 + rest ≡ suc rest = omega arith in
        rw next (ap (λ (ks : List (List ℕ × Tx)). g x ∷ ks) (later (omega arith)))

-- one behind all
pub put_last : {X : Type 0} (g : X → List ℕ × Tx) (word : List ℕ) (tx : Tx) (xs : List X) (y : X) → g y ≡ (word, tx) → ¬ (position_or_len (λ (x : X). bytes_eq (g x).0 word) xs < length xs)
    → map g (xs ++ y ∷ []) ≡ with_kept word tx (map g xs)
put_last g word tx [] y is none = ap (λ (k : List ℕ × Tx). k ∷ []) is
put_last {X} g word tx (x ∷ xs) y is none = either (bytes_eq (g x).0 word) none (put_last g word tx xs y is)
  where
    rest : ℕ
    rest = position_or_len (λ (z : X). bytes_eq (g z).0 word) xs

    either : (b : Bool) → ¬ (cond (not b) (1 + rest) 0 < length (x ∷ xs)) → (¬ (rest < length xs) → map g (xs ++ y ∷ []) ≡ with_kept word tx (map g xs))
        → g x ∷ map g (xs ++ y ∷ []) ≡ (if b then (word, tx) ∷ map g xs else g x ∷ with_kept word tx (map g xs))
    either true short later = absurd (short (omega arith))
    either false short later = ap (λ (ks : List (List ℕ × Tx)). g x ∷ ks) (later (λ below. short (omega arith)))

-- ---- indices

-- what is told of an index
pub found_at : {X : Type 0} (p : X → Bool) (xs : List X) (at : ℕ) → position p xs ≡ Some at → (position_or_len p xs < length xs) × (position_or_len p xs ≡ at)
found_at p xs at is = either (nat_lt (position_or_len p xs) (length xs)) refl is
  where
    either : (b : Bool) → nat_lt (position_or_len p xs) (length xs) ≡ b → cond b (Some (position_or_len p xs)) None ≡ Some at → (position_or_len p xs < length xs) × (position_or_len p xs ≡ at)
    either true below is = (grind (arith, nat_tests), cc)
    either false below is = absurd (cc is)

pub found_below : {X : Type 0} (p : X → Bool) (xs : List X) (at : ℕ) → position p xs ≡ Some at → at < length xs
found_below p xs at is =
    let found_index = found_at p xs at is in
    subst (λ (k : ℕ). k < length xs) found_index.1 found_index.0

pub found_none : {X : Type 0} (p : X → Bool) (xs : List X) → position p xs ≡ None → ¬ (position_or_len p xs < length xs)
found_none p xs is = either (nat_lt (position_or_len p xs) (length xs)) refl is
  where
    either : (b : Bool) → nat_lt (position_or_len p xs) (length xs) ≡ b → cond b (Some (position_or_len p xs)) None ≡ None → ¬ (position_or_len p xs < length xs)
    either true below is = absurd (cc is)
    either false not_below is = λ below. absurd (grind (arith, nat_tests))
