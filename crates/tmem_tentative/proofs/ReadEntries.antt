-- Entries by their variables: what was inserted, and the variables each once.
use Rattle.std.proofs.Common.{◌≡◌, ℕ, ℤ, Bool, true, false, List, [], ◌∷◌, ◌++◌, Option, Some, nat_eq, cond, refl, sym, ap, ◌∙◌}
use Rattle.std.proofs.lemmas.Bool.{eqb-true, eq-eqb}
use Rattle.indexmap.specs.IndexMap.{insert_entry}
use Rattle.tmem_effect.specs.Writes.{value_in, with_write}
use Rattle.tmem_tree.specs.Visited.{has, noted, each_once}
use Rattle.tmem_tentative.specs.Right.{valued}

-- not both: they are different variables
swap_value : (a c : Bool) (x n : ℤ) (o : Option ℤ) → (a ≡ true → c ≡ true → ⊥) → cond a (Some x) (cond c (Some n) o) ≡ cond c (Some n) (cond a (Some x) o)
swap_value true true x n o h = absurd (h refl refl)
swap_value true false x n o h = refl
swap_value false true x n o h = refl
swap_value false false x n o h = refl

twice_value : (c : Bool) (x n : ℤ) (o : Option ℤ) → cond c (Some n) o ≡ cond c (Some n) (cond c (Some x) o)
twice_value true x n o = refl
twice_value false x n o = refl

-- a write is kept as an entry is inserted
pub write_is_insert : (es : List (ℕ × ℤ)) (k : ℕ) (n : ℤ) → with_write es k n ≡ insert_entry nat_eq es k n
write_is_insert [] k n = refl
write_is_insert (e ∷ es) k n = on (nat_eq k e.0) refl (write_is_insert es k n) where
  on : (b : Bool) → nat_eq k e.0 ≡ b → with_write es k n ≡ insert_entry nat_eq es k n → cond b ((k, n) ∷ es) (e ∷ with_write es k n) ≡ cond b ((e.0, n) ∷ es) (e ∷ insert_entry nat_eq es k n)
  on true is same = ap (λ x. (x, n) ∷ es) (eqb-true k e.0 is)
  on false is same = ap (λ l. e ∷ l) same

-- the value of what was inserted
pub value_in-insert : (es : List (ℕ × ℤ)) (k : ℕ) (n : ℤ) (v : ℕ) → value_in (insert_entry nat_eq es k n) v ≡ cond (nat_eq v k) (Some n) (value_in es v)
value_in-insert [] k n v = refl
value_in-insert (e ∷ es) k n v = on (nat_eq k e.0) refl (value_in-insert es k n v) where
  on : (b : Bool) → nat_eq k e.0 ≡ b → value_in (insert_entry nat_eq es k n) v ≡ cond (nat_eq v k) (Some n) (value_in es v) → value_in (cond b ((e.0, n) ∷ es) (e ∷ insert_entry nat_eq es k n)) v ≡ cond (nat_eq v k) (Some n) (cond (nat_eq v e.0) (Some e.1) (value_in es v))
  on true is ih =
      let same : e.0 ≡ k = sym (eqb-true k e.0 is) in
      ap (λ y. cond (nat_eq v y) (Some n) (value_in es v)) same ∙ twice_value (nat_eq v k) e.1 n (value_in es v) ∙ ap (λ y. cond (nat_eq v k) (Some n) (cond (nat_eq v y) (Some e.1) (value_in es v))) (sym same)
  on false is ih =
      ap (cond (nat_eq v e.0) (Some e.1)) ih ∙ swap_value (nat_eq v e.0) (nat_eq v k) e.1 n (value_in es v) (λ p q.
      let same : k ≡ e.0 = sym (eqb-true v k q) ∙ eqb-true v e.0 p in
      let both : true ≡ false = sym (eq-eqb k e.0 same) ∙ is in
      cc)

-- the values of a map at some variables, and at one more
pub insert-valued : (values : ℕ → ℤ) (vars : List ℕ) (var : ℕ) → insert_entry nat_eq (valued values vars) var (values var) ≡ valued values (noted vars var)
insert-valued values [] var = refl
insert-valued values (x ∷ xs) var = on (nat_eq var x) refl (has xs var) (insert-valued values xs var) where
  on : (b : Bool) → nat_eq var x ≡ b → (c : Bool) → insert_entry nat_eq (valued values xs) var (values var) ≡ valued values (cond c xs (xs ++ var ∷ [])) → cond b ((x, values var) ∷ valued values xs) ((x, values x) ∷ insert_entry nat_eq (valued values xs) var (values var)) ≡ valued values (cond (cond b true c) (x ∷ xs) (x ∷ xs ++ var ∷ []))
  on true is c ih = ap (λ y. (x, values y) ∷ valued values xs) (eqb-true var x is)
  on false is true ih = ap (λ es. (x, values x) ∷ es) ih
  on false is false ih = ap (λ es. (x, values x) ∷ es) ih

-- the visited variables are noted with their values
abbrev pub note : (ℕ → ℤ) → List (ℕ × ℤ) → List ℕ → List (ℕ × ℤ)
note values seen [] = seen
note values seen (var ∷ vars) = note values (insert_entry nat_eq seen var (values var)) vars

pub note-append : (values : ℕ → ℤ) (seen : List (ℕ × ℤ)) (xs ys : List ℕ) → note values seen (xs ++ ys) ≡ note values (note values seen xs) ys
note-append values seen [] ys = refl
note-append values seen (x ∷ xs) ys = note-append values (insert_entry nat_eq seen x (values x)) xs ys

pub note-valued : (values : ℕ → ℤ) (seen vars : List ℕ) → note values (valued values seen) vars ≡ valued values (each_once seen vars)
note-valued values seen [] = refl
note-valued values seen (var ∷ vars) =
    ap (λ es. note values es vars) (insert-valued values seen var) ∙ note-valued values (noted seen var) vars
