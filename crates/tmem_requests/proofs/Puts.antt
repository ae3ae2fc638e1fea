-- What is put behind others that are all different from it.
use Rattle.std.proofs.Common.{◌≡◌, ℕ, ◌+◌, ◌<◌, ℤ, Bool, true, false, List, [], ◌∷◌, ◌++◌, length, get_or, take, slice_get, Some, nat_eq, bytes_eq, Decides, if◌then◌else◌, refl, sym, ap, ◌∙◌}
use Rattle.std.specs.List.{list_any}
use Rattle.std.specs.Map.{keys_of}
use Rattle.std.proofs.lemmas.Bool.{or_parts}
use Rattle.std.proofs.lemmas.Bool.Decides.{Decides-eqb}
use Rattle.std.proofs.lemmas.List.{take-map}
use Rattle.std.proofs.lemmas.Option.{slice_get-get_or}
use Rattle.std.proofs.lemmas.Slice.Eq.{bytes_eq-Decides}
use Rattle.indexmap.specs.IndexMap.{insert_entry}
use Rattle.tmem_fault.specs.Distinct.{AreDistinct}
use Rattle.tmem_fault.specs.Name.{has_name}
use Rattle.tmem_effect.specs.Names.{with_name}
use Rattle.tmem_effect.specs.Writes.{with_write}
use Rattle.tmem_forms.proofs.Laws.{not_distinct, shown_at}
use Rattle.tmem_requests.proofs.Each.{one_more}

-- where the others are before it
new_at : {X : Type 0} (eq : X → X → Bool) → ((a b : X) → Decides (eq a b) (a ≡ b)) → (xs : List X) (i : ℕ) (x : X) → slice_get xs i ≡ Some x → AreDistinct xs → list_any (λ y. eq y x) (take i xs) ≡ false
new_at eq same xs i x at distinct = by (list_any (λ y. eq y x) (take i xs)) refl
  where
    by : (b : Bool) → list_any (λ y. eq y x) (take i xs) ≡ b → b ≡ false
    by true some = absurd (not_distinct eq same xs i x at some distinct)
    by false none = refl

same_number : (a b : ℕ) → Decides (nat_eq b a) (a ≡ b)
same_number a b = (λ yes. sym ((Decides-eqb b a).0 yes), λ same. (Decides-eqb b a).1 (sym same))

-- a variable that none before it is
pub new_variable : (ps : List (ℕ × ℤ)) (i : ℕ) (p : ℕ × ℤ) → i < length ps → p ≡ get_or ps i p → AreDistinct (keys_of ps) → list_any (λ k. nat_eq p.0 k) (keys_of (take i ps)) ≡ false
new_variable ps i p within is distinct =
    ap (list_any (λ k. nat_eq p.0 k)) (sym (take-map (λ (q : ℕ × ℤ). q.0) i ps))
    ∙ new_at (λ a b. nat_eq b a) same_number (keys_of ps) i p.0 (shown_at ps (λ q. q.0) i p within is) distinct

other_branch : {X : Type 0} (b : Bool) (x y : X) → b ≡ false → (if b then x else y) ≡ y
other_branch true x y is = cc
other_branch false x y is = refl

pub inserted_last : (ps : List (ℕ × ℤ)) (var : ℕ) (value : ℤ) → list_any (λ k. nat_eq var k) (keys_of ps) ≡ false → insert_entry nat_eq ps var value ≡ ps ++ (var, value) ∷ []
inserted_last [] var value none = refl
inserted_last (p ∷ ps) var value none =
    let parts = or_parts (nat_eq var p.0) (list_any (λ k. nat_eq var k) (keys_of ps)) none in
    other_branch (nat_eq var p.0) ((p.0, value) ∷ ps) (p ∷ insert_entry nat_eq ps var value) parts.0 ∙ ap (λ qs. p ∷ qs) (inserted_last ps var value parts.1)

pub written_last : (ps : List (ℕ × ℤ)) (var : ℕ) (value : ℤ) → list_any (λ k. nat_eq var k) (keys_of ps) ≡ false → with_write ps var value ≡ ps ++ (var, value) ∷ []
written_last [] var value none = refl
written_last (p ∷ ps) var value none =
    let parts = or_parts (nat_eq var p.0) (list_any (λ k. nat_eq var k) (keys_of ps)) none in
    other_branch (nat_eq var p.0) ((var, value) ∷ ps) (p ∷ with_write ps var value) parts.0 ∙ ap (λ qs. p ∷ qs) (written_last ps var value parts.1)

pub named_last : (ns : List (List ℕ)) (i : ℕ) (name : List ℕ) → i < length ns → name ≡ get_or ns i name → AreDistinct ns → with_name (take i ns) name ≡ take i ns ++ name ∷ []
named_last ns i name within is distinct =
    other_branch (has_name (take i ns) name) (take i ns) (take i ns ++ name ∷ []) (new_at bytes_eq bytes_eq-Decides ns i name (at within) distinct)
  where
    at : i < length ns → slice_get ns i ≡ Some name
    at within = slice_get-get_or ns i name within ∙ ap Some (sym is)

-- ---- one more of the first of a list

pub one_write_more : (ps : List (ℕ × ℤ)) (i : ℕ) (p : ℕ × ℤ) → i < length ps → p ≡ get_or ps i p → AreDistinct (keys_of ps) → with_write (take i ps) p.0 p.1 ≡ take (i + 1) ps
one_write_more ps i p within is distinct =
    written_last (take i ps) p.0 p.1 (new_variable ps i p within is distinct) ∙ sym (one_more ps i p within is)

pub one_read_more : (ps : List (ℕ × ℤ)) (i : ℕ) (p : ℕ × ℤ) → i < length ps → p ≡ get_or ps i p → AreDistinct (keys_of ps) → insert_entry nat_eq (take i ps) p.0 p.1 ≡ take (i + 1) ps
one_read_more ps i p within is distinct =
    inserted_last (take i ps) p.0 p.1 (new_variable ps i p within is distinct) ∙ sym (one_more ps i p within is)

pub one_name_more : (ns : List (List ℕ)) (i : ℕ) (name : List ℕ) → i < length ns → name ≡ get_or ns i name → AreDistinct ns → with_name (take i ns) name ≡ take (i + 1) ns
one_name_more ns i name within is distinct =
    named_last ns i name within is distinct ∙ sym (one_more ns i name within is)
