-- One meaning for each of several names makes meanings for all.
use Rattle.std.proofs.Common.{◌≡◌, ◌≢◌, ℕ, zero, suc, ◌<◌, ℤ, Bool, true, false, cond, bytes_eq, List, [], ◌∷◌, length, map, get_or, All, refl, sym, ap, ◌∙◌, subst}
use Rattle.std.specs.Borrow.{Bor}
use mathlib.Core.Logic.{∥∥₁_elim, ∥∥₁_map, ∥∥₁_prop}
use Rattle.std.proofs.lemmas.Slice.Eq.{bytes_eq-Decides}
use Rattle.std.proofs.lemmas.Bool.{false_from_ne_true}
use Rattle.std.proofs.lemmas.List.{length-map}
use Rattle.std.proofs.Math.Nat.{not-suc-le-zero, suc-le-suc_iff, zero-lt-suc}
use Rattle.std.proofs.Math.ListN.{get_or-map}
use Rattle.tmem_invariants.specs.Answers.{Gives, HasMeaning, IsMeant}
use Rattle.tmem_invariants.specs.Meanings.{Meanings}
use Rattle.tmem_invariants.specs.TableNames.{AreDistinct}

-- what a name means, and what any other name means by m
abbrev pub meaning_also : List ℕ → List ℕ → (List ℤ → Bool) → Meanings → Meanings
meaning_also name footprint meaning m = record {
  footprint = λ other. cond (bytes_eq other name) footprint (m.footprint other);
  test = λ other. cond (bytes_eq other name) meaning (m.test other);
}

-- it means that by its own name
IsMeant-own : (m : Meanings) (name footprint : List ℕ) (meaning : List ℤ → Bool) (post : Bor (List ℤ) → Bool → Type 0) → Gives post (length footprint) meaning → IsMeant (meaning_also name footprint meaning m) name footprint post
IsMeant-own m name footprint meaning post gives =
    let own : bytes_eq name name ≡ true = (bytes_eq-Decides name name).1 refl in
    record {
      over = sym (ap (λ b. cond b footprint (m.footprint name)) own);
      answers = subst (Gives post (length footprint)) (sym (ap (λ b. cond b meaning (m.test name)) own)) gives;
    }

-- and what it meant before by any other
IsMeant-other : (m : Meanings) (name footprint : List ℕ) (meaning : List ℤ → Bool) (other : List ℕ) → other ≢ name → (theirs : List ℕ) (post : Bor (List ℤ) → Bool → Type 0) → IsMeant m other theirs post → IsMeant (meaning_also name footprint meaning m) other theirs post
IsMeant-other m name footprint meaning other apart theirs post meant =
    let no : bytes_eq other name ≡ false = false_from_ne_true (bytes_eq other name) (λ is. apart ((bytes_eq-Decides other name).0 is)) in
    record {
      over = meant.over ∙ sym (ap (λ b. cond b footprint (m.footprint other)) no);
      answers = subst (Gives post (length theirs)) (sym (ap (λ b. cond b meaning (m.test other)) no)) meant.answers;
    }

All-cons : {E : Type 0} (P : E → Type 0) (e : E) (es : List E) → P e → ((k : ℕ) (d : E) → k < length es → P (get_or es k d)) → All P (e ∷ es)
All-cons P e es here rest zero d within = here
All-cons P e es here rest (suc k) d within = rest k d (suc-le-suc_iff.0 within)

-- distinct names that each have a meaning have meanings together
pub joined_meanings : {E : Type 0} (name : E → List ℕ) (footprint : E → List ℕ) (post : E → Bor (List ℤ) → Bool → Type 0) → ((e : E) → HasMeaning (post e) (length (footprint e))) → (es : List E) → AreDistinct (map name es) → ∥ ((m : Meanings) × All (λ e. IsMeant m (name e) (footprint e) (post e)) es) ∥₁
joined_meanings name footprint post each [] distinct =
    ∣ (record { footprint = λ other. []; test = λ other values. true }, λ k d within. absurd (not-suc-le-zero within)) ∣₁
joined_meanings {E = E} name footprint post each (e ∷ es) distinct =
    ∥∥₁_elim (each e) ∥∥₁_prop (λ f. ∥∥₁_map (joined_meanings name footprint post each es rest) (λ m. (meaning_also (name e) (footprint e) f.0 m.0, All-cons (λ x. IsMeant (meaning_also (name e) (footprint e) f.0 m.0) (name x) (footprint x) (post x)) e es (IsMeant-own m.0 (name e) (footprint e) f.0 (post e) f.1) (λ k d within. IsMeant-other m.0 (name e) (footprint e) f.0 (name (get_or es k d)) (apart k d within) (footprint (get_or es k d)) (post (get_or es k d)) (m.1 k d within)))))
  where
    rest : AreDistinct (map name es)
    rest i j d before within = distinct (suc i) (suc j) d (suc-le-suc_iff.1 before) (suc-le-suc_iff.1 within)

    apart : (k : ℕ) (d : _) → k < length es → name (get_or es k d) ≢ name e
    apart k d within is =
        distinct 0 (suc k) (name d) (zero-lt-suc k) (suc-le-suc_iff.1 (subst (λ n. k < n) (sym (length-map es name)) within)) (sym (get_or-map name es k d ∙ is))
