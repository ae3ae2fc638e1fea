-- What linear invariants mean by their names.
use Rattle.std.proofs.Common.{◌≡◌, ◌≢◌, ℕ, zero, suc, ◌<◌, Bool, true, cond, bytes_eq, List, [], ◌∷◌, length, get_or, All, refl, sym, ap, ◌∙◌, subst}
use Rattle.std.proofs.lemmas.Slice.Eq.{bytes_eq-Decides}
use Rattle.std.proofs.lemmas.Bool.{false_from_ne_true}
use Rattle.std.proofs.lemmas.List.{length-map}
use Rattle.std.proofs.Math.Nat.{not-suc-le-zero, suc-le-suc_iff, zero-lt-suc}
use Rattle.std.proofs.Math.ListN.{get_or-map}
use Rattle.tmem_invariants.specs.Answers.{Gives, IsMeant}
use Rattle.tmem_invariants.specs.Joined.{meaning_also}
use Rattle.tmem_invariants.specs.Meanings.{Meanings}
use Rattle.tmem_invariants.specs.TableNames.{AreDistinct}
use Rattle.tmem_tables.specs.Sums.{IsAnswerOfSum, is_sum_within}
use Rattle.tmem_tables.specs.declared.linear.Linear.{Linear}
use Rattle.tmem.specs.Shaped.{meanings_of, names_in}

-- what is stated of one
abbrev pub Means : Meanings → Linear → Type 0
Means m linear = IsMeant m linear.name linear.footprint.items (IsAnswerOfSum linear.weights.items linear.least linear.most)

-- one more means that by its own name
means_own : (m : Meanings) (e : Linear) → Means (meaning_also e.name e.footprint.items (is_sum_within e.weights.items e.least e.most) m) e
means_own m e =
    let meaning = is_sum_within e.weights.items e.least e.most in
    let gives : Gives (IsAnswerOfSum e.weights.items e.least e.most) (length e.footprint.items) meaning = λ values answer long is. is in
    let own : bytes_eq e.name e.name ≡ true = (bytes_eq-Decides e.name e.name).1 refl in
    record {
      over = sym (ap (λ (b : Bool). cond b e.footprint.items (m.footprint e.name)) own);
      answers = subst (Gives (IsAnswerOfSum e.weights.items e.least e.most) (length e.footprint.items)) (sym (ap (λ (b : Bool). cond b meaning (m.test e.name)) own)) gives;
    }

-- and any other means what it meant
means_other : (m : Meanings) (e other : Linear) → other.name ≢ e.name → Means m other → Means (meaning_also e.name e.footprint.items (is_sum_within e.weights.items e.least e.most) m) other
means_other m e other apart meant =
    let meaning = is_sum_within e.weights.items e.least e.most in
    let no = false_from_ne_true (bytes_eq other.name e.name) (λ is. apart ((bytes_eq-Decides other.name e.name).0 is)) in
    record {
      over = meant.over ∙ sym (ap (λ (b : Bool). cond b e.footprint.items (m.footprint other.name)) no);
      answers = subst (Gives (IsAnswerOfSum other.weights.items other.least other.most) (length other.footprint.items)) (sym (ap (λ (b : Bool). cond b meaning (m.test other.name)) no)) meant.answers;
    }

-- So of distinct names each means what its invariant answers.
pub each_means : (all : List Linear) → AreDistinct (names_in all) → All (Means (meanings_of all)) all
each_means [] distinct k d within = absurd (not-suc-le-zero within)
each_means (e ∷ es) distinct zero d within = means_own (meanings_of es) e
each_means (e ∷ es) distinct (suc k) d within = means_other (meanings_of es) e (get_or es k d) apart (each_means es rest k d below)
  where
    below : k < length es
    below = suc-le-suc_iff.0 within

    rest : AreDistinct (names_in es)
    rest i j x before inside = distinct (suc i) (suc j) x (suc-le-suc_iff.1 before) (suc-le-suc_iff.1 inside)

    apart : (get_or es k d).name ≢ e.name
    apart is =
        let name = λ (linear : Linear). linear.name in
        distinct 0 (suc k) d.name (zero-lt-suc k) (suc-le-suc_iff.1 (subst (λ (n : ℕ). k < n) (sym (length-map es name)) below)) (sym (get_or-map name es k d ∙ is))
