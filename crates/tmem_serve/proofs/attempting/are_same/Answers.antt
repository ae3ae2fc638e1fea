use Rattle.std.proofs.Common.{◌≡◌, ℕ, ℤ, Bool, true, false, ◌&&◌, eqb, Decides, refl, ap, ap₂, sym, ◌∙◌, subst}
use Rattle.std.specs.Ordering.{int_eq}
use Rattle.std.proofs.lemmas.Bool.{false≢true}
use Rattle.std.proofs.lemmas.Bool.Decides.{Decides-eqb, Decides-int_eq}
use Rattle.std.proofs.lemmas.Slice.Eq.{slice_eq-Decides}
use Rattle.tmem_serve.proofs.attempting.are_same.Goals as goal

first_true : (b c : Bool) → (b && c) ≡ true → b ≡ true
first_true true c is = refl
first_true false c is = is

second_true : (b c : Bool) → (b && c) ≡ true → c ≡ true
second_true true c is = is
second_true false c is = absurd (false≢true is)

both_true : (b c : Bool) → b ≡ true → c ≡ true → (b && c) ≡ true
both_true b c one two = subst (λ (x : Bool). (x && c) ≡ true) (sym one) two

pair_Decides : (a b : ℕ × ℤ) → Decides (eqb a.0 b.0 && int_eq a.1 b.1) (a ≡ b)
pair_Decides a b = (
  λ is. ap₂ (λ (var : ℕ) (value : ℤ). (var, value)) ((Decides-eqb a.0 b.0).0 (first_true (eqb a.0 b.0) (int_eq a.1 b.1) is)) ((Decides-int_eq a.1 b.1).0 (second_true (eqb a.0 b.0) (int_eq a.1 b.1) is)),
  λ same.
      both_true (eqb a.0 b.0) (int_eq a.1 b.1) ((Decides-eqb a.0 b.0).1 (ap (λ (p : ℕ × ℤ). p.0) same)) ((Decides-int_eq a.1 b.1).1 (ap (λ (p : ℕ × ℤ). p.1) same)),
)

pub returns-clause-same : goal.returns-clause-same
returns-clause-same c = (slice_eq-Decides pair_Decides _ _ _ c.eq.ensures).0

pub returns-clause-other : goal.returns-clause-other
returns-clause-other c = λ no same. absurd (false≢true (sym no ∙ (slice_eq-Decides pair_Decides _ _ _ c.eq.ensures).1 same))
