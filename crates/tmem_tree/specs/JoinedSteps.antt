-- One meaning for each of several steps makes meanings for all.
use Rattle.std.specs.Prelude.{◌≡◌, ℕ, zero, suc, List, [], ◌∷◌, Option, Some, None, slice_get, unwrap_or}
use Rattle.std.proofs.Common.{ap, subst}
use mathlib.Core.Logic.{∥∥₁_elim, ∥∥₁_map, ∥∥₁_prop}

abbrev pub first_then : {F : Type 0} → F → (ℕ → F) → ℕ → F
first_then f fs zero = f
first_then f fs (suc i) = fs i

with_first : {E F : Type 0} (P : E → F → Type 0) (e : E) (es : List E) (f : F) (fs : ℕ → F) → P e f → ((i : ℕ) (x : E) → slice_get es i ≡ Some x → P x (fs i)) → (i : ℕ) (x : E) → slice_get (e ∷ es) i ≡ Some x → P x (first_then f fs i)
with_first P e es f fs p ps zero x is = subst (λ y. P y f) (ap (λ o. unwrap_or o e) is) p
with_first P e es f fs p ps (suc i) x is = ps i x is

abbrev pub OnlyNone : {E : Type 0} → Option E → Type 0
OnlyNone None = Unit {0}
OnlyNone (Some e) = ⊥

pub joined_steps : {E F : Type 0} (P : E → F → Type 0) (none : F) → ((e : E) → ∥ ((f : F) × P e f) ∥₁) → (es : List E) → ∥ ((fs : ℕ → F) × ((i : ℕ) (e : E) → slice_get es i ≡ Some e → P e (fs i))) ∥₁
joined_steps P none each [] = ∣ (λ i. none, λ i e is. absurd (subst OnlyNone is tt)) ∣₁
joined_steps P none each (e ∷ es) =
    ∥∥₁_elim (each e) ∥∥₁_prop (λ f. ∥∥₁_map (joined_steps P none each es) (λ fs. (first_then f.0 fs.0, with_first P e es f.0 fs.0 f.1 fs.1)))
