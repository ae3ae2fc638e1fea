-- Laws of steps: one more behind others.
use Rattle.std.proofs.Common.{ℕ, zero, suc, List, [], ◌∷◌, ◌++◌, refl, subst}
use Rattle.tmem_desk.specs.Steps.{LabelledSteps, Repeats}

pub LabelledSteps-push : {L V : Type 0} (step : L → V → V → Type 0) (xs : List L) (x : L) (old mid new : V) → LabelledSteps step xs old mid → step x mid new → LabelledSteps step (xs ++ x ∷ []) old new
LabelledSteps-push {L} {V} step [] x old mid new same last = (new, subst (λ (v : V). step x v new) same last, refl)
LabelledSteps-push step (y ∷ ys) x old mid new before last = (before.0, before.1, LabelledSteps-push step ys x before.0 mid new before.2 last)

pub Repeats-push : {V : Type 0} (step : V → V → Type 0) (n : ℕ) (old mid new : V) → Repeats step n old mid → step mid new → Repeats step (suc n) old new
Repeats-push {V} step zero old mid new same last = (new, subst (λ (v : V). step v new) same last, refl)
Repeats-push step (suc n) old mid new before last = (before.0, before.1, Repeats-push step n before.0 mid new before.2 last)
