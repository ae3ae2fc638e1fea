-- Steps, one after another, each by a label.
use Rattle.std.specs.Prelude.{◌≡◌, ℕ, zero, suc, List, [], ◌∷◌}

-- from old, steps with these labels may lead to new
abbrev pub LabelledSteps : {L V : Type 0} → (L → V → V → Type 0) → List L → V → V → Type 0
LabelledSteps step [] old new = new ≡ old
LabelledSteps {L} {V} step (x ∷ xs) old new = (mid : V) × step x old mid × LabelledSteps step xs mid new

-- so many steps
abbrev pub Repeats : {V : Type 0} → (V → V → Type 0) → ℕ → V → V → Type 0
Repeats step zero old new = new ≡ old
Repeats {V} step (suc n) old new = (mid : V) × step old mid × Repeats step n mid new
