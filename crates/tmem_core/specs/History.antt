-- The effects that a core committed, and the state that they make.
use Rattle.std.specs.Prelude.{◌≡◌, ◌≤◌, ◌-◌, ◌++◌, ◌∷◌, [], ℕ, List, drop}
use Rattle.tmem_effect.specs.State.{State, fold, StaysWithin}
use Rattle.tmem_effect.specs.declared.effect.Effect.{Effect}
use Rattle.tmem_core.specs.declared.history.History.{History}
use Rattle.tmem_core.specs.declared.history.History.TheVariants.{Start, After'}

-- the committed effects, the oldest first
abbrev pub effects_of : History → List Effect
effects_of Start = []
effects_of (After' effect shape earlier) = effects_of earlier ++ effect.value ∷ []

-- the state is what all of these effects make of the state at the opening, within the limits after each of them, and those behind
-- the durable number wait
pub record IsFolded (opened : State) (effects : List Effect) (durable : ℕ) (waiting : List Effect) (s : State) : Type 0 where
  pub folds : fold opened effects ≡ s
  pub within : StaysWithin opened effects
  pub late : opened.count ≤ durable
  pub waits : drop (durable - opened.count) effects ≡ waiting
