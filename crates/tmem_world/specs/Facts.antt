-- That some words have one proof at most.
use Rattle.std.specs.Prelude.{ℕ, List, [], ◌∷◌, Option, Some, None}
use Rattle.std.proofs.Props.{props}
use Rattle.tmem_effect.specs.State.{State, StaysWithin, apply}
use Rattle.tmem_effect.specs.declared.effect.Effect.{Effect}
use Rattle.tmem_invariants.specs.Meanings.{Meanings}
use Rattle.tmem_tree.specs.Plans.{PlanView}
use Rattle.tmem_tree.specs.StepAnswers.{StepMeanings}
use Rattle.tmem_tentative.specs.CursorFacts.{StandsIn-prop, IsEndingFor-prop}
use Rattle.tmem_tentative.specs.declared.cursor.Cursor.{Cursor}
use Rattle.tmem_world.specs.declared.attempt.WorldAttempt.{WorldAttempt}
use Rattle.tmem_world.specs.Attempts.{FitsOption, FitsAttempt}

FitsOption-prop : (vars : ℕ) (arities : List ℕ) (stated : StepMeanings → Type 0) (names : List (List ℕ)) (tested : Meanings → Type 0) (plan : Option PlanView) (cursor : Cursor) → IsProp (FitsOption vars arities stated names tested plan cursor)
FitsOption-prop vars arities stated names tested None cursor = hlevel
FitsOption-prop vars arities stated names tested (Some plan) cursor = hlevel (props, StandsIn-prop, IsEndingFor-prop)

pub FitsAttempt-prop : (vars : ℕ) (arities : List ℕ) (stated : StepMeanings → Type 0) (names : List (List ℕ)) (tested : Meanings → Type 0) (attempt : WorldAttempt) → IsProp (FitsAttempt vars arities stated names tested attempt)
FitsAttempt-prop vars arities stated names tested attempt = FitsOption-prop vars arities stated names tested attempt.plan attempt.cursor

pub StaysWithin-prop : (s : State) (es : List Effect) → IsProp (StaysWithin s es)
StaysWithin-prop s [] = hlevel props
StaysWithin-prop s (e ∷ es) = hlevel (props, StaysWithin-prop (apply s e) es)
