-- What a history makes of the opening state.
use Rattle.std.specs.Prelude.{◌≡◌, ℕ, ℤ, true, List, [], length, map, Some, slice_get}
use Rattle.tmem_disk.specs.Disk.{DeviceView, LeavesOnly}
use Rattle.tmem_journal.specs.Contents.{ContentRepresentsEither}
use Rattle.tmem_effect.specs.Prefix.{IsPrefix}
use Rattle.tmem_effect.specs.State.{State, fold, first_state}
use Rattle.tmem_effect.specs.declared.effect.Effect.{Effect}
use Rattle.tmem_invariants.specs.Meanings.{IsSound}
use Rattle.tmem_tree.specs.declared.step.StepAnswer.TheVariants.{Retry}
use Rattle.tmem_core.specs.Program.{Program}
use Rattle.tmem_spine.specs.declared.view.MarkedEffect.{MarkedEffect}
use Rattle.tmem_spine.specs.History.{marked_effect, unmarked}

-- the state after a history
abbrev pub state_after_history : State → List MarkedEffect → State
state_after_history opening log = fold opening (unmarked log)

-- effects under one mark
abbrev pub marked : ℕ → List Effect → List MarkedEffect
marked mark es = map (λ (e : Effect). marked_effect mark e) es

-- one effect at most, with its number
abbrev pub numbered : ℕ → List Effect → List (ℕ × Effect)
numbered number es = map (λ (e : Effect). (number, e)) es

-- each registered name of a state is among the program's and is true there
abbrev pub IsSoundState : Program → State → Type 0
IsSoundState p s = IsSound p.tests p.names s.names s.values

-- the state after each prefix of a history is sound
abbrev pub AreSound : Program → State → List MarkedEffect → Type 0
AreSound p opening log = (xs : List MarkedEffect) → IsPrefix xs log → IsSoundState p (state_after_history opening xs)

-- some list of effects makes of the opening state a sound one, in which the variable has this value
abbrev pub IsPossibleValue : Program → State → ℕ → ℤ → Type 0
IsPossibleValue p opening var n = ∥ ((log : List MarkedEffect) × IsSoundState p (state_after_history opening log) × (slice_get (state_after_history opening log).values var ≡ Some n)) ∥₁

-- the state of no store, and a program that brings nothing
abbrev pub no_state : State
no_state = first_state 0

abbrev pub no_program : Program
no_program = record { steps = λ index args. Retry; names = []; tests = record { footprint = λ name. []; test = λ name values. true } }

-- Every crash leaves a content that represents the state after a history, or after one that it begins.
pub record IsLeftOpen (opening : State) (d : DeviceView) : Type 0 where
  pub slots : ℕ
  pub durable : List MarkedEffect
  pub aimed : List MarkedEffect
  pub begins : IsPrefix durable aimed
  pub leaves : LeavesOnly d (ContentRepresentsEither (length opening.values) slots (state_after_history opening durable) (state_after_history opening aimed))
