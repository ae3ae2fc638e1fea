-- What an attempt holds, and what a turn of it answers.
use Rattle.std.specs.Prelude.{◌≡◌, ⊤, ℕ, List, [], ◌∷◌, ◌++◌, length, Option, Some, None, nat_eq, IsSome}
use Rattle.indexmap.specs.IndexMap.{insert_entry}
use Rattle.tmem_fault.specs.declared.fault.Fault.TheVariants.{Memory}
use Rattle.tmem_effect.specs.State.{State}
use Rattle.tmem_effect.specs.Writes.{value_in}
use Rattle.tmem_invariants.specs.Meanings.{Meanings}
use Rattle.tmem_tree.specs.declared.tx.Tx.{Tx}
use Rattle.tmem_tree.specs.Plans.{PlanView, FitsSteps, FitsVariables, FitsNames, FitsSignatures}
use Rattle.tmem_tree.specs.StepAnswers.{StepMeanings}
use Rattle.tmem_tentative.specs.Cursors.{StandsIn, IsAt, HasEnded, IsAsBefore, given, answers, attempt_of}
use Rattle.tmem_tentative.specs.Fits.{IsForVariables, IsForNames}
use Rattle.tmem_tentative.specs.Right.{IsOutcome}
use Rattle.tmem_tentative.specs.declared.attempt.Attempt.{Attempt}
use Rattle.tmem_tentative.specs.declared.attempt.Outcome.{Outcome}
use Rattle.tmem_tentative.specs.declared.attempt.Outcome.TheVariants as outcome
use Rattle.tmem_tentative.specs.declared.attempt.Probe.{Probe as Asked}
use Rattle.tmem_tentative.specs.declared.cursor.Cursor.{Cursor}
use Rattle.tmem_core.specs.Verdict.{map_of}
use Rattle.tmem_event.specs.declared.event.Reply.{Reply}
use Rattle.tmem_event.specs.declared.event.Reply.TheVariants as reply
use Rattle.tmem_world.specs.declared.attempt.WorldAttempt.{WorldAttempt}

-- it holds an attempt that has ended
abbrev pub HoldsEnded : WorldAttempt → Type 0
HoldsEnded s = IsSome s.plan × HasEnded s.cursor

-- the attempt without its plan, and with the same memory
abbrev pub emptied : WorldAttempt → WorldAttempt
emptied s = record s { plan = None }

-- an attempt is for so many variables and for these names
abbrev pub IsForStore : ℕ → List (List ℕ) → Attempt → Type 0
IsForStore vars names a = IsForVariables vars a × IsForNames names a

-- The plan is for so many variables, for steps that take so many arguments, and for invariants of these names. It has their footprints,
-- those that they have by each meaning that is stated of them. Whatever the steps are stated to mean, the cursor stands in the plan's
-- evaluation, and once it has ended, so is its attempt.
pub record FitsPlan (vars : ℕ) (arities : List ℕ) (stated : StepMeanings → Type 0) (known : List (List ℕ)) (tested : Meanings → Type 0) (plan : PlanView) (cursor : Cursor) : Type 0 where
  pub variables : FitsVariables vars plan
  pub steps : FitsSteps arities plan.tree
  pub names : FitsNames known plan.tree
  pub signatures : (tests : Meanings) → tested tests → FitsSignatures tests plan
  pub stands : (m : StepMeanings) → stated m → StandsIn m plan cursor
  pub ended : HasEnded cursor → IsForStore vars known (attempt_of cursor)

abbrev pub FitsOption : ℕ → List ℕ → (StepMeanings → Type 0) → List (List ℕ) → (Meanings → Type 0) → Option PlanView → Cursor → Type 0
FitsOption vars arities stated names tested None cursor = ⊤
FitsOption vars arities stated names tested (Some plan) cursor = FitsPlan vars arities stated names tested plan cursor

-- so is the plan that an attempt holds, if it holds one
abbrev pub FitsAttempt : ℕ → List ℕ → (StepMeanings → Type 0) → List (List ℕ) → (Meanings → Type 0) → WorldAttempt → Type 0
FitsAttempt vars arities stated names tested s = FitsOption vars arities stated names tested s.plan s.cursor

-- its evaluation comes to this on the values and the answers that it was given, if the tests gave these answers
abbrev pub ComesTo : (StepMeanings → Type 0) → (Meanings → Type 0) → Tx → Cursor → Outcome → Type 0
ComesTo stated tested plan cursor o =
    (m : StepMeanings) (tests : Meanings) → stated m → tested tests → IsAt m tests plan cursor → IsOutcome m tests plan (given cursor) (length (answers cursor)) o

-- A plan that has not ended, by the values and the answers that it was given. It reads the present value of the first variable that
-- is open, and is given that value. Or the first test that is open is made, and it is given the answer. Or nothing is open, and it
-- has ended. Or memory is wanted, and it stands where it stood.
abbrev pub TurnsBegun : (StepMeanings → Type 0) → (Meanings → Type 0) → State → Tx → Cursor → Reply → Cursor → Type 0
TurnsBegun stated tested state plan old (reply.Read var value) new =
    ComesTo stated tested plan old (outcome.Need var)
    × (value_in (given old) var ≡ None)
    × (value ≡ map_of state var)
    × (given new ≡ insert_entry nat_eq (given old) var value)
    × (answers new ≡ answers old)
    × (¬ HasEnded new)
TurnsBegun stated tested state plan old (reply.Probed name held) new =
    (probe : Asked)
    × ComesTo stated tested plan old (outcome.Probe probe)
    × (name ≡ probe.name)
    × ((tests : Meanings) → tested tests → held ≡ tests.test probe.name probe.values)
    × (given new ≡ given old)
    × (answers new ≡ answers old ++ held ∷ [])
    × (¬ HasEnded new)
TurnsBegun stated tested state plan old reply.Ended new =
    ComesTo stated tested plan old (outcome.Ended (attempt_of new))
    × (given new ≡ given old)
    × HasEnded new
TurnsBegun stated tested state plan old (reply.Fault f) new = (f ≡ Memory) × IsAsBefore old new
TurnsBegun stated tested state plan old _ new = ⊥
