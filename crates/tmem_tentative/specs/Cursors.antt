-- Where a cursor stands.
use Rattle.std.specs.Prelude.{◌≡◌, ℕ, ℤ, ◌≤◌, Bool, List, [], ◌++◌, length, nat_eq, option_to_list}
use Rattle.indexmap.specs.IndexMap.{insert_entry}
use Rattle.tmem_invariants.specs.Meanings.{Meanings}
use Rattle.tmem_tree.specs.declared.tx.Tx.{Tx}
use Rattle.tmem_tree.specs.Limits.{choices}
use Rattle.tmem_tree.specs.Plans.{PlanView}
use Rattle.tmem_tree.specs.Signatures.{footprint_in}
use Rattle.tmem_tree.specs.StepAnswers.{StepMeanings}
use Rattle.tmem_tree.specs.Visited.{Ask, Visit, Probe}
use Rattle.tmem_tentative.specs.declared.attempt.Attempt.{Attempt}
use Rattle.tmem_tentative.specs.declared.attempt.Outcome.{Outcome}
use Rattle.tmem_tentative.specs.declared.attempt.Outcome.TheVariants as outcome
use Rattle.tmem_tentative.specs.declared.attempt.Probe.{Probe as Asked}
use Rattle.tmem_tentative.specs.declared.attempt.Progress.{Progress}
use Rattle.tmem_tentative.specs.declared.attempt.Progress.TheVariants as progress
use Rattle.tmem_tentative.specs.declared.cursor.Cursor.{Cursor}
use Rattle.tmem_tentative.specs.declared.cursor.Stage.{Stage}
use Rattle.tmem_tentative.specs.declared.cursor.Stage.TheVariants.{Going, Waits, Tests, Ended}
use Rattle.tmem_tentative.specs.Answers.{answers_of}
use Rattle.tmem_tentative.specs.Ends.{start_state, IsMadeOf}
use Rattle.tmem_tentative.specs.Eval.{Taken, Stops, eval}
use Rattle.tmem_tentative.specs.Places.{Covers, Place, place_at, taken_at, eval_from, with_more, WritesFit, NamesFit, RetiresFit}
use Rattle.tmem_tentative.specs.Right.{HaveAnswered}

-- the values that it was given, in order
abbrev pub given : Cursor → List (ℕ × ℤ)
given cursor = cursor.course.attempt.reads.entries

-- the answers that it was given, in order
abbrev pub answers : Cursor → List Bool
answers cursor = answers_of cursor.answers.value

-- what it has done so far, and once it has ended, its attempt
abbrev pub attempt_of : Cursor → Attempt
attempt_of cursor = cursor.course.attempt

-- the test that it asks for, where it asks for one
abbrev pub probe_of : Cursor → Asked
probe_of cursor = cursor.course.probe

-- the last answer, where it is not used yet
abbrev pub unused : Cursor → List Bool
unused cursor = option_to_list cursor.course.pending

-- what its evaluation goes on with: the values that it was given, and that answer
abbrev pub taken : Cursor → Taken
taken cursor = taken_at cursor.course

abbrev pub place : Cursor → Place
place cursor = place_at cursor.course cursor.saves.items

-- an evaluation of the plan may go on from here: there are saves for its choices, and room for what it writes, checks and
-- retires
pub record MayGoOn (plan : Tx) (p : Place) : Type 0 where
  pub enough : choices plan ≤ length p.saves
  pub writes : WritesFit 0 p.path plan p.saves p.effect
  pub names : NamesFit 0 p.path plan p.saves p.effect
  pub retires : RetiresFit 0 p.path plan p.saves p.effect

-- whatever else will be read and answered, the evaluation of the plan from its start, with these answers first, is the one from
-- here, where so much was taken
abbrev pub EvaluationStandsAt : StepMeanings → (List ℕ → List ℕ) → Tx → List Bool → Place → List (ℕ × ℤ) → Taken → Type 0
EvaluationStandsAt m footprint plan answers p before seen =
    (reads : List (ℕ × ℤ)) (more : List Bool) → Covers reads before → Covers reads seen.reads
    → eval m footprint reads plan (start_state (answers ++ more)) ≡ eval_from m footprint reads plan p (with_more seen more)

-- the evaluation of the plan on so many values and answers asks for this
abbrev pub AsksFor : StepMeanings → (List ℕ → List ℕ) → Tx → List (ℕ × ℤ) → List Bool → Ask → Type 0
AsksFor m footprint plan reads answers ask = eval m footprint reads plan (start_state answers) ≡ Stops ask

-- it goes on from here; or from here once it is given the value, or the answer, that it needs; or it has ended
abbrev pub IsAtStage : StepMeanings → (List ℕ → List ℕ) → Tx → Stage → Cursor → Type 0
IsAtStage m footprint plan Going cursor =
    MayGoOn plan (place cursor) × EvaluationStandsAt m footprint plan (answers cursor) (place cursor) (given cursor) (taken cursor)
IsAtStage m footprint plan (Waits var) cursor =
    MayGoOn plan (place cursor)
    × AsksFor m footprint plan (given cursor) (answers cursor) (Visit var)
    × ((n : ℤ) → EvaluationStandsAt m footprint plan (answers cursor) (place cursor) (given cursor) (record { reads = insert_entry nat_eq (given cursor) var n; left = unused cursor }))
IsAtStage m footprint plan Tests cursor =
    MayGoOn plan (place cursor)
    × AsksFor m footprint plan (given cursor) (answers cursor) (Probe (probe_of cursor).name (probe_of cursor).values)
    × EvaluationStandsAt m footprint plan (answers cursor) (place cursor) (given cursor) (taken cursor)
    × (unused cursor ≡ [])
IsAtStage m footprint plan Ended cursor =
    IsMadeOf (eval m footprint (given cursor) plan (start_state (answers cursor))) (unused cursor) (outcome.Ended (attempt_of cursor))

-- the cursor stands in the evaluation of this plan, with the footprints that the plan has, on what it was given and answered
abbrev pub StandsIn : StepMeanings → PlanView → Cursor → Type 0
StandsIn m plan cursor = IsAtStage m (footprint_in plan.signatures) plan.tree cursor.stage cursor

-- it stands in the evaluation of this transaction on what it was given and answered, and these tests gave the answers
pub record IsAt (m : StepMeanings) (tests : Meanings) (plan : Tx) (cursor : Cursor) : Type 0 where
  pub stands : IsAtStage m tests.footprint plan cursor.stage cursor
  pub answered : HaveAnswered m tests plan (given cursor) (answers cursor)

-- it waits for the value of this variable
abbrev pub NeedsValue : Cursor → ℕ → Type 0
NeedsValue cursor var = cursor.stage ≡ Waits var

-- it waits for the answer to its test
abbrev pub NeedsAnswer : Cursor → Type 0
NeedsAnswer cursor = cursor.stage ≡ Tests

-- its attempt is whole
abbrev pub HasEnded : Cursor → Type 0
HasEnded cursor = cursor.stage ≡ Ended

-- what it answered last
abbrev pub Answered : Cursor → Progress → Type 0
Answered cursor (progress.Need var) = NeedsValue cursor var
Answered cursor progress.Probe = NeedsAnswer cursor
Answered cursor progress.Ended = HasEnded cursor

-- what an evaluation on the same values and answers finds
abbrev pub outcome_of : Cursor → Progress → Outcome
outcome_of cursor (progress.Need var) = outcome.Need var
outcome_of cursor progress.Probe = outcome.Probe (probe_of cursor)
outcome_of cursor progress.Ended = outcome.Ended (attempt_of cursor)

-- the same, with another attempt
abbrev pub outcome_with : Attempt → Cursor → Progress → Outcome
outcome_with a cursor (progress.Need var) = outcome.Need var
outcome_with a cursor progress.Probe = outcome.Probe (probe_of cursor)
outcome_with a cursor progress.Ended = outcome.Ended a

-- what `resume` answered last
abbrev pub IsAnswer : Cursor → Outcome → Type 0
IsAnswer cursor (outcome.Need var) = NeedsValue cursor var
IsAnswer cursor (outcome.Probe probe) = NeedsAnswer cursor × (probe ≡ probe_of cursor)
IsAnswer cursor (outcome.Ended a) = HasEnded cursor

-- as it was, but for the memory that it has
pub record IsAsBefore (old new : Cursor) : Type 0 where
  pub stage : new.stage ≡ old.stage
  pub given : given new ≡ given old
  pub answers : answers new ≡ answers old
  pub unused : unused new ≡ unused old
  pub probe : probe_of new ≡ probe_of old
  pub place : place new ≡ place old
  pub ending : (attempt_of new).ending ≡ (attempt_of old).ending
