-- The answers that tests gave, and one more.
use Rattle.std.proofs.Common.{◌≡◌, ℕ, ℤ, Bool, List, [], ◌∷◌, ◌++◌, length, Option, Some, None}
use Rattle.tmem_invariants.specs.Meanings.{Meanings}
use Rattle.tmem_effect.specs.Writes.{value_in}
use Rattle.tmem_tree.specs.declared.tx.Tx.{Tx}
use Rattle.tmem_tree.specs.Run.{start}
use Rattle.tmem_tree.specs.StepAnswers.{StepMeanings}
use Rattle.tmem_tree.specs.Visited.{Ask, Visit, Probe, asks}
use Rattle.tmem_tentative.specs.declared.attempt.Outcome.TheVariants as outcome
use Rattle.tmem_tentative.specs.declared.attempt.Probe.{Probe as Asked}
use Rattle.tmem_tentative.specs.Places.{Covers}
use Rattle.tmem_tentative.specs.Right.{Gave, HaveAnswered, IsOutcome, first_open, if_there}

gave_none : (tests : Meanings) (asks : List Ask) → Gave tests [] asks
gave_none tests [] = tt
gave_none tests (Visit var ∷ more) = gave_none tests more
gave_none tests (Probe name values ∷ more) = tt

module _ (tests : Meanings) (reads : List (ℕ × ℤ)) (name : List ℕ) (values : List ℤ) (held : Bool) (is : held ≡ tests.test name values) where
  -- the answer to the first test that is open
  gave_more : (asks : List Ask) (answers : List Bool) → Gave tests answers asks → first_open reads (length answers) asks ≡ Some (Probe name values) → Gave tests (answers ++ held ∷ []) asks
  gave_more [] answers gave first = tt
  gave_more (Visit var ∷ more) answers gave first = gave_more more answers gave (on (value_in reads var) first) where
    on : (o : Option ℤ) → if_there o (Visit var) (first_open reads (length answers) more) ≡ Some (Probe name values) → first_open reads (length answers) more ≡ Some (Probe name values)
    on (Some n) e = e
    on None e = cc
  gave_more (Probe name' values' ∷ more) [] gave first = (cc, gave_none tests more)
  gave_more (Probe name' values' ∷ more) (answer ∷ answers) gave first = (gave.0, gave_more more answers gave.1 first)

-- at the start
pub none_answered : (m : StepMeanings) (tests : Meanings) (plan : Tx) (reads : List (ℕ × ℤ)) → HaveAnswered m tests plan reads []
none_answered m tests plan reads = λ values agrees. gave_none tests (asks m tests plan (start values))

-- with one value more
pub answered_given : (m : StepMeanings) (tests : Meanings) (plan : Tx) (reads more : List (ℕ × ℤ)) (answers : List Bool) → Covers more reads → HaveAnswered m tests plan reads answers → HaveAnswered m tests plan more answers
answered_given m tests plan reads more answers covers answered =
    λ values agrees. answered values (λ var n is. agrees var n (covers.at var n is))

-- with one answer more
pub answered_more : (m : StepMeanings) (tests : Meanings) (plan : Tx) (reads : List (ℕ × ℤ)) (answers : List Bool) (probe : Asked) (held : Bool) → held ≡ tests.test probe.name probe.values
    → IsOutcome m tests plan reads (length answers) (outcome.Probe probe) → HaveAnswered m tests plan reads answers → HaveAnswered m tests plan reads (answers ++ held ∷ [])
answered_more m tests plan reads answers probe held is first answered = λ values agrees.
    gave_more tests reads probe.name probe.values held is (asks m tests plan (start values)) answers (answered values agrees) (first values agrees)
