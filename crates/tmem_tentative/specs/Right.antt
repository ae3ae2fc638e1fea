-- When an evaluation is right.
use Rattle.std.specs.Prelude.{◌≡◌, ⊤, ℕ, zero, suc, ℤ, Bool, List, [], ◌∷◌, map, Option, Some, None}
use Rattle.tmem_tree.specs.declared.tx.Tx.{Tx}
use Rattle.tmem_tree.specs.StepAnswers.{StepMeanings}
use Rattle.tmem_effect.specs.State.{no_effect}
use Rattle.tmem_effect.specs.Writes.{value_in}
use Rattle.tmem_tree.specs.Run as run
use Rattle.tmem_tree.specs.Run.{run, start, no_registers}
use Rattle.tmem_invariants.specs.Meanings.{Meanings}
use Rattle.tmem_tree.specs.Visited.{Ask, Visit, Probe, asks, visited}
use Rattle.tmem_tentative.specs.declared.attempt.Outcome.{Outcome}
use Rattle.tmem_tentative.specs.declared.attempt.Outcome.TheVariants.{Need, Ended}
use Rattle.tmem_tentative.specs.declared.attempt.Outcome.TheVariants as outcome
use Rattle.tmem_tentative.specs.declared.attempt.Attempt.{Attempt}
use Rattle.tmem_tentative.specs.declared.attempt.Ending.TheVariants.{Normal, Retry, Abort, Broken}

-- the map has each value that was read
abbrev pub Agrees : (ℕ → ℤ) → List (ℕ × ℤ) → Type 0
Agrees values reads = (var : ℕ) (n : ℤ) → value_in reads var ≡ Some n → values var ≡ n

abbrev pub if_there : Option ℤ → Ask → Option Ask → Option Ask
if_there (Some n) ask later = later
if_there None ask later = Some ask

-- the first that is open: a variable that the reads lack, or the test behind so many that were answered
abbrev pub first_open : List (ℕ × ℤ) → ℕ → List Ask → Option Ask
first_open reads n [] = None
first_open reads n (Visit var ∷ more) = if_there (value_in reads var) (Visit var) (first_open reads n more)
first_open reads zero (Probe name values ∷ more) = Some (Probe name values)
first_open reads (suc n) (Probe name values ∷ more) = first_open reads n more

-- the tests gave these answers, one after another, as far as there are answers and tests
abbrev pub Gave : Meanings → List Bool → List Ask → Type 0
Gave tests answers [] = ⊤
Gave tests answers (Visit var ∷ more) = Gave tests answers more
Gave tests [] (Probe name values ∷ more) = ⊤
Gave tests (answer ∷ answers) (Probe name values ∷ more) = (answer ≡ tests.test name values) × Gave tests answers more

-- so they did in the run on each map that agrees with the reads
abbrev pub HaveAnswered : StepMeanings → Meanings → Tx → List (ℕ × ℤ) → List Bool → Type 0
HaveAnswered steps tests tx reads answers = (values : ℕ → ℤ) → Agrees values reads → Gave tests answers (asks steps tests tx (start values))

-- the variables, each with its value on the map
abbrev pub valued : (ℕ → ℤ) → List ℕ → List (ℕ × ℤ)
valued values vars = map (λ var. (var, values var)) vars

-- registers 0 and no effect
pub record IsBlank (a : Attempt) : Type 0 where
  pub registers : a.registers ≡ no_registers
  pub effect : a.effect ≡ no_effect

-- the run's ending, and where that is normal its registers and its effect
abbrev pub EndsAs : run.RunResult → Attempt → Type 0
EndsAs (run.Normal view) a = (a.ending ≡ Normal) × (a.registers ≡ view.registers) × (a.effect ≡ view.effect)
EndsAs run.Retried a = (a.ending ≡ Retry) × IsBlank a
EndsAs (run.Aborted code) a = (a.ending ≡ Abort code) × IsBlank a
EndsAs (run.Broken name) a = (a.ending ≡ Broken name) × IsBlank a

-- on EVERY map that agrees with the attempt's reads, these are the visited variables, in order, with their values, and the
-- run ends as the attempt does
pub record IsRight (steps : StepMeanings) (tests : Meanings) (tx : Tx) (a : Attempt) : Type 0 where
  pub reads : (values : ℕ → ℤ) → Agrees values a.reads.entries → a.reads.entries ≡ valued values (visited steps tests tx values)
  pub ends : (values : ℕ → ℤ) → Agrees values a.reads.entries → EndsAs (run steps tests tx (start values)) a

-- on every map that agrees with the reads handed in, where so many tests were answered: the variable, or the test, is the first that
-- is open; or none is, the attempt has what the reads have of the visited variables, and it is right
abbrev pub IsOutcome : StepMeanings → Meanings → Tx → List (ℕ × ℤ) → ℕ → Outcome → Type 0
IsOutcome steps tests tx reads n (Need var) =
    (values : ℕ → ℤ) → Agrees values reads → first_open reads n (asks steps tests tx (start values)) ≡ Some (Visit var)
IsOutcome steps tests tx reads n (outcome.Probe probe) =
    (values : ℕ → ℤ) → Agrees values reads → first_open reads n (asks steps tests tx (start values)) ≡ Some (Probe probe.name probe.values)
IsOutcome steps tests tx reads n (Ended a) =
    ((values : ℕ → ℤ) → Agrees values reads
    → (first_open reads n (asks steps tests tx (start values)) ≡ None) × (a.reads.entries ≡ valued values (visited steps tests tx values)))
    × IsRight steps tests tx a
