-- The laws of orElse (Harris et al. 2005, section 3: it is associative, and `retry` is its unit).
use Rattle.std.specs.Prelude.{◌≡◌, ℕ, ℤ, List}
use Rattle.tmem_tree.specs.declared.tx.Tx.{Tx}
use Rattle.tmem_tree.specs.declared.tx.Tx.TheVariants.{OrElse', Retry}
use Rattle.tmem_tree.specs.StepAnswers.{StepMeanings}
use Rattle.tmem_tree.specs.Run.{View, run}
use Rattle.tmem_invariants.specs.Meanings.{Meanings}
use Rattle.tmem_tree.specs.Visited.{asks}
use Rattle.tmem_tentative.specs.declared.attempt.Outcome.{Outcome}
use Rattle.tmem_tentative.specs.Right.{IsOutcome}

-- two transactions that end alike and ask alike from every view
pub record AreAlike (steps : StepMeanings) (tests : Meanings) (a b : Tx) : Type 0 where
  pub runs : (view : View) → run steps tests a view ≡ run steps tests b view
  pub asks_alike : (view : View) → asks steps tests a view ≡ asks steps tests b view

-- it does not matter how three choices are grouped
abbrev pub Associates : StepMeanings → Meanings → Type 0
Associates steps tests =
    (a b c : Tx) (p q r s : _) → AreAlike steps tests (OrElse' p a q (OrElse' r b s c)) (OrElse' p (OrElse' r a s b) q c)

-- a choice with Retry, on either side, is the other side
abbrev pub RetryIsUnit : StepMeanings → Meanings → Type 0
RetryIsUnit steps tests =
    (a : Tx) (p q : _) → AreAlike steps tests (OrElse' p Retry q a) a × AreAlike steps tests (OrElse' p a q Retry) a

-- an answer that is right for one of two alike transactions is right for the other
abbrev pub AnswersAlike : StepMeanings → Meanings → Type 0
AnswersAlike steps tests =
    (a b : Tx) → AreAlike steps tests a b → (reads : List (ℕ × ℤ)) (n : ℕ) (outcome : Outcome) → IsOutcome steps tests a reads n outcome → IsOutcome steps tests b reads n outcome
