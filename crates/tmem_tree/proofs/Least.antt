-- Which limits hold whose cause has a lesser number, for the least cause that is broken.
use Rattle.std.proofs.Common.{◌≡◌, ℕ, ◌+◌, ◌<◌, true, List, Option, Some, None, IfSome, arith}
use Rattle.std.specs.Prelude.{is_some}
use Rattle.std.proofs.lemmas.Bool.{false≢true}
use Rattle.tmem_fault.specs.declared.fault.Cause.{Cause}
use Rattle.tmem_fault.specs.declared.fault.Cause.TheVariants.{TooDeep, TooManyNodes, TooManyWrites, TooManyChecks, BadRegister, BadVariable, BadStep, BadArguments, UnknownName, TooManyRetires}
use Rattle.tmem_fault.specs.Fault.{cause_number}
use Rattle.tmem_tree.specs.declared.tx.Tx.{Tx}
use Rattle.tmem_tree.specs.Plans.{Breaks}

-- a budget that suffices is no less than the count
pub suffices : (left : Option ℕ) (n budget : ℕ) → IfSome left (λ l. l + n ≡ budget) → is_some left ≡ true → budget < n → ⊥
suffices (Some l) n budget enough some broken = omega (arith, enough, broken)
suffices None n budget enough some broken = absurd (false≢true some)

pub cause_number-less : (cause : Cause) → cause_number cause < 11
cause_number-less TooDeep = omega arith
cause_number-less TooManyNodes = omega arith
cause_number-less TooManyWrites = omega arith
cause_number-less TooManyChecks = omega arith
cause_number-less BadRegister = omega arith
cause_number-less BadVariable = omega arith
cause_number-less BadStep = omega arith
cause_number-less BadArguments = omega arith
cause_number-less UnknownName = omega arith
cause_number-less TooManyRetires = omega arith

module _ (arities : List ℕ) (vars : ℕ) (names : List (List ℕ)) (tx : Tx) (n : ℕ) where
  -- the limit of a cause holds, if its number is lesser
  abbrev Holds : Cause → Type 0
  Holds cause = cause_number cause < n → Breaks arities vars names tx cause → ⊥

  -- so do all, where each of them does
  pub all_hold : Holds TooDeep → Holds TooManyNodes → Holds TooManyWrites → Holds TooManyChecks → Holds BadRegister → Holds BadVariable → Holds BadStep → Holds BadArguments → Holds UnknownName → Holds TooManyRetires → (lesser : Cause) → Holds lesser
  all_hold depth nodes writes checks registers variables steps arguments known retires TooDeep = depth
  all_hold depth nodes writes checks registers variables steps arguments known retires TooManyNodes = nodes
  all_hold depth nodes writes checks registers variables steps arguments known retires TooManyWrites = writes
  all_hold depth nodes writes checks registers variables steps arguments known retires TooManyChecks = checks
  all_hold depth nodes writes checks registers variables steps arguments known retires BadRegister = registers
  all_hold depth nodes writes checks registers variables steps arguments known retires BadVariable = variables
  all_hold depth nodes writes checks registers variables steps arguments known retires BadStep = steps
  all_hold depth nodes writes checks registers variables steps arguments known retires BadArguments = arguments
  all_hold depth nodes writes checks registers variables steps arguments known retires UnknownName = known
  all_hold depth nodes writes checks registers variables steps arguments known retires TooManyRetires = retires
