-- Which transactions are plans.
use Rattle.std.specs.Prelude.{◌≡◌, ◌↔◌, ℕ, ◌<◌, ◌≤◌, Bool, false, ◌||◌, List, IsTrue}
use Rattle.tmem_fault.specs.declared.fault.Cause.{Cause}
use Rattle.tmem_fault.specs.declared.fault.Cause.TheVariants.{TooDeep, TooManyNodes, TooManyWrites, TooManyChecks, BadRegister, BadVariable, BadStep, BadArguments, UnknownName, TooManyRetires}
use Rattle.tmem_fault.specs.Fault.{cause_number}
use Rattle.tmem_tree.specs.declared.tx.Tx.{Tx}
use Rattle.tmem_invariants.specs.Meanings.{Meanings}
use Rattle.tmem_tree.specs.declared.signature.Signature.{Signature}
use Rattle.tmem_tree.specs.Signatures.{AreMeant, AreWithin, names_of}
use Rattle.tmem_tree.specs.Limits.{depth, choices, count, is_node, is_write, is_check, is_retire, is_step, has_bad_register, has_bad_variable, has_bad_step, has_bad_arguments, has_unknown_name, lacks_signature}

-- the nodes that a limit counts
abbrev pub is_counted : Cause → List ℕ → ℕ → List (List ℕ) → Tx → Bool
is_counted TooDeep arities vars names = λ _. false
is_counted TooManyNodes arities vars names = is_node
is_counted TooManyWrites arities vars names = is_write
is_counted TooManyChecks arities vars names = is_check
is_counted BadRegister arities vars names = has_bad_register
is_counted BadVariable arities vars names = has_bad_variable vars
is_counted BadStep arities vars names = has_bad_step arities
is_counted BadArguments arities vars names = has_bad_arguments arities
is_counted UnknownName arities vars names = has_unknown_name names
is_counted TooManyRetires arities vars names = is_retire

-- the nodes that break a limit by themselves
abbrev pub is_bad : List ℕ → ℕ → List (List ℕ) → Tx → Bool
is_bad arities vars names tx =
    has_bad_register tx || has_bad_variable vars tx || has_bad_step arities tx || has_bad_arguments arities tx || has_unknown_name names tx

-- the limit of this cause is broken, for steps that take so many arguments, for so many variables and for invariants of
-- these names
abbrev pub Breaks : List ℕ → ℕ → List (List ℕ) → Tx → Cause → Type 0
Breaks arities vars names tx TooDeep = 32 < depth tx
Breaks arities vars names tx TooManyNodes = 512 < count is_node tx
Breaks arities vars names tx TooManyWrites = 64 < count is_write tx
Breaks arities vars names tx TooManyChecks = 8 < count is_check tx
Breaks arities vars names tx BadRegister = 0 < count has_bad_register tx
Breaks arities vars names tx BadVariable = 0 < count (has_bad_variable vars) tx
Breaks arities vars names tx BadStep = 0 < count (has_bad_step arities) tx
Breaks arities vars names tx BadArguments = 0 < count (has_bad_arguments arities) tx
Breaks arities vars names tx UnknownName = 0 < count (has_unknown_name names) tx
Breaks arities vars names tx TooManyRetires = 8 < count is_retire tx

abbrev pub BreaksNone : List ℕ → ℕ → List (List ℕ) → Tx → Type 0
BreaksNone arities vars names tx = (cause : Cause) → Breaks arities vars names tx cause → ⊥

-- broken, and no limit of a lesser number is
abbrev pub IsLeastBroken : List ℕ → ℕ → List (List ℕ) → Tx → Cause → Type 0
IsLeastBroken arities vars names tx cause =
    Breaks arities vars names tx cause
    × ((lesser : Cause) → cause_number lesser < cause_number cause → Breaks arities vars names tx lesser → ⊥)

-- the limits that hold for any steps, any number of variables and any names
pub record IsWithinLimits (tx : Tx) : Type 0 where
  pub shallow : depth tx ≤ 32
  pub nodes : count is_node tx ≤ 512
  pub writes : count is_write tx ≤ 64
  pub checks : count is_check tx ≤ 8
  pub retires : count is_retire tx ≤ 8
  pub registers : count has_bad_register tx ≡ 0

-- each step that it calls is one of those that take so many arguments, and is given that many
pub record FitsSteps (arities : List ℕ) (tx : Tx) : Type 0 where
  pub there : count (has_bad_step arities) tx ≡ 0
  pub given : count (has_bad_arguments arities) tx ≡ 0

-- what contracts see of a plan: its tree, and the footprints of the invariants that it checks
pub record PlanView : Type 0 where
  pub tree : Tx
  pub signatures : List Signature

-- each variable that it names, and each of a footprint, is one of so many
pub record FitsVariables (vars : ℕ) (plan : PlanView) : Type 0 where
  pub named : count (has_bad_variable vars) plan.tree ≡ 0
  pub footprints : AreWithin vars plan.signatures

-- the footprints are those that are meant
abbrev pub FitsSignatures : Meanings → PlanView → Type 0
FitsSignatures tests plan = AreMeant tests plan.signatures

-- each name that it checks or retires is one of these
abbrev pub FitsNames : List (List ℕ) → Tx → Type 0
FitsNames names tx = count (has_unknown_name names) tx ≡ 0

-- each name that it checks has a signature, of signatures of these names
abbrev pub HasSignatures : List (List ℕ) → Tx → Type 0
HasSignatures names tx = count (lacks_signature names) tx ≡ 0

-- it has at most 64 nodes, of which at most 8 call a stored step
abbrev pub IsShortTx : Tx → Type 0
IsShortTx tx = (count is_step tx ≤ 8) × (count is_node tx ≤ 64)

-- what a plan keeps beside its tree is so: the signatures of the invariants that it checks, how many of its choices may stand in their
-- first branch at once, and whether it is short
pub record IsPlan (tx : Tx) (signatures : List Signature) (open_choices : ℕ) (is_short : Bool) : Type 0 where
  pub limits : IsWithinLimits tx
  pub covered : HasSignatures (names_of signatures) tx
  pub choices : open_choices ≡ choices tx
  pub short : IsTrue is_short ↔ IsShortTx tx
