-- Whether a request can be made of a store: of so many variables, with these invariants, of which some are never retired.
use Rattle.std.specs.Prelude.{◌≡◌, ◌<◌, ℕ, Bool, true, false, List, All}
use Rattle.std.specs.Map.{keys_of}
use Rattle.tmem_fault.specs.Name.{has_name}
use Rattle.tmem_effect.specs.Names.{AreApart}
use Rattle.tmem_tree.specs.Limits.{count}
use Rattle.tmem_tree.specs.declared.tx.Tx.{Tx}
use Rattle.tmem_tree.specs.declared.tx.Tx.TheVariants.{Retire}
use Rattle.tmem_requests.specs.declared.proposal.Proposal.{Proposal}
use Rattle.tmem_requests.specs.declared.request.RequestBody.{RequestBody}
use Rattle.tmem_requests.specs.declared.request.RequestBody.TheVariants.{Do, Try, Get, Settle, Changed, Keep}

-- each variable is one of so many
abbrev pub AreThere : ℕ → List ℕ → Type 0
AreThere vars all = All (λ var. var < vars) all

-- each name is one of these
abbrev pub AreNamed : List (List ℕ) → List (List ℕ) → Type 0
AreNamed names all = All (λ name. has_name names name ≡ true) all

-- whether it retires one of these names
abbrev pub retires_one_of : List (List ℕ) → Tx → Bool
retires_one_of names (Retire name) = has_name names name
retires_one_of names _ = false

-- no node of it retires one of these names
abbrev pub RetiresNone : List (List ℕ) → Tx → Type 0
RetiresNone always tx = count (retires_one_of always) tx ≡ 0

-- what it reads and writes is there, what it checks and retires has a name of these, and it retires none that always holds
pub record ProposalFits (vars : ℕ) (names always : List (List ℕ)) (proposal : Proposal) : Type 0 where
  pub reads : AreThere vars (keys_of proposal.reads.items)
  pub writes : AreThere vars (keys_of proposal.writes.items)
  pub checks : AreNamed names proposal.checks.items
  pub retires : AreNamed names proposal.retires.items
  pub keeps : AreApart proposal.retires.items always

-- A transaction is held to nothing but that it retires none that always holds: the rest is asked of it as a plan.
abbrev pub FitsStore : ℕ → List (List ℕ) → List (List ℕ) → RequestBody → Type 0
FitsStore vars names always (Do tx) = RetiresNone always tx
FitsStore vars names always (Try tx) = RetiresNone always tx
FitsStore vars names always (Keep word tx) = RetiresNone always tx
FitsStore vars names always (Get all) = AreThere vars all.items
FitsStore vars names always (Changed reads) = AreThere vars (keys_of reads.items)
FitsStore vars names always (Settle proposal) = ProposalFits vars names always proposal
FitsStore vars names always ask = Unit {0}
