-- What is asked of a store, and answered at once or once it need not wait any more.
use Rattle.std.specs.Prelude.{◌≡◌, ◌≢◌, ◌⊎◌, ℕ, ℤ, List, length, map, filter, slice_get, Option, Some, None, Result, Ok, Err}
use Rattle.std.specs.Map.{keys_of}
use Rattle.tmem_core.specs.Program.{Program}
use Rattle.tmem_fault.specs.declared.fault.Cause.{Cause}
use Rattle.tmem_fault.specs.declared.fault.Fault.{Fault}
use Rattle.tmem_fault.specs.declared.fault.Fault.TheVariants as fault
use Rattle.tmem_seats.specs.Refusing.{IsFalseOn, AreEndValues}
use Rattle.tmem_seats.specs.Settling.{SettlesPass, SettlesAtLast, KnowsMore, SeesMore}
use Rattle.tmem_effect.specs.Names.{has_name}
use Rattle.tmem_effect.specs.State.{State}
use Rattle.tmem_seats.specs.Histories.{state_after_history}
use Rattle.tmem_spine.specs.History.{count}
use Rattle.tmem_spine.specs.Views.{PassRoleView}
use Rattle.tmem_tentative.specs.declared.attempt.Attempt.{Attempt}
use Rattle.tmem_tree.specs.Plans.{BreaksNone, IsLeastBroken}
use Rattle.tmem_tree.specs.declared.settled.Settled.{Settled}
use Rattle.tmem_tree.specs.declared.settled.Settled.TheVariants.{Retry, Refused}
use Rattle.tmem_tree.specs.declared.tx.Tx.{Tx}
use Rattle.tmem_requests.specs.Attempts.{IsAttemptOf}
use Rattle.tmem_answers.specs.declared.answer.Answer.{Answer}
use Rattle.tmem_answers.specs.declared.answer.Answer.TheVariants as answer
use Rattle.tmem_requests.specs.declared.proposal.Proposal.{Proposal}
use Rattle.tmem_requests.specs.declared.request.RequestBody.{RequestBody}
use Rattle.tmem_requests.specs.declared.request.RequestBody.TheVariants as ask

-- the store that is served: the count and the state that it was opened with, what its program brings, how many arguments its stored
-- steps take, and the names of the invariants that always hold
pub record Store : Type 0 where
  pub start : ℕ
  pub opening : State
  pub program : Program
  pub arities : List ℕ
  pub always : List (List ℕ)

-- the store of these
abbrev pub store : ℕ → State → Program → List ℕ → List (List ℕ) → Store
store start opening program arities always = record { start = start; opening = opening; program = program; arities = arities; always = always }

-- the state after all that a pass knows
abbrev pub state_known : Store → PassRoleView → State
state_known s pass = state_after_history s.opening pass.known

-- A transaction is settled so, after attempts that met another value or no room.
abbrev pub SettlesTx : Store → Tx → PassRoleView → Settled → PassRoleView → Type 0
SettlesTx s tx old settled new = SettlesAtLast s.start s.opening s.program tx old (Ok settled) new

-- the transaction is outside the limits of a plan, for this cause and for none of a lesser number
abbrev pub IsNoPlan : Store → Tx → Cause → Type 0
IsNoPlan s tx cause = IsLeastBroken s.arities (length s.opening.values) s.program.names tx cause

-- it is within them
abbrev pub IsPlanOf : Store → Tx → Type 0
IsPlanOf s tx = BreaksNone s.arities (length s.opening.values) s.program.names tx

-- How it is told how a transaction ended. Of one that an invariant refused the values may be told too, of the variables of its footprint,
-- on which that is false.
abbrev pub TellsEnding : Store → Settled → Answer → Type 0
TellsEnding s settled (answer.Refused name because) = (settled ≡ Refused name) × IsFalseOn s.program.tests name because.items
TellsEnding s settled given = given ≡ answer.Settled settled

-- A transaction is settled so, and told so, by a pass that may know more by then.
pub record EndsTold (s : Store) (tx : Tx) (old : PassRoleView) (settled : Settled) (given : Answer) (new : PassRoleView) : Type 0 where
  pub then : PassRoleView
  pub settles : SettlesTx s tx old settled then
  pub knows : KnowsMore then new
  pub tells : TellsEnding s settled given

-- These variables have these values after all that the pass then knows, which are so many transactions.
pub record SeesValues (s : Store) (vars : List ℕ) (old : PassRoleView) (number : ℕ) (values : List (ℕ × ℤ)) (new : PassRoleView) : Type 0 where
  pub knows : KnowsMore old new
  pub counts : number ≡ count s.start new.known
  pub asked : keys_of values ≡ vars
  pub seen : map (λ (v : ℕ × ℤ). Some v.1) values ≡ map (λ (var : ℕ). slice_get (state_known s new).values var) vars

-- All values and the registered names of the program after all that the pass then knows, which are so many transactions.
pub record SeesState (s : Store) (old : PassRoleView) (number : ℕ) (names : List (List ℕ)) (values : List ℤ) (new : PassRoleView) : Type 0 where
  pub knows : KnowsMore old new
  pub counts : number ≡ count s.start new.known
  pub registered : names ≡ filter (λ (name : List ℕ). has_name (state_known s new).names name) s.program.names
  pub seen : values ≡ (state_known s new).values

-- How an attempt is told that was settled. Of what it can be refused for, a conflict alone is told: where there is no room, a flush makes
-- some, and otherwise the store cannot go on.
abbrev pub TellsResult : Store → Result Settled Fault → Answer → Type 0
TellsResult s (Ok settled) given = TellsEnding s settled given
TellsResult s (Err refusal) given = (refusal ≡ fault.Conflict) × (given ≡ answer.Fault fault.Conflict)

-- Of an attempt that was made elsewhere and that an invariant refused, the values that are told are those at its end, after all that
-- the pass then knows.
abbrev pub TellsEnd : Store → Attempt → Answer → PassRoleView → Type 0
TellsEnd s attempt (answer.Refused name because) new = AreEndValues (state_known s new).values attempt.effect.writes because.items
TellsEnd s attempt given new = Unit {0}

-- A proposal is settled so: it ends as its attempt does, or is told of a conflict, and then some value that it read was not the present one.
pub record SettlesProposal (s : Store) (proposal : Proposal) (old : PassRoleView) (given : Answer) (new : PassRoleView) : Type 0 where
  pub attempt : Attempt
  pub made : IsAttemptOf proposal attempt
  pub result : Result Settled Fault
  pub then : PassRoleView
  pub settles : SettlesPass s.start s.opening s.program attempt old result then
  pub knows : KnowsMore then new
  pub tells : TellsResult s result given
  pub end : TellsEnd s attempt given new

-- One attempt at what may wait: it is answered so, or has to wait (None).
abbrev pub Tries : Store → RequestBody → PassRoleView → Option Answer → PassRoleView → Type 0
Tries s (ask.Do tx) old None new = SettlesTx s tx old Retry new
Tries s (ask.Do tx) old (Some given) new = (settled : Settled) × (settled ≢ Retry) × EndsTold s tx old settled given new
Tries s (ask.Changed reads) old None new = (number : ℕ) × SeesValues s (keys_of reads.items) old number reads.items new
Tries s (ask.Changed reads) old (Some (answer.Values number values)) new = SeesValues s (keys_of reads.items) old number values.items new × (values.items ≢ reads.items)
Tries s _ old outcome new = ⊥

-- What is answered at once.
abbrev pub AnswersAsk : Store → RequestBody → PassRoleView → Answer → PassRoleView → Type 0
AnswersAsk s (ask.Try tx) old given new =
    ((cause : Cause) × (given ≡ answer.Fault (fault.BadPlan cause)) × IsNoPlan s tx cause × (new ≡ old))
    ⊎ ((settled : Settled) × EndsTold s tx old settled given new)
AnswersAsk s (ask.Get vars) old (answer.Values number values) new = SeesValues s vars.items old number values.items new
AnswersAsk s (ask.Settle proposal) old given new = SettlesProposal s proposal old given new
AnswersAsk s ask.Look old (answer.Durable number) new = (number ≡ count s.start new.seen) × SeesMore old new
AnswersAsk s ask.State old (answer.State number names values) new = SeesState s old number names.items values.items new
AnswersAsk s ask.Checkpoint old given new = ((given ≡ answer.Checkpointed) ⊎ (given ≡ answer.Fault fault.Spent)) × (new ≡ old)
AnswersAsk s _ old given new = ⊥
