-- What an attempt that is settled is answered, and what the pass knows then.
use Rattle.std.specs.Prelude.{◌≡◌, ◌≢◌, ◌⊎◌, ◌≤◌, ◌<◌, ◌++◌, ℕ, Bool, List, Result, Ok, Err}
use Rattle.tmem_fault.specs.declared.fault.Fault.{Fault}
use Rattle.tmem_fault.specs.declared.fault.Fault.TheVariants as fault
use Rattle.tmem_effect.specs.Prefix.{IsPrefix}
use Rattle.tmem_effect.specs.State.{State}
use Rattle.tmem_tree.specs.declared.settled.Settled.{Settled}
use Rattle.tmem_tree.specs.declared.settled.Settled.TheVariants.{Committed, Seen}
use Rattle.tmem_tentative.specs.declared.attempt.Attempt.{Attempt}
use Rattle.tmem_core.specs.Program.{Program}
use Rattle.tmem_core.specs.SettleAnswer.{settle_answer, committed_by, judged}
use Rattle.tmem_core.specs.Verdict.{verdict as verdict_of}
use Rattle.tmem_tentative.specs.Right.{IsRight}
use Rattle.tmem_tree.specs.declared.tx.Tx.{Tx}
use Rattle.tmem_spine.specs.declared.view.MarkedEffect.{MarkedEffect}
use Rattle.tmem_spine.specs.History.{count}
use Rattle.tmem_spine.specs.Views.{PassRoleView}
use Rattle.tmem_seats.specs.Histories.{state_after_history, marked, numbered, IsSoundState}

-- There is a history that goes on from all that the pass knew. The answer is a core's in the state after it, where at
-- least as many are known durable as the pass saw: for each plan that the attempt is right for, that plan's verdict
-- there. The history gains what is committed, once, under the mark of the pass, which then knows it whole and has what
-- is committed as its own. The state after that is sound.
pub record SettlesPass (start : ℕ) (opening : State) (program : Program) (attempt : Attempt) (old : PassRoleView) (answer : Result Settled Fault) (new : PassRoleView) : Type 0 where
  pub before : List MarkedEffect
  pub durable : ℕ
  pub is_shut : Bool
  pub begins : IsPrefix old.known before
  pub saw : count start old.seen ≤ durable
  pub number : (state_after_history opening before).count ≡ count start before
  pub answered : answer ≡ settle_answer program is_shut (state_after_history opening before) durable attempt
  pub verdict : (tx : Tx) → IsRight program.steps program.tests tx attempt → answer ≡ judged is_shut (state_after_history opening before) durable attempt.reads.entries (verdict_of program tx (state_after_history opening before))
  pub pass : new ≡ record old {
    known = before ++ marked old.mark (committed_by answer attempt.effect);
    own = old.own ++ numbered (count start before) (committed_by answer attempt.effect);
  }
  pub sound : IsSoundState program (state_after_history opening new.known)

-- An attempt that is right for this plan is settled so, or there was no memory for one, and the pass stays as it was.
abbrev pub SettlesPlan : ℕ → State → Program → Tx → PassRoleView → Result Settled Fault → PassRoleView → Type 0
SettlesPlan start opening program tx old answer new =
    ((answer ≡ Err fault.Memory) × (new ≡ old)) ⊎ ∥ ((attempt : Attempt) × IsRight program.steps program.tests tx attempt × SettlesPass start opening program attempt old answer new) ∥₁

-- the pass knows at least what it knew, and the rest of it stays
pub record KnowsMore (old new : PassRoleView) : Type 0 where
  pub same : new ≡ record old { known = new.known }
  pub begins : IsPrefix old.known new.known

-- The same of attempts that are made until one is settled: the pass may know more where there was no memory.
abbrev pub SettlesAtLast : ℕ → State → Program → Tx → PassRoleView → Result Settled Fault → PassRoleView → Type 0
SettlesAtLast start opening program tx old answer new =
    ((answer ≡ Err fault.Memory) × KnowsMore old new) ⊎ ∥ ((attempt : Attempt) × IsRight program.steps program.tests tx attempt × SettlesPass start opening program attempt old answer new) ∥₁

-- the pass saw and knows no less than before, and is the same in all else
pub record SeesMore (old new : PassRoleView) : Type 0 where
  pub pass : new ≡ record old { seen = new.seen; known = new.known }
  pub seen : IsPrefix old.seen new.seen
  pub known : IsPrefix old.known new.known

-- among so many is what an answer committed, and all that it was made on
abbrev pub IsNumberedWithin : Result Settled Fault → ℕ → Type 0
IsNumberedWithin (Ok (Committed number registers)) n = number < n
IsNumberedWithin (Ok (Seen at registers)) n = at ≤ n
IsNumberedWithin _ n = Unit {0}

-- Attempts are made until one is settled, and then what it committed and all that it was made on is awaited. The answer is the one
-- to the attempt, or Unknown where the pass did not see all of that durable.
pub record SettlesDurably (start : ℕ) (opening : State) (program : Program) (tx : Tx) (old : PassRoleView) (answer : Result Settled Fault) (new : PassRoleView) : Type 0 where
  pub first : Result Settled Fault
  pub then : PassRoleView
  pub settled : SettlesAtLast start opening program tx old first then
  pub sees : SeesMore then new
  pub answered : (answer ≡ first) ⊎ (answer ≡ Err fault.Unknown)
  pub durable : IsNumberedWithin answer (count start new.seen)
  pub unseen : answer ≢ first → ¬ IsNumberedWithin first (count start new.seen)
