-- What settling an attempt for a pass does to the core under its lock.
use Rattle.std.specs.Prelude.{◌≡◌, ◌≤◌, ◌++◌, ℕ, Result}
use Rattle.tmem_fault.specs.declared.fault.Fault.{Fault}
use Rattle.tmem_effect.specs.Prefix.{IsPrefix}
use Rattle.tmem_effect.specs.State.{State}
use Rattle.tmem_tree.specs.declared.settled.Settled.{Settled}
use Rattle.tmem_tree.specs.declared.tx.Tx.{Tx}
use Rattle.tmem_tentative.specs.Right.{IsRight}
use Rattle.tmem_tentative.specs.declared.attempt.Attempt.{Attempt}
use Rattle.tmem_core.specs.Program.{Program}
use Rattle.tmem_core.specs.SettleAnswer.{settle_answer, judged, committed_by}
use Rattle.tmem_core.specs.Verdict.{verdict as verdict_of}
use Rattle.tmem_spine.specs.History.{count}
use Rattle.tmem_spine.specs.Views.{PassRoleView}
use Rattle.tmem_seats.specs.Histories.{state_after_history, marked, numbered, IsSoundState}
use Rattle.tmem_seats.specs.Seats.{CoreSeatView}

-- The core first learns how many are durable, at least as many as the pass saw, and then answers by its present state: for each plan
-- that the attempt is right for, by that plan's verdict there. What commits is committed under the mark of the pass, which has it as
-- its own. The pass knows all that is committed then. The state after that is sound, and nothing else of the core changes.
pub record Decides (start : ℕ) (opening : State) (program : Program) (attempt : Attempt) (old : CoreSeatView) (pass : PassRoleView) (answer : Result Settled Fault) (new : CoreSeatView) (pass' : PassRoleView) : Type 0 where
  pub trimmed : (old.trimmed ≤ new.trimmed) × (count start pass.seen ≤ new.trimmed)
  pub answered : answer ≡ settle_answer program old.is_shut (state_after_history opening old.committed) new.trimmed attempt
  pub verdict : (tx : Tx) → IsRight program.steps program.tests tx attempt
      → answer ≡ judged old.is_shut (state_after_history opening old.committed) new.trimmed attempt.reads.entries (verdict_of program tx (state_after_history opening old.committed))
  pub number : (state_after_history opening old.committed).count ≡ count start old.committed
  pub committed : new.committed ≡ old.committed ++ marked pass.mark (committed_by answer attempt.effect)
  pub knows : pass' ≡ record pass { known = new.committed; own = pass.own ++ numbered (count start old.committed) (committed_by answer attempt.effect) }
  pub begins : IsPrefix pass.known old.committed
  pub sound : IsSoundState program (state_after_history opening new.committed)
  pub rest : new ≡ record old { committed = new.committed; trimmed = new.trimmed }
