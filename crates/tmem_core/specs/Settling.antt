-- What settling an attempt does to a core, and what it answers.
use Rattle.std.specs.Prelude.{◌≡◌, Result, IfErr}
use Rattle.tmem_fault.specs.declared.fault.Fault.{Fault}
use Rattle.tmem_tree.specs.declared.tx.Tx.{Tx}
use Rattle.tmem_tree.specs.declared.settled.Settled.{Settled}
use Rattle.tmem_invariants.specs.declared.named.Invariants.{Ghosts}
use Rattle.tmem_tentative.specs.Right.{IsRight}
use Rattle.tmem_tentative.specs.declared.attempt.Attempt.{Attempt}
use Rattle.tmem_core.specs.declared.core_state.Core.{Core}
use Rattle.tmem_core.specs.Held.{core_view, core_state, durable_of, is_shut_of, core_table, committing}
use Rattle.tmem_core.specs.Program.{Program, IsProgramOf}
use Rattle.tmem_core.specs.SettleAnswer.{settle_answer, judged, IsRefusal, IsAdded, committed_by}
use Rattle.tmem_core.specs.Verdict.{verdict as verdict_of}

-- A core settles an attempt, and answers so.
pub record Settles {T : Type 0} {t : Ghosts T} (old new : Core T t) (a : Attempt) (settled : Result Settled Fault) : Type 0 where
  -- The answer is by the values that the attempt read, and by its effect.
  pub answer : (p : Program) → IsProgramOf t (core_table old) p → settled ≡ settle_answer p (is_shut_of old) (core_state old) (durable_of old) a
  -- Of each plan that it is an attempt of, it is by the plan's verdict on the state.
  pub verdict : (p : Program) (tx : Tx) → IsProgramOf t (core_table old) p → IsRight p.steps p.tests tx a
      → settled ≡ judged (is_shut_of old) (core_state old) (durable_of old) a.reads.entries (verdict_of p tx (core_state old))
  -- What is committed is what such a plan adds.
  pub added : (p : Program) (tx : Tx) → IsProgramOf t (core_table old) p → IsRight p.steps p.tests tx a → IsAdded p tx (core_state old) a settled
  -- These are all that may refuse it.
  pub refused : IfErr settled IsRefusal
  -- The core commits the effect where the answer says so, and is as before otherwise.
  pub view : core_view new ≡ committing (committed_by settled a.effect) (core_view old)
