-- What settling an attempt does to a core.
use Rattle.std.specs.Prelude.{◌≡◌, ◌⊎◌, Result, Ok, Err}
use Rattle.tmem_fault.specs.declared.fault.Fault.{Fault}
use Rattle.tmem_invariants.specs.Meanings.{Meanings}
use Rattle.tmem_tree.specs.StepAnswers.{StepMeanings}
use Rattle.tmem_tree.specs.declared.tx.Tx.{Tx}
use Rattle.tmem_tree.specs.declared.settled.Settled.{Settled}
use Rattle.tmem_tentative.specs.Cursors.{IsAt, attempt_of}
use Rattle.tmem_tentative.specs.Right.{IsRight}
use Rattle.tmem_core.specs.Settling as core
use Rattle.tmem_event.specs.declared.event.Reply.{Reply}
use Rattle.tmem_event.specs.declared.event.Reply.TheVariants as reply
use Rattle.tmem_world.specs.declared.attempt.WorldAttempt.{WorldAttempt}
use Rattle.tmem_world.specs.declared.core_and_journal.CoreAndJournal.{CoreAndJournal}
use Rattle.tmem_world.specs.Replies.{reply_of}
use Rattle.tmem_world.specs.Attempts.{HoldsEnded, emptied}

-- the attempt after an answer: one that met a fault stays
abbrev pub attempt_after : Result Settled Fault → WorldAttempt → WorldAttempt
attempt_after (Ok settled) s = emptied s
attempt_after (Err f) s = s

-- the attempt has not ended
abbrev pub SettlesNothing : {D T : Type 0} {d t : _} → CoreAndJournal D T d t → WorldAttempt → Reply → CoreAndJournal D T d t → WorldAttempt → Type 0
SettlesNothing old s r new after = (r ≡ reply.Idle) × (new ≡ old) × (after ≡ s)

-- The core and the attempt after one that has ended was settled, with the core's answer to it, which is one of each plan in
-- whose evaluation the cursor stands.
pub record SettlesEnded {D T : Type 0} {d t : _} (old : CoreAndJournal D T d t) (s : WorldAttempt) (answer : Result Settled Fault) (r : Reply) (new : CoreAndJournal D T d t) (after : WorldAttempt) : Type 0 where
  pub core : core.Settles old.core new.core (attempt_of s.cursor) answer
  pub right : (m : StepMeanings) (tests : Meanings) (tx : Tx) → IsAt m tests tx s.cursor → IsRight m tests tx (attempt_of s.cursor)
  pub reply : r ≡ reply_of answer
  pub attempt : after ≡ attempt_after answer s

-- an attempt that has ended is settled, and nothing else is
abbrev pub SettlesAttempt : {D T : Type 0} {d t : _} → CoreAndJournal D T d t → WorldAttempt → Reply → CoreAndJournal D T d t → WorldAttempt → Type 0
SettlesAttempt old s r new after =
    ((¬ HoldsEnded s) × SettlesNothing old s r new after)
    ⊎ (HoldsEnded s × ((answer : Result Settled Fault) × SettlesEnded old s answer r new after))
