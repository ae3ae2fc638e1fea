-- What a flush and a checkpoint do to a core and its journal.
use Rattle.std.specs.Prelude.{◌≡◌, ◌≤◌, ◌⊎◌, ℕ, true, false, List, [], ◌++◌, length, Result, Ok, Err}
use Rattle.tmem_disk.specs.Disk.{AtEachMoment}
use Rattle.tmem_fault.specs.declared.fault.Fault.{Fault}
use Rattle.tmem_fault.specs.declared.fault.Fault.TheVariants.{Closed}
use Rattle.tmem_effect.specs.declared.effect.Effect.{Effect}
use Rattle.tmem_gate.specs.Calls.{Uses, WritesWithin}
use Rattle.tmem_core.specs.Held.{core_state, waiting_of, durable_of, is_shut_of, core_table}
use Rattle.tmem_core.specs.Taking.{IsTaken}
use Rattle.tmem_journal.specs.Held.{journal_device, journal_layout, MayBe}
use Rattle.tmem_journal.specs.Journals as journals
use Rattle.tmem_world.specs.declared.core_and_journal.CoreAndJournal.{CoreAndJournal}

-- what waits after a flush that was to make the others durable
abbrev pub waiting_after : Result ℕ Fault → List Effect → List Effect → List Effect
waiting_after (Ok n) all rest = rest
waiting_after (Err f) all rest = all

-- it was closed before
pub record FlushedClosed {D T : Type 0} {d t : _} (old : CoreAndJournal D T d t) (answer : Result ℕ Fault) (new : CoreAndJournal D T d t) : Type 0 where
  pub answered : answer ≡ Err Closed
  pub closed : is_shut_of old.core ≡ true
  pub same : new ≡ old

-- nothing waited
pub record FlushedNone {D T : Type 0} {d t : _} (old : CoreAndJournal D T d t) (answer : Result ℕ Fault) (new : CoreAndJournal D T d t) : Type 0 where
  pub answered : answer ≡ Ok (durable_of old.core)
  pub running : is_shut_of old.core ≡ false
  pub none : waiting_of old.core ≡ []
  pub same : new ≡ old

-- the oldest effects, as long as any other would still fit into the batch, were handed to the journal, which answered so
pub record FlushedOldest {D T : Type 0} {d t : _} (old : CoreAndJournal D T d t) (answer : Result ℕ Fault) (new : CoreAndJournal D T d t) : Type 0 where
  pub oldest : List Effect
  pub rest : List Effect
  pub running : is_shut_of old.core ≡ false
  pub waited : waiting_of old.core ≡ oldest ++ rest
  pub some : 1 ≤ length oldest
  pub few : length oldest ≤ 64
  pub taken : IsTaken (waiting_of old.core) oldest
  pub journal : journals.Flushes old.journal oldest answer new.journal
  pub waits : waiting_of new.core ≡ waiting_after answer (waiting_of old.core) rest

abbrev pub FlushesBoth : {D T : Type 0} {d t : _} → CoreAndJournal D T d t → Result ℕ Fault → CoreAndJournal D T d t → Type 0
FlushesBoth old answer new = FlushedClosed old answer new ⊎ (FlushedNone old answer new ⊎ FlushedOldest old answer new)

-- The journal answered a checkpoint so. What waits stays.
pub record CheckpointsBoth {D T : Type 0} {d t : _} (old : CoreAndJournal D T d t) (answer : Result (Unit {0}) Fault) (new : CoreAndJournal D T d t) : Type 0 where
  pub journal : journals.Checkpoints old.journal answer new.journal
  pub waits : waiting_of new.core ≡ waiting_of old.core

-- What either does to the device, of which n bytes from `at` on may be written, and what stays: the numbers, what was committed and
-- the table. A crash at any moment leaves what the journal said before that it may, or what it says afterwards.
pub record CallsDevice {A D T : Type 0} {d t : _} (at n : ℕ) (old : CoreAndJournal D T d t) (answer : Result A Fault) (new : CoreAndJournal D T d t) : Type 0 where
  pub uses : Uses (journal_device old.journal) (journal_device new.journal) answer
  pub any_moment : AtEachMoment (journal_device old.journal) (journal_device new.journal) (λ c. ∥ MayBe old.journal c ⊎ MayBe new.journal c ∥₁)
  pub elsewhere : WritesWithin at n (journal_device old.journal) (journal_device new.journal)
  pub layout : journal_layout new.journal ≡ journal_layout old.journal
  pub state : core_state new.core ≡ core_state old.core
  pub table : core_table new.core ≡ core_table old.core
