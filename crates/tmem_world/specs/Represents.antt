-- When a world is at a point of a run.
use Rattle.std.specs.Prelude.{Some, None, option_map, Result, Ok, Err, ◌≡◌, ◌<◌, ◌≤◌, ◌⊎◌, ⊤, ◌+◌, ◌-◌, ◌*◌, ℕ, ℤ, Bool, true, false, List, length, drop}
use Rattle.std.specs.List.{AllZip}
use Rattle.tmem_invariants.specs.Meanings.{IsSound}
use Rattle.tmem_disk.specs.Disk.{DeviceView, LeavesOnly, AtEachMoment}
use Rattle.tmem_fault.specs.declared.fault.Fault.{Fault}
use Rattle.tmem_effect.specs.State.{State}
use Rattle.tmem_record.specs.Layout.{image_at, image_size}
use Rattle.tmem_gate.specs.Calls.{WritesWithin}
use Rattle.tmem_world.specs.Parts.{what, held_disk, table_in, IsWith}
use Rattle.tmem_core.specs.Program.{Program, IsProgramOf}
use Rattle.tmem_tentative.specs.Cursors.{IsAt, HasEnded, given, answers}
use Rattle.tmem_tree.specs.declared.steps.StoredSteps as steps
use Rattle.tmem_invariants.specs.declared.named.Invariants as invariants
use Rattle.tmem_tree.specs.declared.tx.Tx.{Tx}
use Rattle.tmem_core.specs.Held.{core_state, waiting_of, durable_of, is_shut_of}
use Rattle.tmem_core.specs.Verdict.{serial_effects, AreCommitted}
use Rattle.tmem_event.specs.declared.event.Event.{Event}
use Rattle.tmem_event.specs.declared.event.Event.TheVariants as event
use Rattle.tmem_event.specs.declared.event.Reply.{Reply}
use Rattle.tmem_record.specs.declared.layout.Layout.{Layout}
use Rattle.tmem_world.specs.declared.attempt.WorldAttempt.{WorldAttempt}
use Rattle.tmem_world.specs.declared.core_and_journal.CoreAndJournal as both
use Rattle.tmem_world.specs.declared.held.Held.{Held}
use Rattle.tmem_world.specs.declared.held.Held.TheVariants.{With, Without}
use Rattle.tmem_world.specs.declared.world.World.{World}
use Rattle.tmem_journal.specs.Contents.{Position, ContentRepresentsEither}
use Rattle.tmem_journal.specs.Held as journal
use Rattle.tmem_world.specs.Replies.{IsAcknowledged}
use Rattle.tmem_world.specs.WorldModel.{Setting, WorldModel, AttemptModel, NoTransaction, Begun, Ended, CoreStatus, Open, Closed, Gone, opening, present, cut, Allows, Run}

-- its numbers of variables and log slots
abbrev pub numbers_of : {D T S : Type 0} {d t s : _} → World D T S d t s → Layout
numbers_of w = w.layout

-- what it has: a core with its journal, or the device and the table that are left without one
abbrev pub held_of : {D T S : Type 0} {d t s : _} → World D T S d t s → Held D T d t
held_of w = what w.held w.here

abbrev pub world_disk : {D T S : Type 0} {d t s : _} → World D T S d t s → D
world_disk w = held_disk (held_of w)

-- its device, as contracts see it
abbrev pub world_view : {D T S : Type 0} {d t s : _} → World D T S d t s → DeviceView
world_view {d = d} w = d.view (world_disk w)

-- how many transactions a core knows to be durable
abbrev pub durable_in : {D T : Type 0} {d t : _} → Held D T d t → ℕ
durable_in (With o) = durable_of o.core
durable_in (Without left) = 0

abbrev pub durable_number : {D T S : Type 0} {d t s : _} → World D T S d t s → ℕ
durable_number w = durable_in (held_of w)

-- its stored steps
abbrev pub world_steps : {D T S : Type 0} {d t s : _} → World D T S d t s → S
world_steps w = w.steps

-- the table of its invariants
abbrev pub held_table : {D T S : Type 0} {d t s : _} → World D T S d t s → T
held_table w = table_in (held_of w)

-- what it was opened with, where its closures mean this
abbrev pub setting_of : {D T S : Type 0} {d t s : _} → World D T S d t s → Program → Setting
setting_of {s = s} w program = record { vars = w.layout.vars; slots = w.layout.slots; arities = s.arities w.steps; program = program }

-- The program says what these stored steps and the invariants of this table mean.
pub record AreMeantBy {S T : Type 0} (s : steps.Ghosts S) (t : invariants.Ghosts T) (called : S) (table : T) (program : Program) : Type 0 where
  pub steps : s.is_stated called program.steps
  pub invariants : IsProgramOf t table program

-- so it is of those of a world
abbrev pub Means : {D T S : Type 0} {d t s : _} → World D T S d t s → Program → Type 0
Means {t = t} {s = s} w program = AreMeantBy s t (world_steps w) (held_table w) program

-- What no event changes: the numbers, the stored steps and the table, and so what the closures mean. And the premise of a device
-- that broke the disk model is not restored.
pub record KeepsSetting {D T S : Type 0} {d t s : _} (old new : World D T S d t s) : Type 0 where
  pub numbers : numbers_of new ≡ numbers_of old
  pub steps : world_steps new ≡ world_steps old
  pub table : held_table new ≡ held_table old
  pub model : (world_view new).keeps_model → (world_view old).keeps_model

-- the attempt's cursor stands in the evaluation of this plan, where these values were read, and the program's tests gave its answers
pub record Evaluates (program : Program) (s : WorldAttempt) (tx : Tx) (values : List (ℕ × ℤ)) : Type 0 where
  pub plan : option_map (λ plan. plan.tree) s.plan ≡ Some tx
  pub at : IsAt program.steps program.tests tx s.cursor
  pub given : given s.cursor ≡ values

-- it is this attempt of the model
abbrev pub AttemptIs : Program → WorldAttempt → AttemptModel → Type 0
AttemptIs program s NoTransaction = s.plan ≡ None
AttemptIs program s (Begun tx values answered) = Evaluates program s tx values × (length (answers s.cursor) ≡ answered) × (¬ HasEnded s.cursor)
AttemptIs program s (Ended tx values) = Evaluates program s tx values × HasEnded s.cursor

abbrev pub core_status : Bool → CoreStatus
core_status true = Closed
core_status false = Open

-- The core has the present state and the effects from the durable number on, and the journal the states at the durable
-- number and at the doubtful one.
pub record BothAre {D T : Type 0} {d t : _} (program : Program) (o : both.CoreAndJournal D T d t) (m : WorldModel) : Type 0 where
  pub state : core_state o.core ≡ present program m
  pub number : durable_of o.core ≡ m.durable
  pub waiting : waiting_of o.core ≡ drop (m.durable - m.opened.count) (serial_effects program m.opened m.committed)
  pub durable : journal.journal_state o.journal ≡ cut program m m.durable
  pub doubtful : journal.doubtful_of o.journal ≡ cut program m m.doubtful
  pub position : journal.journal_position o.journal ≡ m.position
  pub status : m.status ≡ core_status (is_shut_of o.core)
  pub certain : is_shut_of o.core ≡ false → m.doubtful ≡ m.durable

abbrev pub HeldIs : {D T : Type 0} {d t : _} → Program → Held D T d t → WorldModel → Type 0
HeldIs program (With o) m = BothAre program o m
HeldIs program (Without left) m = m.status ≡ Gone

-- The durable number and the doubtful one are numbers of the run, and wherever its serial order is cut each registered
-- invariant is in the table and true.
pub record IsNumbered (program : Program) (m : WorldModel) : Type 0 where
  pub opened : m.opened.count ≤ m.durable
  pub durable : m.durable ≤ m.doubtful
  pub doubtful : m.doubtful ≤ m.opened.count + length m.committed
  pub each : AreCommitted program m.opened m.committed
  pub sound : (n : ℕ) → m.opened.count ≤ n → n ≤ m.opened.count + length m.committed → IsSound program.tests program.names (cut program m n).names (cut program m n).values

-- the content represents the serial order cut at the durable number, or at the doubtful one
abbrev pub RepresentsCut : Program → ℕ → ℕ → WorldModel → List ℕ → Type 0
RepresentsCut program vars slots m c = ContentRepresentsEither vars slots (cut program m m.durable) (cut program m m.doubtful) c

-- The world is at this point of a run, and every crash leaves on its device the serial order cut at the durable number or
-- at the doubtful one.
pub record Represents {D T S : Type 0} {d t s : _} (program : Program) (w : World D T S d t s) (m : WorldModel) : Type 0 where
  pub numbers : IsNumbered program m
  pub attempts : AllZip (AttemptIs program) w.attempts.items m.attempts
  pub held : HeldIs program (held_of w) m
  pub failures : (world_view w).failures ≡ m.failures
  pub device : LeavesOnly (world_view w) (RepresentsCut program w.layout.vars w.layout.slots m)

-- A crash at any moment of an event leaves the serial order as it was cut before the event, or as it is after it.
abbrev pub EachMoment : {D T S : Type 0} {d t s : _} → World D T S d t s → World D T S d t s → Type 0
EachMoment old new =
    (program : Program) (m m' : WorldModel) → Represents program old m → Represents program new m'
    → AtEachMoment (world_view old) (world_view new) (λ c. ∥ RepresentsCut program old.layout.vars old.layout.slots m c ⊎ RepresentsCut program old.layout.vars old.layout.slots m' c ∥₁)

-- Block 0 is not written, nor anything behind the log.
abbrev pub WritesInStore : Layout → DeviceView → DeviceView → Type 0
WritesInStore layout old new = WritesWithin (image_at layout.vars 0) (2 * image_size layout.vars + 4096 * layout.slots) old new

-- What opening finds rests on the device's premise, and no other answer does.
abbrev pub RestsOn : Type 0 → Event → Type 0
RestsOn premise event.Reopen = premise
RestsOn premise _ = ⊤

-- Whatever the closures mean, by their statement: from each point of a run that the old world is at, the event may be
-- answered so, and the new world is at the next point.
abbrev pub IsStep : {D T S : Type 0} {d t s : _} → World D T S d t s → Event → Reply → World D T S d t s → Type 0
IsStep old e r new =
    (program : Program) → Means old program
    → (m : WorldModel) → Represents program old m → RestsOn ((world_view new).keeps_model) e
    → (m' : WorldModel) × Allows (setting_of old program) m e r m' × Represents program new m'

-- The same for a list of events, one after another. What was durable stays so, and what the replies acknowledge is durable.
abbrev pub Plays : {D T S : Type 0} {d t s : _} → World D T S d t s → List Event → List Reply → World D T S d t s → Type 0
Plays old es rs new =
    (program : Program) → Means old program
    → (m : WorldModel) → Represents program old m → (world_view new).keeps_model
    → (m' : WorldModel) × Run (setting_of old program) m es rs m' × Represents program new m' × (m.durable ≤ m'.durable) × ((number : ℕ) → IsAcknowledged rs number → number < m'.durable)

-- it has a core, also one that is closed
abbrev pub HasCore : {D T S : Type 0} {d t s : _} → World D T S d t s → Type 0
HasCore w = IsWith (held_of w)

-- the device after an opening, whatever its answer
abbrev pub world_device_after : {D T S : Type 0} {d t s : _} → Result (World D T S d t s) (Fault × D) → DeviceView
world_device_after (Ok w) = world_view w
world_device_after {d = d} (Err e) = d.view e.1

-- a run begins at such a state, where so many calls have failed
abbrev pub BeginsAt : {D T S : Type 0} {d t s : _} → ℕ → Program → World D T S d t s → (State → Type 0) → Type 0
BeginsAt failures program w Such = (found : State) × (position : Position) × Such found × Represents program w (opening found position failures)
