-- What holds on any device, also on one that breaks the disk model: Reopen may find another state than the run's, and
-- then a new run begins there.
use Rattle.std.specs.Prelude.{◌≡◌, ⊤, List, All, None}
use Rattle.tmem_fault.specs.declared.fault.Fault.{Fault}
use Rattle.tmem_fault.specs.declared.fault.Fault.TheVariants as fault
use Rattle.tmem_event.specs.declared.event.Event.{Event}
use Rattle.tmem_event.specs.declared.event.Event.TheVariants as event
use Rattle.tmem_event.specs.declared.event.Reply.{Reply}
use Rattle.tmem_event.specs.declared.event.Reply.TheVariants as reply
use Rattle.tmem_effect.specs.State.{State}
use Rattle.tmem_core.specs.Program.{Program, IsProgramOf}
use Rattle.tmem_gate.specs.Calls.{failures_after}
use Rattle.tmem_journal.specs.Contents.{Position, NeedsNoMigration}
use Rattle.tmem_opening.specs.Opening.{FindsState, OpeningRefused, ReadsWhereClosed}
use Rattle.tmem_world.specs.declared.attempt.WorldAttempt.{WorldAttempt}
use Rattle.tmem_world.specs.declared.world.World.{World}
use Rattle.tmem_world.specs.OneByOne.{OneByOne}
use Rattle.tmem_world.specs.WorldModel.{Setting, WorldModel, Allows, opening, dropped}
use Rattle.tmem_world.specs.Represents.{Represents, Means, HasCore, held_table, setting_of, world_view}

-- what an opening can be refused for
abbrev pub IsOpeningFault : Fault → Type 0
IsOpeningFault fault.Memory = ⊤
IsOpeningFault fault.Device = ⊤
IsOpeningFault fault.NotFormatted = ⊤
IsOpeningFault fault.Damaged = ⊤
IsOpeningFault fault.Geometry = ⊤
IsOpeningFault fault.Spent = ⊤
IsOpeningFault (fault.Missing name) = ⊤
IsOpeningFault (fault.Broken name) = ⊤
IsOpeningFault _ = ⊥

-- the run without a core, once opening was refused so
abbrev pub dropped_by : Fault → WorldModel → WorldModel
dropped_by f m = record (dropped m) { failures = failures_after f m.failures }

-- Reopen finds some state of the count that it answers, and a new run begins there; or there is no core.
abbrev pub AllowsReopenOnAnyDevice : WorldModel → Reply → WorldModel → Type 0
AllowsReopenOnAnyDevice m (reply.Opened n) m' = (s : State) × (position : Position) × (s.count ≡ n) × (m' ≡ opening s position m.failures)
AllowsReopenOnAnyDevice m (reply.Fault f) m' = IsOpeningFault f × (m' ≡ dropped_by f m)
AllowsReopenOnAnyDevice m _ m' = ⊥

-- every other event is answered as on a device that keeps the model
abbrev pub AllowsOnAnyDevice : Setting → WorldModel → Event → Reply → WorldModel → Type 0
AllowsOnAnyDevice set m event.Reopen r m' = AllowsReopenOnAnyDevice m r m'
AllowsOnAnyDevice set m e r m' = Allows set m e r m'

-- These events may be answered so, one after another: runs of the model, the next of which begins where Reopen opened.
abbrev pub RunOnAnyDevice : Setting → WorldModel → List Event → List Reply → WorldModel → Type 0
RunOnAnyDevice set m es rs m' = OneByOne (AllowsOnAnyDevice set) m es rs m'

-- each of the sixteen attempts is empty
abbrev pub HoldsNoTransaction : {D T S : Type 0} {d t s : _} → World D T S d t s → Type 0
HoldsNoTransaction w = All (λ (attempt : WorldAttempt). attempt.plan ≡ None) w.attempts.items

-- Opening again was refused, as any opening is. There is no core then, each attempt is empty, and the run goes on so.
pub record ReopeningRefused {D T S : Type 0} {d t s : _} (old : World D T S d t s) (f : Fault) (new : World D T S d t s) : Type 0 where
  pub refused : OpeningRefused (IsProgramOf t (held_table old)) old.layout.vars old.layout.slots (world_view old) f (world_view new)
  pub no_core : ¬ HasCore new
  pub attempts : HoldsNoTransaction new
  pub point : (program : Program) (m : WorldModel) → Represents program old m → Represents program new (dropped_by f m)

-- What Reopen is answered, and where the world is then. After Opened it is where a run begins, at a state of that count:
-- the one that the content represented, and represents there, where the device keeps the model. Where that was of version 2 and the
-- gates behind its log read closed, nothing was written.
abbrev pub IsReopened : {D T S : Type 0} {d t s : _} → World D T S d t s → Reply → World D T S d t s → Type 0
IsReopened old (reply.Opened n) new =
    (s : State) × (position : Position) × (s.count ≡ n)
    × ((program : Program) → Means new program → Represents program new (opening s position (world_view old).failures))
    × ((world_view new).keeps_model → FindsState new.layout.vars new.layout.slots (world_view old) (world_view new) position s)
    × (NeedsNoMigration old.layout.vars old.layout.slots (world_view old).seen → ReadsWhereClosed old.layout.vars old.layout.slots (world_view old) (world_view new))
IsReopened old (reply.Fault f) new = ReopeningRefused old f new
IsReopened old _ new = ⊥

-- so it is where the event is Reopen
abbrev pub Reopens : {D T S : Type 0} {d t s : _} → World D T S d t s → Event → Reply → World D T S d t s → Type 0
Reopens old event.Reopen r new = IsReopened old r new
Reopens old _ r new = ⊤

-- Whatever the closures mean, by their statement: from each point of a run that the old world is at, the events may be
-- answered so on any device, and the new world is at the point that they lead to.
abbrev pub PlaysOnAnyDevice : {D T S : Type 0} {d t s : _} → World D T S d t s → List Event → List Reply → World D T S d t s → Type 0
PlaysOnAnyDevice old es rs new =
    (program : Program) → Means old program
    → (m : WorldModel) → Represents program old m
    → (m' : WorldModel) × RunOnAnyDevice (setting_of old program) m es rs m' × Represents program new m'
