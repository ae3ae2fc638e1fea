-- Chains of sessions: a device is formatted, opened, played on, left by a crash or given back, opened again, and so on.
-- What was committed and acknowledged through all of that, and what a crash may leave of it.
use Rattle.std.specs.Prelude.{◌≡◌, ◌<◌, ◌≤◌, ◌^◌, ⊤, ℕ, max, List, [], ◌∷◌, ◌++◌, length, take, Result, Ok, Err, ◌⊎◌}
use Rattle.tmem_disk.specs.Disk.{DeviceView, LeavesOnly, AtEachMoment, IsSynced}
use Rattle.tmem_fault.specs.declared.fault.Fault.{Fault}
use Rattle.tmem_fault.specs.declared.fault.Fault.TheVariants.{Spent}
use Rattle.tmem_effect.specs.State.{State, first_state}
use Rattle.tmem_tree.specs.declared.tx.Tx.{Tx}
use Rattle.tmem_tree.specs.declared.settled.Settled.TheVariants.{Committed}
use Rattle.tmem_invariants.specs.Meanings.{IsSound}
use Rattle.tmem_core.specs.Program.{Program}
use Rattle.tmem_core.specs.Verdict.{serial_state, AreCommitted}
use Rattle.tmem_core.specs.Following.{Follows}
use Rattle.tmem_journal.specs.Calls.{FitsOn}
use Rattle.tmem_journal.specs.Journals.{IsOpeningFailure}
use Rattle.tmem_journal.specs.Mended.{IsFoundAt}
use Rattle.tmem_journal.specs.Refusals.{IsRefusedBy}
use Rattle.tmem_journal.specs.Contents.{Position, ContentRepresents}
use Rattle.tmem_opening.specs.Opening.{FindsState}
use Rattle.tmem_event.specs.declared.event.Event.{Event}
use Rattle.tmem_event.specs.declared.event.Event.TheVariants as event
use Rattle.tmem_event.specs.declared.event.Reply.{Reply}
use Rattle.tmem_event.specs.declared.event.Reply.TheVariants as reply
use Rattle.tmem_world.specs.declared.world.World.{World}
use Rattle.tmem_world.specs.Replies.{acknowledged}
use Rattle.tmem_world.specs.WorldModel.{Setting, WorldModel, AttemptModel, Ended, present, attempt_at, opening, Allows}
use Rattle.tmem_world.specs.Represents.{Represents, Means, setting_of, world_view, world_device_after}

-- What was committed since a device was formatted, through all sessions, in the serial order. How many of these transactions are
-- acknowledged: all whose numbers are below that. How many are durable; and how many may be durable in place of these, after a
-- flush with an unknown outcome.
pub record ChainHistory : Type 0 where
  pub committed : List Tx
  pub acknowledged : ℕ
  pub durable : ℕ
  pub doubtful : ℕ

-- that of a device that was just formatted
abbrev pub no_history : ChainHistory
no_history = record { committed = []; acknowledged = 0; durable = 0; doubtful = 0 }

-- the state after the first n of them, from that of a new store on
abbrev pub state_at : Program → ℕ → ChainHistory → ℕ → State
state_at program vars h n = serial_state program (first_state vars) (take n h.committed)

-- The first n of them are the durable ones, or those that may be durable in their place: a prefix of the serial order that has
-- every acknowledged one. Each was committed on the state after those before it, and the state after them is sound: each
-- registered invariant is in the table and true.
pub record IsSafePrefix (program : Program) (vars : ℕ) (h : ChainHistory) (n : ℕ) : Type 0 where
  pub cut : ∥ (n ≡ h.durable) ⊎ (n ≡ h.doubtful) ∥₁
  pub acknowledged : h.acknowledged ≤ n
  pub committed : n ≤ length h.committed
  pub each : AreCommitted program (first_state vars) (take n h.committed)
  pub sound : IsSound program.tests program.names (state_at program vars h n).names (state_at program vars h n).values

-- The content represents the state after such a prefix, whatever stands where on the device. Between the bars: it is one
-- fact.
abbrev pub IsSafe : Program → ℕ → ℕ → ChainHistory → List ℕ → Type 0
IsSafe program vars slots h c = ∥ ((n : ℕ) × IsSafePrefix program vars h n × ((position : _) × ContentRepresents vars slots position (state_at program vars h n) c)) ∥₁

-- it is safe for one of two histories: that from before an event, and that from after it
abbrev pub IsSafeIn : Program → ℕ → ℕ → ChainHistory → ChainHistory → List ℕ → Type 0
IsSafeIn program vars slots h h' c = ∥ IsSafe program vars slots h c ⊎ IsSafe program vars slots h' c ∥₁

-- The device is a store with this history: it holds the layout of these numbers, and every crash of it leaves a safe content.
pub record IsStore (program : Program) (vars slots : ℕ) (h : ChainHistory) (d : DeviceView) : Type 0 where
  pub fits : FitsOn vars slots d.capacity
  pub device : LeavesOnly d (IsSafe program vars slots h)

-- The device after a crash of the earlier one, at some moment from that time on. Whatever a further crash leaves, the first one
-- may have left.
pub record IsLeftBy (old : DeviceView) (since : ℕ) (new : DeviceView) : Type 0 where
  pub capacity : new.capacity ≡ old.capacity
  pub model : new.keeps_model → old.keeps_model
  pub left : new.keeps_model → (c : List ℕ) → new.may_leave c → old.left_since since c

-- The run at this point goes on with the history: its opening found the state after the first transactions, and the run
-- committed the others. So its present state is that after all of them. The history has the run's durable number and its
-- doubtful one, and what is acknowledged is durable.
pub record GoesOn (program : Program) (vars : ℕ) (h : ChainHistory) (m : WorldModel) : Type 0 where
  pub found : List Tx
  pub each : AreCommitted program (first_state vars) found
  pub opened : m.opened ≡ serial_state program (first_state vars) found
  pub committed : h.committed ≡ found ++ m.committed
  pub acknowledged : h.acknowledged ≤ m.durable
  pub durable : h.durable ≡ m.durable
  pub doubtful : h.doubtful ≡ m.doubtful
  pub present : present program m ≡ serial_state program (first_state vars) h.committed

-- The world is at this point of a run that goes on with the history, and its device is a store with it.
pub record Carries {D T S : Type 0} {d t s : _} (program : Program) (w : World D T S d t s) (h : ChainHistory) (m : WorldModel) : Type 0 where
  pub point : Represents program w m
  pub history : GoesOn program w.layout.vars h m
  pub store : IsStore program w.layout.vars w.layout.slots h (world_view w)

-- the plan of an attempt that has ended
abbrev pub ended_plan : AttemptModel → List Tx
ended_plan (Ended plan reads) = plan ∷ []
ended_plan _ = []

-- A plan that is answered Committed is committed last, and a Reopen that is answered Opened keeps the transactions below its number.
abbrev pub committed_after : WorldModel → Event → Reply → List Tx → List Tx
committed_after m (event.Settle k) (reply.Settled (Committed number registers)) txs = txs ++ ended_plan (attempt_at m k)
committed_after m event.Reopen (reply.Opened n) txs = take n txs
committed_after m e r txs = txs

-- The history after an event that was answered so at this point of a run, and led to that one.
abbrev pub history_after : WorldModel → Event → Reply → WorldModel → ChainHistory → ChainHistory
history_after m e r m' h = record { committed = committed_after m e r h.committed; acknowledged = max h.acknowledged (acknowledged r); durable = m'.durable; doubtful = m'.doubtful }

-- the history that a session goes on with, which found the first n transactions
abbrev pub history_found : ℕ → ChainHistory → ChainHistory
history_found n h = record { committed = take n h.committed; acknowledged = n; durable = n; doubtful = n }

-- A run of the model, and what it makes of a history: each event was answered as the model allows, one after another.
abbrev pub RunsOn : Setting → WorldModel → ChainHistory → List Event → List Reply → WorldModel → ChainHistory → Type 0
RunsOn set m h [] [] m' h' = (m' ≡ m) × (h' ≡ h)
RunsOn set m h (e ∷ es) (r ∷ rs) m' h' = (x : WorldModel) × Allows set m e r x × RunsOn set x (history_after m e r x h) es rs m' h'
RunsOn set m h [] (r ∷ rs) m' h' = ⊥
RunsOn set m h (e ∷ es) [] m' h' = ⊥

-- One session of a chain: what it was opened with; the content that a read of the device gave then; how many transactions its opening
-- found in that, at which position of the device, and how many calls of that had failed by then; and its events with their replies.
pub record SessionRun : Type 0 where
  pub set : Setting
  pub content : List ℕ
  pub found : ℕ
  pub position : Position
  pub failures : ℕ
  pub events : List Event
  pub replies : List Reply

-- it was opened for so many variables and log slots
abbrev pub IsOver : ℕ → ℕ → Setting → Type 0
IsOver vars slots set = (set.vars ≡ vars) × (set.slots ≡ slots)

-- A session on a store with this history: it found the state after a prefix that is safe by its own program, and its replies are a
-- run of the model from there to this point, with the history that it reached. The content that it found represents that state, at
-- the position where the run begins, or it is of version 1 and the run begins behind the next image: a first flush is told that the
-- log is full only where that content has a full log. The number of failed calls fits the device's count.
pub record IsSessionOn (before : ChainHistory) (s : SessionRun) (h : ChainHistory) (m : WorldModel) : Type 0 where
  pub safe : IsSafePrefix s.set.program s.set.vars before s.found
  pub stands : IsFoundAt s.set.vars s.set.slots s.content (state_at s.set.program s.set.vars before s.found) s.position
  pub counted : s.failures < 2 ^ 64
  pub run : RunsOn s.set (opening (state_at s.set.program s.set.vars before s.found) s.position s.failures) (history_found s.found before) s.events s.replies m h

-- These sessions, the last one first, lead from a device that was formatted for so many variables and log slots to this history. Each
-- has a program of its own.
abbrev pub IsChain : ℕ → ℕ → List SessionRun → ChainHistory → Type 0
IsChain vars slots [] h = h ≡ no_history
IsChain vars slots (s ∷ earlier) h = (m : WorldModel) × (before : ChainHistory) × IsChain vars slots earlier before × IsOver vars slots s.set × IsSessionOn before s h m

-- The last session of a chain is at this point of its run.
abbrev pub IsChainAt : ℕ → ℕ → List SessionRun → SessionRun → ChainHistory → WorldModel → Type 0
IsChainAt vars slots earlier s h m = (before : ChainHistory) × IsChain vars slots earlier before × IsOver vars slots s.set × IsSessionOn before s h m

-- a session that was just opened
abbrev pub just_opened : Setting → List ℕ → ℕ → Position → ℕ → SessionRun
just_opened set content n position failures = record { set = set; content = content; found = n; position = position; failures = failures; events = []; replies = [] }

-- the session with these events more
abbrev pub gone_on : SessionRun → List Event → List Reply → SessionRun
gone_on s es rs = record s { events = s.events ++ es; replies = s.replies ++ rs }

-- the last session of any chain, if it was opened with this, goes on by these events
abbrev pub GrowsChain : Setting → WorldModel → ChainHistory → List Event → List Reply → WorldModel → ChainHistory → Type 0
GrowsChain set m h es rs m' h' = (vars slots : ℕ) (earlier : List SessionRun) (s : SessionRun) → s.set ≡ set → IsChainAt vars slots earlier s h m → IsChainAt vars slots earlier (gone_on s es rs) h' m'

-- Opening found the state after a prefix of the history that is safe to find: the durable transactions, or those that may be
-- durable in their place, with every acknowledged one, and the state is sound. A run begins there, at the position of what a read of
-- the device gave, or behind an image of version 2 that was written over that: the next session of any chain that led to the history.
-- Or memory or the device failed, or a read of the device gave an image of version 1 and of the last generation, behind which none can
-- be; and the device is still a store with the history.
abbrev pub FindsPrefix : {D T S : Type 0} {d t s : _} → Program → ℕ → ℕ → ChainHistory → DeviceView → Result (World D T S d t s) (Fault × D) → Type 0
FindsPrefix program vars slots h old (Ok w) =
    (n : ℕ) × (position : Position) × IsSafePrefix program vars h n × Carries program w (history_found n h) (opening (state_at program vars h n) position old.failures)
    × FindsState vars slots old (world_view w) position (state_at program vars h n)
    × ((earlier : List SessionRun) → IsChain vars slots earlier h
    → IsChainAt vars slots earlier (just_opened (setting_of w program) old.seen n position old.failures) (history_found n h) (opening (state_at program vars h n) position old.failures))
FindsPrefix {d = d} program vars slots h old (Err e) = IsOpeningFailure e.0 × (e.0 ≡ Spent → IsRefusedBy vars slots old.seen Spent) × IsStore program vars slots h (d.view e.1)

-- A device that is a store with this history was opened, and a crash at any moment of that leaves what is safe for it.
pub record OpensStore {D T S : Type 0} {d t s : _} (program : Program) (vars slots : ℕ) (h : ChainHistory) (old : DeviceView) (result : Result (World D T S d t s) (Fault × D)) : Type 0 where
  pub any_moment : AtEachMoment old (world_device_after result) (IsSafe program vars slots h)
  pub found : FindsPrefix program vars slots h old result

-- After Opened this content represents the state, at the position or with the next image at the position.
abbrev pub FindsIn : Setting → List ℕ → Event → Reply → WorldModel → Type 0
FindsIn set content event.Reopen (reply.Opened n) m' = IsFoundAt set.vars set.slots content (present set.program m') m'.position
FindsIn set content _ _ m' = ⊤

-- A world that carries a history carries the next one after the event, at the next point of the run. What a Reopen finds is what a
-- read of the device gave. A crash at any moment of the event leaves what is safe for the history before it, or for the one after it.
abbrev pub StepsOn : {D T S : Type 0} {d t s : _} → World D T S d t s → Event → Reply → World D T S d t s → Type 0
StepsOn old e r new =
    (program : Program) → Means old program → (h : ChainHistory) (m : WorldModel) → Carries program old h m → (world_view new).keeps_model
    → (m' : WorldModel) × Allows (setting_of old program) m e r m' × Carries program new (history_after m e r m' h) m'
    × AtEachMoment (world_view old) (world_view new) (IsSafeIn program old.layout.vars old.layout.slots h (history_after m e r m' h))
    × GrowsChain (setting_of old program) m h (e ∷ []) (r ∷ []) m' (history_after m e r m' h)
    × FindsIn (setting_of old program) (world_view old).seen e r m'

-- these are the first of those
abbrev pub IsFirstOf : {A : Type 0} → List A → List A → Type 0
IsFirstOf {A} first all = (rest : List A) × (all ≡ first ++ rest)

-- The content is safe for the history after an initial part of these events, from which the others led on. (All of their
-- replies are given once the last is played.)
pub record IsSafeWithin (set : Setting) (m : WorldModel) (h : ChainHistory) (es : List Event) (rs : List Reply) (m' : WorldModel) (h' : ChainHistory) (c : List ℕ) : Type 0 where
  pub first : List Event
  pub rest : List Event
  pub answers : List Reply
  pub later : List Reply
  pub events : es ≡ first ++ rest
  pub replies : rs ≡ answers ++ later
  pub point : WorldModel
  pub reached : ChainHistory
  pub before : RunsOn set m h first answers point reached
  pub after : RunsOn set point reached rest later m' h'
  pub safe : IsSafe set.program set.vars set.slots reached c

-- A world that carries a history carries the one after these events, at the point of the run that they lead to. A crash at any
-- moment of the whole call leaves what is safe after an initial part of them.
abbrev pub PlaysOn : {D T S : Type 0} {d t s : _} → World D T S d t s → List Event → List Reply → World D T S d t s → Type 0
PlaysOn old es rs new =
    (program : Program) → Means old program → (h : ChainHistory) (m : WorldModel) → Carries program old h m → (world_view new).keeps_model
    → (h' : ChainHistory) × (m' : WorldModel) × RunsOn (setting_of old program) m h es rs m' h' × Carries program new h' m'
    × AtEachMoment (world_view old) (world_view new) (λ c. ∥ IsSafeWithin (setting_of old program) m h es rs m' h' c ∥₁)
    × GrowsChain (setting_of old program) m h es rs m' h'

-- A device for which format answered Ok is a store without a history yet.
abbrev pub FormattedIsStore : {D : Type 0} → (D → DeviceView) → Type 0
FormattedIsStore {D} view =
    (program : Program) (vars slots : ℕ) (position : _) (disk : D) → FitsOn vars slots (view disk).capacity
    → LeavesOnly (view disk) (ContentRepresents vars slots position (first_state vars)) → IsStore program vars slots no_history (view disk)

-- The new program may follow on the old one over a store with this history: over each prefix that may be found, what is registered
-- after it, and what its transactions tested and retired.
abbrev pub MayFollow : Program → ℕ → ChainHistory → Program → Type 0
MayFollow old vars h new = (n : ℕ) → IsSafePrefix old vars h n → Follows old (first_state vars) (take n h.committed) new

-- A store of a program is one of each that may follow on it, with the same history.
abbrev pub FollowingKeepsStore : {D : Type 0} → (D → DeviceView) → Type 0
FollowingKeepsStore {D} view =
    (old new : Program) (vars slots : ℕ) (h : ChainHistory) (disk : D) → MayFollow old vars h new → IsStore old vars slots h (view disk) → IsStore new vars slots h (view disk)

-- A crash of a store leaves a store: with the same history, if it was between two calls or at some moment of an opening. Once the
-- device was started again, so that it holds one content: with the history from before an event or from after it, if it was at
-- some moment of one, and with the history after an initial part of a list of events, if it was at some moment of that.
pub record CrashLeavesStore {D : Type 0} (view : D → DeviceView) : Type 0 where
  pub between : (program : Program) (vars slots : ℕ) (h : ChainHistory) (disk left : D) → IsStore program vars slots h (view disk)
      → IsLeftBy (view disk) (view disk).moment (view left) → IsStore program vars slots h (view left)
  pub within_opening : (program : Program) (vars slots : ℕ) (h : ChainHistory) (old new left : D) → FitsOn vars slots (view new).capacity
      → AtEachMoment (view old) (view new) (IsSafe program vars slots h) → IsLeftBy (view new) (view old).moment (view left) → IsStore program vars slots h (view left)
  pub within_event : (program : Program) (vars slots : ℕ) (h h' : ChainHistory) (old new left : D) → FitsOn vars slots (view new).capacity
      → AtEachMoment (view old) (view new) (IsSafeIn program vars slots h h') → IsLeftBy (view new) (view old).moment (view left) → IsSynced (view left) → (view left).keeps_model
      → ∥ IsStore program vars slots h (view left) ⊎ IsStore program vars slots h' (view left) ∥₁
  pub within_events : (set : Setting) (m : WorldModel) (h : ChainHistory) (es : List Event) (rs : List Reply) (m' : WorldModel) (h' : ChainHistory) (old new left : D) → FitsOn set.vars set.slots (view new).capacity
      → AtEachMoment (view old) (view new) (λ c. ∥ IsSafeWithin set m h es rs m' h' c ∥₁) → IsLeftBy (view new) (view old).moment (view left) → IsSynced (view left) → (view left).keeps_model
      → ∥ ((first : List Event) × (answers : List Reply) × (point : WorldModel) × (reached : ChainHistory)
      × IsFirstOf first es × IsFirstOf answers rs × GrowsChain set m h first answers point reached × IsStore set.program set.vars set.slots reached (view left)) ∥₁
