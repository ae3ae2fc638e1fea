-- What a list of events may be answered.
use Rattle.std.specs.Prelude.{◌≡◌, ◌<◌, ◌≤◌, ◌⊎◌, ⊤, ℕ, ◌+◌, ◌-◌, ◌^◌, ℤ, Bool, true, false, List, [], ◌∷◌, ◌++◌, Option, Some, None, Result, Ok, Err, take, drop, replicate, nat_eq, MatchBool, slice_index_or, slice_set}
use Rattle.tmem_disk.specs.Disk.{after_fault}
use Rattle.tmem_fault.specs.declared.fault.Fault.{Fault}
use Rattle.tmem_fault.specs.declared.fault.Fault.TheVariants as fault
use Rattle.tmem_effect.specs.State.{State}
use Rattle.tmem_effect.specs.Writes.{value_in}
use Rattle.tmem_effect.specs.declared.effect.Effect.{Effect}
use Rattle.tmem_tree.specs.declared.tx.Tx.{Tx}
use Rattle.tmem_core.specs.Program.{Program}
use Rattle.tmem_state.specs.declared.version.Version.TheVariants.{Two}
use Rattle.tmem_journal.specs.Contents.{Position, ContentRepresents, next_slot, next_image}
use Rattle.tmem_tree.specs.Plans.{BreaksNone, IsLeastBroken}
use Rattle.tmem_tree.specs.Run.{start}
use Rattle.tmem_tree.specs.Visited.{Ask, Visit, Probe, asks, visited}
use Rattle.tmem_tentative.specs.Right.{first_open, valued}
use Rattle.tmem_tree.specs.declared.settled.Settled.{Settled}
use Rattle.tmem_tree.specs.declared.settled.Settled.TheVariants.{Committed}
use Rattle.tmem_core.specs.Verdict.{map_of, verdict, serial_state, serial_effects}
use Rattle.tmem_core.specs.SettleAnswer.{judged}
use Rattle.tmem_core.specs.Taking.{IsTaken}
use Rattle.tmem_event.specs.declared.event.Event.{Event}
use Rattle.tmem_event.specs.declared.event.Event.TheVariants as event
use Rattle.tmem_event.specs.declared.event.Reply.{Reply}
use Rattle.tmem_event.specs.declared.event.Reply.TheVariants as reply
use Rattle.tmem_world.specs.OneByOne.{OneByOne}
use Rattle.tmem_world.specs.Replies.{reply_of}

-- What a store is opened with: how many variables and log slots it has, how many arguments each stored step takes, and what
-- the steps answer and the invariants mean.
pub record Setting : Type 0 where
  pub vars : ℕ
  pub slots : ℕ
  pub arities : List ℕ
  pub program : Program

-- one caller's attempt: a plan with the values that it has read so far and the number of its tests that were answered, or one that
-- has ended with all that it read
pub data AttemptModel : Type 0 where
  NoTransaction : AttemptModel
  Begun : (plan : Tx) → (reads : List (ℕ × ℤ)) → (answered : ℕ) → AttemptModel
  Ended : (plan : Tx) → (reads : List (ℕ × ℤ)) → AttemptModel

-- whether a world has a core, and whether that was closed by a failure
pub data CoreStatus : Type 0 where
  Open : CoreStatus
  Closed : CoreStatus
  Gone : CoreStatus

-- there is a core, open or closed
abbrev pub is_there : CoreStatus → Bool
is_there Gone = false
is_there _ = true

-- none of the sixteen attempts has a plan
unfoldable pub no_transactions : List AttemptModel
no_transactions = replicate 16 NoTransaction

-- A run so far. Its opening found one state, and these plans were committed since, in this order.
pub record WorldModel : Type 0 where
  pub opened : State
  pub committed : List Tx
  -- how many transactions are durable; a flush that answered `Unknown` may have made it the doubtful number
  pub durable : ℕ
  pub doubtful : ℕ
  -- which image is chosen, and how many log slots are used behind it
  pub position : Position
  -- how many calls of the device have failed
  pub failures : ℕ
  -- sixteen attempts
  pub attempts : List AttemptModel
  pub status : CoreStatus

-- the state after those of the committed transactions whose numbers are below n
abbrev pub cut : Program → WorldModel → ℕ → State
cut program m n = serial_state program m.opened (take (n - m.opened.count) m.committed)

-- the state after every committed transaction
abbrev pub present : Program → WorldModel → State
present program m = serial_state program m.opened m.committed

-- where a run begins
abbrev pub opening : State → Position → ℕ → WorldModel
opening s position failures = record {
  opened = s;
  committed = [];
  durable = s.count;
  doubtful = s.count;
  position = position;
  failures = failures;
  attempts = no_transactions;
  status = Open;
}

abbrev pub attempt_at : WorldModel → ℕ → AttemptModel
attempt_at m k = slice_index_or m.attempts k NoTransaction

abbrev pub holding : WorldModel → ℕ → AttemptModel → WorldModel
holding m k a = record m { attempts = slice_set m.attempts k a }

-- a plan is begun, or the least broken limit is named; for one that breaks none memory may be wanting
abbrev pub IsPlanFault : Setting → Tx → Fault → Type 0
IsPlanFault set tx fault.Memory = BreaksNone set.arities set.vars set.program.names tx
IsPlanFault set tx (fault.BadPlan cause) = IsLeastBroken set.arities set.vars set.program.names tx cause
IsPlanFault set tx _ = ⊥

abbrev pub AllowsBegin : Setting → WorldModel → ℕ → Tx → Reply → WorldModel → Type 0
AllowsBegin set m k tx reply.Begun m' = BreaksNone set.arities set.vars set.program.names tx × (m' ≡ holding m k (Begun tx [] 0))
AllowsBegin set m k tx (reply.Fault f) m' = IsPlanFault set tx f × (m' ≡ m)
AllowsBegin set m k tx _ m' = ⊥

-- the values that were read, and those of the map for all other variables
abbrev pub value_or : Option ℤ → ℤ → ℤ
value_or (Some n) other = n
value_or None other = other

abbrev pub overridden : List (ℕ × ℤ) → (ℕ → ℤ) → ℕ → ℤ
overridden reads values var = value_or (value_in reads var) (values var)

-- A plan goes on with the first that is open: it reads the present value of a variable, or an invariant is tested on the values that
-- the plan has for it there. A plan of which nothing is open has ended.
abbrev pub goes_on : Option Ask → Program → WorldModel → ℕ → Tx → List (ℕ × ℤ) → ℕ → Reply × WorldModel
goes_on (Some (Visit var)) program m k plan reads answered =
    let value = map_of (present program m) var in
    (reply.Read var value, holding m k (Begun plan (reads ++ (var, value) ∷ []) answered))
goes_on (Some (Probe name values)) program m k plan reads answered =
    (reply.Probed name (program.tests.test name values), holding m k (Begun plan reads (answered + 1)))
goes_on None program m k plan reads answered =
    let values = overridden reads (map_of (present program m)) in
    (reply.Ended, holding m k (Ended plan (valued values (visited program.steps program.tests plan values))))

-- what is open in a plan's run on the present map overridden by its reads
abbrev pub open_in : Program → WorldModel → Tx → List (ℕ × ℤ) → ℕ → Option Ask
open_in program m plan reads answered =
    first_open reads answered (asks program.steps program.tests plan (start (overridden reads (map_of (present program m)))))

-- a begun plan is run on the present map overridden by its reads; one that has ended stays so
abbrev pub AllowsTurn : Program → AttemptModel → WorldModel → ℕ → Reply → WorldModel → Type 0
AllowsTurn program NoTransaction m k r m' = (r ≡ reply.Idle) × (m' ≡ m)
AllowsTurn program (Ended plan reads) m k r m' = (r ≡ reply.Ended) × (m' ≡ m)
AllowsTurn program (Begun plan reads answered) m k r m' =
    ((r, m') ≡ goes_on (open_in program m plan reads answered) program m k plan reads answered)
    ⊎ ((r ≡ reply.Fault fault.Memory) × (m' ≡ m))

abbrev pub is_closed : CoreStatus → Bool
is_closed Open = false
is_closed _ = true

-- The run after the answer to a plan that has ended. An attempt that meets a fault stays.
abbrev pub settled_by : Result Settled Fault → WorldModel → ℕ → Tx → WorldModel
settled_by (Ok (Committed number registers)) m k plan = record (holding m k NoTransaction) { committed = m.committed ++ plan ∷ [] }
settled_by (Ok settled) m k plan = holding m k NoTransaction
settled_by (Err f) m k plan = m

-- A plan that has ended is answered by its verdict on the present state, while the values that it read are the present ones.
abbrev pub settle_result : Program → AttemptModel → WorldModel → ℕ → Reply × WorldModel
settle_result program NoTransaction m k = (reply.Idle, m)
settle_result program (Begun plan reads answered) m k = (reply.Idle, m)
settle_result program (Ended plan reads) m k =
    let answer = judged (is_closed m.status) (present program m) m.durable reads (verdict program plan (present program m)) in
    (reply_of answer, settled_by answer m k plan)

-- the effects that are not durable, the oldest first
abbrev pub not_durable : Program → WorldModel → List Effect
not_durable program m = drop (m.durable - m.opened.count) (serial_effects program m.opened m.committed)

-- A batch of the oldest effects that are not durable reaches this number: it takes the next one exactly while it has
-- fewer than 64 and the longest record would still fit.
pub record IsBatchEnd (program : Program) (m : WorldModel) (n : ℕ) : Type 0 where
  pub more : m.durable < n
  pub few : n ≤ m.durable + 64
  pub committed : n ≤ (present program m).count
  pub taken : IsTaken (not_durable program m) (take (n - m.durable) (not_durable program m))

-- A batch is made durable, or the device fails and the core is closed. After an unknown outcome the doubtful number is
-- what the batch would have reached.
abbrev pub AllowsFlushOfSome : Program → WorldModel → Reply → WorldModel → Type 0
AllowsFlushOfSome program m (reply.Durable n) m' =
    IsBatchEnd program m n × (m' ≡ record m { durable = n; doubtful = n; position = next_slot m.position })
AllowsFlushOfSome program m (reply.Fault fault.Device) m' = m' ≡ record m { status = Closed; failures = after_fault m.failures }
AllowsFlushOfSome program m (reply.Fault fault.Unknown) m' =
    (n : ℕ) × IsBatchEnd program m n × (m' ≡ record m { status = Closed; failures = after_fault m.failures; doubtful = n })
AllowsFlushOfSome program m _ m' = ⊥

-- Nothing is written where every transaction is durable, nor where each of so many log slots is used.
abbrev pub AllowsFlush : Program → ℕ → CoreStatus → WorldModel → Reply → WorldModel → Type 0
AllowsFlush program slots Open m r m' =
    MatchBool (nat_eq m.durable (present program m).count)
    ((r ≡ reply.Durable m.durable) × (m' ≡ m))
    (MatchBool (nat_eq m.position.used slots) ((r ≡ reply.Fault fault.LogFull) × (m' ≡ m)) (AllowsFlushOfSome program m r m'))
AllowsFlush program slots _ m r m' = (r ≡ reply.Fault fault.Closed) × (m' ≡ m)

-- The durable state becomes the next image, and every log slot is free again; or the device fails and the core is closed.
-- No transaction is durable that was not, and none is doubtful.
abbrev pub AllowsNextImage : WorldModel → Reply → WorldModel → Type 0
AllowsNextImage m reply.Checkpointed m' = m' ≡ record m { position = next_image m.position }
AllowsNextImage m (reply.Fault fault.Device) m' = m' ≡ record m { status = Closed; failures = after_fault m.failures }
AllowsNextImage m (reply.Fault fault.Unknown) m' = m' ≡ record m { status = Closed; failures = after_fault m.failures }
AllowsNextImage m _ m' = ⊥

-- Nothing is written where no generation follows on the image's.
abbrev pub AllowsCheckpoint : CoreStatus → WorldModel → Reply → WorldModel → Type 0
AllowsCheckpoint Open m r m' = MatchBool (nat_eq (m.position.generation + 1) (2 ^ 64)) ((r ≡ reply.Fault fault.Spent) × (m' ≡ m)) (AllowsNextImage m r m')
AllowsCheckpoint _ m r m' = (r ≡ reply.Fault fault.Closed) × (m' ≡ m)

-- without a core
abbrev pub dropped : WorldModel → WorldModel
dropped m = record m { attempts = no_transactions; status = Gone }

-- While no call of the device has failed, the device is at the position that the journal has.
abbrev pub KeepsPosition : CoreStatus → Position → Position → Type 0
KeepsPosition Open known position = position ≡ known
KeepsPosition _ known position = ⊤

-- the image and the log of a content, which make this state, are at that position
abbrev pub IsReadOff : Setting → State → Position → Type 0
IsReadOff set s position = (content : List ℕ) × ContentRepresents set.vars set.slots position s content

-- Opening the device again finds the durable number or the doubtful one, and keeps the transactions below it. Which
-- image is chosen, and how many log slots are used, is read off the content that the opening leaves. That image is of version 2, since
-- the first opening found such an image or wrote one: so no later opening is refused for want of a generation.
abbrev pub AllowsReopen : Setting → WorldModel → Reply → WorldModel → Type 0
AllowsReopen set m (reply.Opened n) m' =
    ((n ≡ m.durable) ⊎ (n ≡ m.doubtful))
    × ((position : Position) × KeepsPosition m.status m.position position × (position.version ≡ Two) × IsReadOff set (cut set.program m n) position × (m' ≡ record m { committed = take (n - m.opened.count) m.committed; durable = n; doubtful = n; position = position; attempts = no_transactions; status = Open }))
AllowsReopen set m (reply.Fault fault.Memory) m' = m' ≡ dropped m
AllowsReopen set m (reply.Fault fault.Device) m' = m' ≡ record (dropped m) { failures = after_fault m.failures }
AllowsReopen set m _ m' = ⊥

-- without a core every event but opening is refused
abbrev pub WithCore : CoreStatus → WorldModel → Reply → WorldModel → Type 0 → Type 0
WithCore Gone m r m' allowed = (r ≡ reply.Fault fault.Closed) × (m' ≡ m)
WithCore _ m r m' allowed = allowed

-- In this run the event may be answered so, and leads to that run.
abbrev pub Allows : Setting → WorldModel → Event → Reply → WorldModel → Type 0
Allows set m (event.Begin k tx) r m' = WithCore m.status m r m' (AllowsBegin set m k tx r m')
Allows set m (event.Turn k) r m' = WithCore m.status m r m' (AllowsTurn set.program (attempt_at m k) m k r m')
Allows set m (event.Settle k) r m' = WithCore m.status m r m' ((r, m') ≡ settle_result set.program (attempt_at m k) m k)
Allows set m event.Flush r m' = WithCore m.status m r m' (AllowsFlush set.program set.slots m.status m r m')
Allows set m event.Checkpoint r m' = WithCore m.status m r m' (AllowsCheckpoint m.status m r m')
Allows set m event.Look r m' = WithCore m.status m r m' ((r ≡ reply.Looked m.durable) × (m' ≡ m))
Allows set m event.Reopen r m' = AllowsReopen set m r m'

-- These events may be answered so, one after another.
abbrev pub Run : Setting → WorldModel → List Event → List Reply → WorldModel → Type 0
Run set m es rs m' = OneByOne (Allows set) m es rs m'
