-- How a served store answers what it reads, line by line, and when an answer is printed.
use Rattle.std.specs.Prelude.{◌≡◌, ◌≢◌, ◌⊎◌, ◌+◌, ◌%◌, ◌^◌, ◌||◌, ℕ, ℤ, Bool, true, false, nat_le, nat_lt, is_some, List, [], ◌∷◌, ◌++◌, length, map, flat_map, All, Option, Some, None, if◌then◌else◌, MatchBool}
use Rattle.std.specs.List.{list_any}
use Rattle.std.specs.Ordering.{int_eq}
use Rattle.tmem_fault.specs.declared.fault.Cause.{Cause}
use Rattle.tmem_fault.specs.declared.fault.Fault.TheVariants as fault
use Rattle.tmem_seats.specs.Settling.{SeesMore}
use Rattle.tmem_spine.specs.Views.{PassRoleView}
use Rattle.tmem_tree.specs.declared.tx.Tx.{Tx}
use Rattle.tmem_requests.specs.Fits.{FitsStore}
use Rattle.tmem_requests.specs.Reasons.{IsReason}
use Rattle.tmem_requests.specs.Requests.{IsRequestText}
use Rattle.tmem_answers.specs.declared.answer.Answer.{Answer}
use Rattle.tmem_answers.specs.declared.answer.Answer.TheVariants as answer
use Rattle.tmem_answers.specs.declared.answer.Stats.{Stats}
use Rattle.tmem_requests.specs.declared.refusal.NoRequest.{NoRequest}
use Rattle.tmem_requests.specs.declared.request.RequestBody.{RequestBody}
use Rattle.tmem_requests.specs.declared.request.RequestBody.TheVariants as ask
use Rattle.tmem_requests.specs.declared.why.RequestFlaw.TheVariants.{TooLong}
use Rattle.tmem_lines.specs.Lines.{line, IsUnbroken, HoldsRestOf}
use Rattle.tmem_lines.specs.Views.{LinesView}
use Rattle.tmem_forms.specs.TxForms.{tx_form}
use Rattle.tmem_desk.specs.Asking.{Store, IsNoPlan, IsPlanOf, Tries, AnswersAsk}
use Rattle.tmem_desk.specs.Counts.{counts_after}
use Rattle.tmem_desk.specs.Desks.{DeskView}
use Rattle.tmem_desk.specs.Keeping.{kept_under, with_kept}
use Rattle.tmem_desk.specs.Leading.{first_puts}
use Rattle.tmem_desk.specs.Numbering.{with_numbers}
use Rattle.tmem_desk.specs.Steps.{LabelledSteps, Repeats}
use Rattle.tmem_desk.specs.Told.{answer_told, refused, told_lines}
use Rattle.tmem_desk.specs.declared.told.Told.{Told}

-- what is told more
abbrev pub tells : DeskView → List Told → DeskView
tells v more = record v { told = v.told ++ more; counts = counts_after v.counts more }

-- a pass that knows more
abbrev pub by : DeskView → PassRoleView → DeskView
by v pass = record v { pass = pass }

-- A request that may wait was tried: it is answered, or waits behind the others, of which there may be 1024.
abbrev pub tried : ℤ → RequestBody → Option Answer → DeskView → DeskView
tried id ask (Some given) v = tells v (answer_told id given ∷ [])
tried id ask None v =
    if nat_lt (length v.waiting) 1024
    then record v { waiting = v.waiting ++ (id, ask) ∷ [] }
    else tells v (answer_told id (answer.Fault fault.Full) ∷ [])

-- whether a request of this id waits
abbrev pub waits : ℤ → List (ℤ × RequestBody) → Bool
waits id all = list_any (λ (w : ℤ × RequestBody). int_eq w.0 id) all

-- without the first request of this id
abbrev pub without : ℤ → List (ℤ × RequestBody) → List (ℤ × RequestBody)
without id [] = []
without id (w ∷ ws) = if int_eq w.0 id then ws else w ∷ without id ws

-- The first request of the other id that waits is answered that it was cancelled, and then this one that it was found; or there is none.
abbrev pub cancelled : ℤ → ℤ → DeskView → DeskView
cancelled id other v =
    if waits other v.waiting
    then tells (record v { waiting = without other v.waiting }) (answer_told other answer.Cancelled ∷ answer_told id (answer.Found true) ∷ [])
    else tells v (answer_told id (answer.Found false) ∷ [])

-- a request that may wait
pub record MayWait (s : Store) (id : ℤ) (ask : RequestBody) (v w : DeskView) : Type 0 where
  pub outcome : Option Answer
  pub tries : Tries s ask v.pass outcome w.pass
  pub is : w ≡ tried id ask outcome (by v w.pass)

-- a request that is answered at once
pub record IsAnsweredAtOnce (s : Store) (id : ℤ) (ask : RequestBody) (v w : DeskView) : Type 0 where
  pub given : Answer
  pub answers : AnswersAsk s ask v.pass given w.pass
  pub is : w ≡ tells (by v w.pass) (answer_told id given ∷ [])

-- the transaction of a request is no plan
pub record HasNoPlan (s : Store) (id : ℤ) (tx : Tx) (v w : DeskView) : Type 0 where
  pub cause : Cause
  pub least : IsNoPlan s tx cause
  pub is : w ≡ tells v (answer_told id (answer.Fault (fault.BadPlan cause)) ∷ [])

-- A transaction is kept under a word, in place of the one that was kept under it, if there was one; or 256 others are kept.
abbrev pub kept_as : ℤ → List ℕ → Tx → DeskView → DeskView
kept_as id word tx v =
    if is_some (kept_under word v.kept) || nat_lt (length v.kept) (2 ^ 8)
    then tells (record v { kept = with_kept word tx v.kept }) (answer_told id (answer.Kept word) ∷ [])
    else tells v (answer_told id (answer.Fault fault.Full) ∷ [])

-- A transaction that was kept is run as `do`, a copy of it, in which these numbers are in the place of those of the first Puts.
pub record RunsCopy (s : Store) (id : ℤ) (numbers : List ℤ) (tx : Tx) (v w : DeskView) : Type 0 where
  pub copy : Tx
  pub same : tx_form copy ≡ tx_form tx
  pub takes : HasNoPlan s id copy v w ⊎ MayWait s id (ask.Do (with_numbers numbers copy)) v w

-- the same, where it begins with so many Puts
abbrev pub RunsWith : Store → ℤ → List ℤ → Tx → DeskView → DeskView → Type 0
RunsWith s id numbers tx v w =
    MatchBool (nat_le (length numbers) (first_puts tx)) (RunsCopy s id numbers tx v w) (w ≡ tells v (answer_told id (answer.Found false) ∷ []))

-- the one that is kept under a word; or there is none
abbrev pub Runs : Store → ℤ → List ℤ → Option Tx → DeskView → DeskView → Type 0
Runs s id numbers (Some tx) v w = RunsWith s id numbers tx v w
Runs s id numbers None v w = w ≡ tells v (answer_told id (answer.Found false) ∷ [])

-- What was counted is told, and how many wait and are kept. (Of flushes, checkpoints and slots no clause speaks.)
pub record TellsStats (id : ℤ) (v w : DeskView) : Type 0 where
  pub stats : Stats
  pub committed : stats.committed ≡ v.counts.committed
  pub refused : stats.refused ≡ v.counts.refused
  pub conflicts : stats.conflicts ≡ v.counts.conflicts
  pub waiting : stats.waiting ≡ length v.waiting
  pub kept : stats.kept ≡ length v.kept
  pub is : w ≡ tells v (answer_told id (answer.Stats stats) ∷ [])

-- From v, this request leads to w.
abbrev pub Takes : Store → ℤ → RequestBody → DeskView → DeskView → Type 0
Takes s id (ask.Do tx) v w = HasNoPlan s id tx v w ⊎ MayWait s id (ask.Do tx) v w
Takes s id (ask.Changed reads) v w = MayWait s id (ask.Changed reads) v w
Takes s id (ask.Cancel other) v w = w ≡ cancelled id other v
Takes s id (ask.Keep word tx) v w = HasNoPlan s id tx v w ⊎ (IsPlanOf s tx × (w ≡ kept_as id word tx v))
Takes s id (ask.Run word numbers) v w = Runs s id numbers.items (kept_under word v.kept) v w
Takes s id ask.Stats v w = TellsStats id v w
Takes s id ask v w = IsAnsweredAtOnce s id ask v w

-- one line more came, by a number of 64 bits
abbrev pub one_line_more : DeskView → DeskView
one_line_more v = record v { lines = (v.lines + 1) % 2 ^ 64 }

-- The line is a request that can be made of the store.
abbrev pub IsAskedOf : Store → ℤ → RequestBody → List ℕ → Type 0
IsAskedOf s id ask text = IsRequestText id ask text × FitsStore (length s.opening.values) s.program.names s.always ask

-- it is one, and is taken
pub record TakesLine (s : Store) (text : List ℕ) (v w : DeskView) : Type 0 where
  pub id : ℤ
  pub ask : RequestBody
  pub is : IsAskedOf s id ask text
  pub takes : Takes s id ask (one_line_more v) w

-- it is none, and that is told, with its number and a reason that is true
pub record RefusesLine (s : Store) (text : List ℕ) (v w : DeskView) : Type 0 where
  pub none : (id : ℤ) (ask : RequestBody) → ¬ IsAskedOf s id ask text
  pub refusal : NoRequest
  pub reason : IsReason (length s.opening.values) s.program.names s.always text refusal
  pub is : w ≡ tells (one_line_more v) (refused (one_line_more v).lines refusal ∷ [])

-- it is too long to be one
pub record RefusesLong (v w : DeskView) : Type 0 where
  pub refusal : NoRequest
  pub why : refusal.why ≡ TooLong
  pub is : w ≡ tells (one_line_more v) (refused (one_line_more v).lines refusal ∷ [])

-- From v, a line leads to w that is not too long.
abbrev pub TakesShort : Store → List ℕ → DeskView → DeskView → Type 0
TakesShort s text v w = TakesLine s text v w ⊎ RefusesLine s text v w

-- From v, a line leads to w.
abbrev pub TakesText : Store → List ℕ → DeskView → DeskView → Type 0
TakesText s text v w = MatchBool (nat_lt 65536 (length text)) (RefusesLong v w) (TakesShort s text v w)

-- The first request that waits was tried again: it is answered, or waits behind the others.
abbrev pub tried_again : ℤ → RequestBody → Option Answer → List (ℤ × RequestBody) → DeskView → DeskView
tried_again id ask (Some given) rest v = tells (record v { waiting = rest }) (answer_told id given ∷ [])
tried_again id ask None rest v = record v { waiting = rest ++ (id, ask) ∷ [] }

pub record TriesFirst (s : Store) (v w : DeskView) : Type 0 where
  pub id : ℤ
  pub ask : RequestBody
  pub rest : List (ℤ × RequestBody)
  pub first : v.waiting ≡ (id, ask) ∷ rest
  pub outcome : Option Answer
  pub tries : Tries s ask v.pass outcome w.pass
  pub is : w ≡ tried_again id ask outcome rest (by v w.pass)

abbrev pub TriesNext : Store → DeskView → DeskView → Type 0
TriesNext s v w = ((v.waiting ≡ []) × (w ≡ v)) ⊎ TriesFirst s v w

-- As many as wait are tried again: each once, in order.
abbrev pub Round : Store → DeskView → DeskView → Type 0
Round s v w = Repeats (TriesNext s) (length v.waiting) v w

-- Those that wait are tried again, round by round, until a round answers none of them.
pub record Wakes (s : Store) (v w : DeskView) : Type 0 where
  pub rounds : ℕ
  pub met : DeskView
  pub before : Repeats (Round s) rounds v met
  pub last : Round s met w
  pub quiet : length w.told ≡ length met.told

-- The text is these lines, each with its line break, and then the beginning of one, which what is held represents.
pub record Splits (text : List ℕ) (texts : List (List ℕ)) (held : LinesView) : Type 0 where
  pub rest : List ℕ
  pub is : text ≡ flat_map line texts ++ rest
  pub unbroken : All IsUnbroken texts
  pub last : IsUnbroken rest
  pub stands : HoldsRestOf held rest

-- Each line of a text is taken that has ended.
pub record TakesAll (s : Store) (text : List ℕ) (held : LinesView) (v w : DeskView) : Type 0 where
  pub texts : List (List ℕ)
  pub splits : Splits text texts held
  pub takes : LabelledSteps (TakesText s) texts v w

-- Those that wait are tried again, and then all that the pass knows is durable, as it saw: what was committed, and each state that an
-- answer was made in.
pub record Finishes (s : Store) (v w : DeskView) : Type 0 where
  pub woken : DeskView
  pub wakes : Wakes s v woken
  pub sees : SeesMore woken.pass w.pass
  pub all : w.pass.seen ≡ w.pass.known
  pub is : w ≡ by woken w.pass

-- Each line of a text is taken that has ended, and then all is finished.
pub record RunsPiece (s : Store) (text : List ℕ) (held : LinesView) (v w : DeskView) : Type 0 where
  pub taken : DeskView
  pub takes : TakesAll s text held v taken
  pub finishes : Finishes s taken w

-- A piece of input is served: all that is told is printed, once it is durable.
pub record ServesPiece (s : Store) (text : List ℕ) (held : LinesView) (v w : DeskView) (prints : List ℕ → Type 0) : Type 0 where
  pub ran : DeskView
  pub runs : RunsPiece s text held v ran
  pub printed : prints (told_lines ran.told)
  pub is : w ≡ record ran { told = [] }

-- those that wait are told that the store is closed
abbrev pub closed : List (ℤ × RequestBody) → List Told
closed all = map (λ (w : ℤ × RequestBody). answer_told w.0 (answer.Fault fault.Closed)) all

-- the same for each that waits, and none waits any more
abbrev pub with_closed : DeskView → DeskView
with_closed v = tells (record v { waiting = [] }) (closed v.waiting)

-- What is left at the end of the input is taken: nothing, or a line that lacks its line break.
abbrev pub TakesLast : Store → List ℕ → DeskView → DeskView → Type 0
TakesLast s text v w = ((text ≡ []) × (w ≡ v)) ⊎ ((text ≢ []) × TakesText s text v w)

pub record RunsLast (s : Store) (text : List ℕ) (v w : DeskView) : Type 0 where
  pub taken : DeskView
  pub takes : TakesLast s text v taken
  pub finishes : Finishes s taken w

-- The same, and what still waits is told that the store is closed.
pub record RunsEnd (s : Store) (text : List ℕ) (v w : DeskView) : Type 0 where
  pub ran : DeskView
  pub runs : RunsLast s text v ran
  pub is : w ≡ with_closed ran

-- The end of the input: what still waits is told that the store is closed.
pub record ServesEnd (s : Store) (text : List ℕ) (v w : DeskView) (prints : List ℕ → Type 0) : Type 0 where
  pub ran : DeskView
  pub runs : RunsLast s text v ran
  pub printed : prints (told_lines (with_closed ran).told)
  pub is : w ≡ record (with_closed ran) { told = [] }
