-- What is printed where serving ends early.
use Rattle.std.specs.Prelude.{◌≡◌, ◌≢◌, ◌⊎◌, ◌+◌, ℕ, ℤ, nat_lt, Bool, List, [], ◌∷◌, ◌++◌, length, map, All, Some, count_by, flat_map, MatchBool}
use Rattle.tmem_fault.specs.declared.fault.Fault.{Fault}
use Rattle.tmem_fault.specs.declared.fault.Fault.TheVariants.{Memory}
use Rattle.tmem_lines.specs.Lines.{line, IsLine, IsUnbroken, HoldsRestOf}
use Rattle.tmem_lines.specs.Views.{LinesView}
use Rattle.tmem_seats.specs.Settling.{SeesMore}
use Rattle.tmem_spine.specs.History.{count}
use Rattle.tmem_spine.specs.Views.{PassRoleView}
use Rattle.tmem_answers.specs.declared.answer.Answer.TheVariants as answer
use Rattle.tmem_requests.specs.declared.request.RequestBody.{RequestBody}
use Rattle.tmem_desk.specs.Asking.{Store}
use Rattle.tmem_desk.specs.Desks.{DeskView}
use Rattle.tmem_desk.specs.Due.{LinesCount, answers_any_of, due_of}
use Rattle.tmem_desk.specs.Serving.{IsAskedOf, RefusesLine, RefusesLong, Splits, TakesText, TriesNext, by, one_line_more, tells, with_closed}
use Rattle.tmem_desk.specs.Steps.{LabelledSteps, Repeats}
use Rattle.tmem_desk.specs.Told.{answer_told, told_last, told_lines, TellsOnly, TellsWithin}
use Rattle.tmem_desk.specs.declared.failure.DeskFailure.{DeskFailure}
use Rattle.tmem_desk.specs.declared.failure.DeskFailure.TheVariants.{Output}
use Rattle.tmem_desk.specs.declared.failure.DeskFailure.TheVariants as failure
use Rattle.tmem_desk.specs.declared.told.Told.{Told}

-- Where memory does not suffice, no request is told of anything but that.
abbrev pub EndsBy : (List ℕ → Type 0) → DeskFailure → Type 0
EndsBy prints (failure.Fault fault) = (all : List Told) × (fault ≡ Memory → All (TellsOnly Memory) all) × prints (told_lines all)
EndsBy prints Output = Unit {0}

-- What may be printed: all that the pass knows is durable, or each answer is this fault, or rests on what the pass saw durable.
abbrev pub MayPrint : ℕ → PassRoleView → List Told → Type 0
MayPrint start pass all = (pass.seen ≡ pass.known) ⊎ ((fault : Fault) × All (TellsWithin (count start pass.seen) fault) all)

-- ---- how far it ran

-- nothing is changed but what the pass saw and knows
pub record LearnsOnly (v w : DeskView) : Type 0 where
  pub is : w ≡ by v w.pass
  pub sees : SeesMore v.pass w.pass

-- the same, but that the first that waits goes behind the others
pub record GoesBehind (v w : DeskView) : Type 0 where
  pub first : ℤ × RequestBody
  pub others : List (ℤ × RequestBody)
  pub waiting : v.waiting ≡ first ∷ others
  pub is : w ≡ record (by v w.pass) { waiting = others ++ first ∷ [] }
  pub sees : SeesMore v.pass w.pass

-- a request of this id is answered by a fault, and else nothing is changed but what the pass saw and knows
pub record AnswersOnly (id : ℤ) (v w : DeskView) : Type 0 where
  pub fault : Fault
  pub is : w ≡ tells (by v w.pass) (answer_told id (answer.Fault fault) ∷ [])
  pub sees : SeesMore v.pass w.pass

-- this line is a request, and is answered so
pub record AnswersLine (s : Store) (text : List ℕ) (v w : DeskView) : Type 0 where
  pub id : ℤ
  pub ask : RequestBody
  pub asked : IsAskedOf s id ask text
  pub only : AnswersOnly id (one_line_more v) w

-- Those that wait were tried again. After so many turns an attempt for the first of them met a fault, or a flush did.
pub record TriesUntil (s : Store) (v w : DeskView) : Type 0 where
  pub turns : ℕ
  pub met : DeskView
  pub tries : Repeats (TriesNext s) turns v met
  pub stops : LearnsOnly met w ⊎ GoesBehind met w

-- These lines were taken, and the store could not go on behind them.
pub record StopsBehind (s : Store) (texts : List (List ℕ)) (v w : DeskView) : Type 0 where
  pub taken : DeskView
  pub takes : LabelledSteps (TakesText s) texts v taken
  pub until : TriesUntil s taken w

-- These lines were taken but for the last one, whose request met the fault.
pub record StopsWithin (s : Store) (texts : List (List ℕ)) (v w : DeskView) : Type 0 where
  pub earlier : List (List ℕ)
  pub last : List ℕ
  pub are : texts ≡ earlier ++ last ∷ []
  pub short : IsLine last
  pub met : DeskView
  pub takes : LabelledSteps (TakesText s) earlier v met
  pub answers : AnswersLine s last met w

-- From v on, the store could not go on at w, at the last of these lines or behind them.
abbrev pub Stops : Store → List (List ℕ) → DeskView → DeskView → Type 0
Stops s texts v w = StopsWithin s texts v w ⊎ StopsBehind s texts v w

-- ---- what is told then

-- No line is run any more: a request is answered by a fault, and what is none is told to be none.
abbrev pub PassesShort : Store → List ℕ → DeskView → DeskView → Type 0
PassesShort s text v w = AnswersLine s text v w ⊎ RefusesLine s text v w

abbrev pub PassesText : Store → List ℕ → DeskView → DeskView → Type 0
PassesText s text v w = MatchBool (nat_lt 65536 (length text)) (RefusesLong v w) (PassesShort s text v w)

-- At mid the store could not go on, and behind that these lines were passed over. Then each that waited was told that the store is closed;
-- and of all that was told by then, an answer that rests on what w saw durable was printed as it was, and each other one as this fault. So,
-- of whatever ids, as many are told as were due and as lines count.
pub record TellsBehind (s : Store) (texts : List (List ℕ)) (mid : DeskView) (fault : Fault) (w : DeskView) (prints : List ℕ → Type 0) : Type 0 where
  pub over : DeskView
  pub passes : LabelledSteps (PassesText s) texts mid over
  pub sees : SeesMore over.pass w.pass
  pub all : List Told
  pub told : all ≡ map (told_last (Some (count s.start w.pass.seen)) fault) (with_closed over).told
  pub each : (among : ℤ → Bool) (others : Bool) (n : ℕ) → LinesCount s among others texts n → count_by (answers_any_of among others) all ≡ due_of among others mid + n
  pub printed : prints (told_lines all)

-- The same from v on, of all these lines: at the last of those that began, or behind it, the store could not go on.
pub record TellsEach (s : Store) (texts : List (List ℕ)) (v : DeskView) (fault : Fault) (w : DeskView) (prints : List ℕ → Type 0) : Type 0 where
  pub began : List (List ℕ)
  pub later : List (List ℕ)
  pub are : texts ≡ began ++ later
  pub mid : DeskView
  pub stops : Stops s began v mid
  pub tells : TellsBehind s later mid fault w prints
  pub each : (among : ℤ → Bool) (others : Bool) (n : ℕ) → LinesCount s among others texts n → count_by (answers_any_of among others) tells.all ≡ due_of among others v + n

-- of a text, no more than the beginning is printed
abbrev pub PrintsBeginning : (List ℕ → Type 0) → List ℕ → Type 0
PrintsBeginning prints text = (part : List ℕ) × (rest : List ℕ) × (text ≡ part ++ rest) × prints part

-- no more than the beginning of the lines of these is printed
abbrev pub PrintsPart : (List ℕ → Type 0) → List Told → Type 0
PrintsPart prints all = PrintsBeginning prints (told_lines all)

-- The beginning is printed of a want of memory, and of nothing else: who is told of it, and whether anybody is, stays open.
abbrev pub PrintsWant : (List ℕ → Type 0) → Type 0
PrintsWant prints = (all : List Told) × All (TellsOnly Memory) all × PrintsPart prints all

-- The beginning is printed of what is told where the store cannot go on, by another fault than a want of memory.
pub record PrintsWhy (AreLines : List (List ℕ) → Type 0) (Tells : List (List ℕ) → Fault → (List ℕ → Type 0) → Type 0) (prints : List ℕ → Type 0) : Type 0 where
  pub fault : Fault
  pub other : fault ≢ Memory
  pub texts : List (List ℕ)
  pub lines : AreLines texts
  pub tells : Tells texts fault (PrintsBeginning prints)

-- The output failed. No more than the beginning was printed, and maybe nothing: of what is told once all ran and is durable, as w saw; or
-- where the store cannot go on; or of a want of memory, where who is told stays open.
abbrev pub OutputFailed : Store → (List (List ℕ) → Type 0) → (DeskView → Type 0) → DeskView → DeskView → (List ℕ → Type 0) → Type 0
OutputFailed s AreLines Ran v w prints =
    ((ran : DeskView) × Ran ran × (ran.pass ≡ w.pass) × PrintsPart prints ran.told)
    ⊎ (PrintsWhy AreLines (λ (texts : List (List ℕ)) (fault : Fault) (some : List ℕ → Type 0). TellsEach s texts v fault w some) prints ⊎ PrintsWant prints)

-- Where the store cannot go on, each is told, of these lines: unless memory did not suffice, or the output failed.
abbrev pub TellsAll : Store → (List (List ℕ) → Type 0) → (DeskView → Type 0) → DeskView → DeskView → (List ℕ → Type 0) → DeskFailure → Type 0
TellsAll s AreLines Ran v w prints (failure.Fault fault) = (fault ≡ Memory) ⊎ ((texts : List (List ℕ)) × AreLines texts × TellsEach s texts v fault w prints)
TellsAll s AreLines Ran v w prints Output = OutputFailed s AreLines Ran v w prints

-- what is left at the end of the input: nothing, or a line that lacks its line break
abbrev pub IsLast : List ℕ → List (List ℕ) → Type 0
IsLast text texts = ((text ≡ []) × (texts ≡ [])) ⊎ ((text ≢ []) × (texts ≡ text ∷ []))

-- ---- on the way there

-- What is told of the lines that came behind mid, where the store could not go on, unless memory did not suffice.
abbrev pub TellsWhy : Store → (List (List ℕ) → Type 0) → DeskView → DeskView → (List ℕ → Type 0) → DeskFailure → Type 0
TellsWhy s AreLines mid w prints (failure.Fault fault) = (fault ≡ Memory) ⊎ ((texts : List (List ℕ)) × AreLines texts × TellsBehind s texts mid fault w prints)
TellsWhy s AreLines mid w prints Output =
    PrintsWhy AreLines (λ (texts : List (List ℕ)) (fault : Fault) (some : List ℕ → Type 0). TellsBehind s texts mid fault w some) prints ⊎ PrintsWant prints

-- memory did not suffice, or this holds
abbrev pub OrMemory : Fault → Type 0 → Type 0
OrMemory fault P = (fault ≡ Memory) ⊎ P

-- what is told could not be printed: for want of memory, or the output failed
abbrev pub IsUnprinted : (List ℕ → Type 0) → List Told → DeskFailure → Type 0
IsUnprinted prints all (failure.Fault fault) = fault ≡ Memory
IsUnprinted prints all Output = PrintsPart prints all

-- memory did not suffice to tell each why the store cannot go on, or the output failed
abbrev pub IsMemoryOrOutput : (List ℕ → Type 0) → DeskFailure → Type 0
IsMemoryOrOutput prints (failure.Fault fault) = fault ≡ Memory
IsMemoryOrOutput prints Output = PrintsWant prints

-- Some lines of a text came, at the last of which, or behind them, the store could not go on, and what is held is the rest.
pub record TakesPart (s : Store) (text : List ℕ) (held : LinesView) (v w : DeskView) : Type 0 where
  pub texts : List (List ℕ)
  pub rest : List ℕ
  pub is : text ≡ flat_map line texts ++ rest
  pub unbroken : All IsUnbroken texts
  pub stands : HoldsRestOf held rest
  pub stops : Stops s texts v w

-- Each line of a text that has ended is passed over.
pub record PassesAll (s : Store) (text : List ℕ) (held : LinesView) (v w : DeskView) : Type 0 where
  pub texts : List (List ℕ)
  pub splits : Splits text texts held
  pub passes : LabelledSteps (PassesText s) texts v w

-- What is left at the end of the input came, and at it, or behind it, the store could not go on.
pub record TakesRest (s : Store) (text : List ℕ) (v w : DeskView) : Type 0 where
  pub texts : List (List ℕ)
  pub last : IsLast text texts
  pub stops : Stops s texts v w
