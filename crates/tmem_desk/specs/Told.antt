-- What is printed, a line each.
use Rattle.std.specs.Prelude.{◌≡◌, ◌⊎◌, ℕ, ℤ, nat_le, nat_lt, Bool, true, false, List, Option, Some, None, flat_map, if◌then◌else◌}
use Rattle.tmem_fault.specs.declared.fault.Fault.{Fault}
use Rattle.tmem_lines.specs.Lines.{line}
use Rattle.tmem_tree.specs.declared.settled.Settled.TheVariants.{Committed, Seen}
use Rattle.tmem_answers.specs.Answers.{answer_line}
use Rattle.tmem_requests.specs.Refusals.{no_request_line}
use Rattle.tmem_answers.specs.declared.answer.Answer.{Answer}
use Rattle.tmem_answers.specs.declared.answer.Answer.TheVariants as answer
use Rattle.tmem_requests.specs.declared.refusal.NoRequest.{NoRequest}
use Rattle.tmem_desk.specs.declared.told.Told.{Told}
use Rattle.tmem_desk.specs.declared.told.Told.TheVariants as told

-- the request of this id is answered so
abbrev pub answer_told : ℤ → Answer → Told
answer_told id given = told.Answer (record { id = id; answer = given })

-- the line of this number is no request
abbrev pub refused : ℕ → NoRequest → Told
refused number refusal = told.NoRequest (record { line = number; refusal = refusal })

-- its line, with the line break
abbrev pub told_line : Told → List ℕ
told_line (told.Answer a) = line (answer_line a.id a.answer)
told_line (told.NoRequest n) = line (no_request_line n.line n.refusal)

-- the lines of several, in order
abbrev pub told_lines : List Told → List ℕ
told_lines all = flat_map told_line all

-- whether an answer names transactions that it rests on, and all of them are among the first so many
abbrev pub rests_within : ℕ → Answer → Bool
rests_within n (answer.Settled (Committed number registers)) = nat_lt number n
rests_within n (answer.Settled (Seen at registers)) = nat_le at n
rests_within n (answer.Values number values) = nat_le number n
rests_within n (answer.State number names values) = nat_le number n
rests_within n (answer.Durable number) = nat_le number n
rests_within n given = false

-- What a request is answered where the store cannot go on: as it was, if that rests on the first so many transactions alone, and else by
-- this fault.
abbrev pub last_answer : Option ℕ → Fault → Answer → Answer
last_answer (Some n) fault given = if rests_within n given then given else answer.Fault fault
last_answer None fault given = answer.Fault fault

-- what is told then
abbrev pub told_last : Option ℕ → Fault → Told → Told
told_last durable fault (told.Answer a) = answer_told a.id (last_answer durable fault a.answer)
told_last durable fault (told.NoRequest n) = told.NoRequest n

-- it tells a request of nothing but this fault
abbrev pub TellsOnly : Fault → Told → Type 0
TellsOnly fault (told.Answer a) = a.answer ≡ answer.Fault fault
TellsOnly fault (told.NoRequest n) = Unit {0}

-- or of what rests on the first so many transactions
abbrev pub TellsWithin : ℕ → Fault → Told → Type 0
TellsWithin n fault (told.Answer a) = (a.answer ≡ answer.Fault fault) ⊎ (rests_within n a.answer ≡ true)
TellsWithin n fault (told.NoRequest refusal) = Unit {0}
