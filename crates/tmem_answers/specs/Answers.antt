-- The line that answers a request, and the first line.
use Rattle.std.specs.Prelude.{ℕ, ℤ, pos, Bool, true, false, List, [], ◌∷◌, ◌++◌, flat_map, codes, if◌then◌else◌}
use Rattle.std.specs.Fmt.{decimal, signed_decimal}
use Rattle.std.specs.List.{list_all}
use Rattle.std.specs.Ordering.{int_eq}
use Rattle.tmem_fault.specs.Fault.{cause_number}
use Rattle.tmem_fault.specs.declared.fault.Cause.{Cause}
use Rattle.tmem_fault.specs.declared.fault.Cause.TheVariants.{TooDeep, TooManyNodes, TooManyWrites, TooManyChecks, BadRegister, BadVariable, BadStep, BadArguments, UnknownName, TooManyRetires}
use Rattle.tmem_fault.specs.declared.fault.Fault.{Fault}
use Rattle.tmem_fault.specs.declared.fault.Fault.TheVariants as fault
use Rattle.tmem_tree.specs.declared.settled.Settled.{Settled}
use Rattle.tmem_tree.specs.declared.settled.Settled.TheVariants as settled
use Rattle.tmem_answers.specs.declared.answer.Answer.{Answer}
use Rattle.tmem_answers.specs.declared.answer.Answer.TheVariants as answer
use Rattle.tmem_answers.specs.declared.answer.Stats.{Stats}

-- the texts of these, a comma between any two
abbrev pub texts_joined : {X : Type 0} → (X → List ℕ) → List X → List ℕ
texts_joined text [] = []
texts_joined text (x ∷ xs) = text x ++ flat_map (λ y. codes "," ++ text y) xs

-- these as an array
abbrev pub array_text : {X : Type 0} → (X → List ℕ) → List X → List ℕ
array_text text xs = codes "[" ++ texts_joined text xs ++ codes "]"

abbrev pub numbers_text : List ℤ → List ℕ
numbers_text = array_text signed_decimal

-- a variable and its value
abbrev pub pair_text : (ℕ × ℤ) → List ℕ
pair_text p = codes "[" ++ decimal p.0 ++ codes "," ++ signed_decimal p.1 ++ codes "]"

abbrev pub pairs_text : List (ℕ × ℤ) → List ℕ
pairs_text = array_text pair_text

-- A word as a string. It has letters, digits and `_` alone, so nothing in it is escaped.
abbrev pub word_text : List ℕ → List ℕ
word_text word = codes "\"" ++ word ++ codes "\""

abbrev pub words_text : List (List ℕ) → List ℕ
words_text = array_text word_text

abbrev pub are_zeros : List ℤ → Bool
are_zeros = list_all (λ n. int_eq n (pos 0))

-- without the zeros at the end
abbrev pub without_last_zeros : List ℤ → List ℤ
without_last_zeros [] = []
without_last_zeros (n ∷ ns) = if are_zeros (n ∷ ns) then [] else n ∷ without_last_zeros ns

-- how a transaction ended
abbrev pub settled_text : Settled → List ℕ
settled_text (settled.Committed number registers) =
    codes "\"committed\":" ++ decimal number ++ codes ",\"registers\":" ++ numbers_text (without_last_zeros registers)
settled_text (settled.Seen at registers) =
    codes "\"seen\":" ++ decimal at ++ codes ",\"registers\":" ++ numbers_text (without_last_zeros registers)
settled_text settled.Retry = codes "\"retry\":true"
settled_text (settled.Aborted code) = codes "\"aborted\":" ++ decimal code
settled_text (settled.Refused name) = codes "\"refused\":" ++ word_text name

-- the number of a fault
abbrev pub fault_number : Fault → ℕ
fault_number fault.Memory = 1
fault_number fault.Device = 2
fault_number fault.Closed = 3
fault_number fault.Unknown = 4
fault_number fault.Full = 5
fault_number fault.LogFull = 6
fault_number fault.Conflict = 7
fault_number fault.NotFormatted = 8
fault_number fault.Damaged = 9
fault_number (fault.Missing name) = 10
fault_number (fault.Broken name) = 11
fault_number (fault.BadPlan cause) = 12
fault_number fault.BadName = 13
fault_number fault.BadFootprint = 14
fault_number fault.Spent = 15
fault_number fault.NoSeat = 16
fault_number fault.Geometry = 17

-- its word
abbrev pub fault_word : Fault → List ℕ
fault_word fault.Memory = codes "memory"
fault_word fault.Device = codes "device"
fault_word fault.Closed = codes "closed"
fault_word fault.Unknown = codes "unknown"
fault_word fault.Full = codes "full"
fault_word fault.LogFull = codes "logfull"
fault_word fault.Conflict = codes "conflict"
fault_word fault.NotFormatted = codes "notformatted"
fault_word fault.Damaged = codes "damaged"
fault_word (fault.Missing name) = codes "missing"
fault_word (fault.Broken name) = codes "broken"
fault_word (fault.BadPlan cause) = codes "badplan"
fault_word fault.BadName = codes "badname"
fault_word fault.BadFootprint = codes "badfootprint"
fault_word fault.Spent = codes "spent"
fault_word fault.NoSeat = codes "noseat"
fault_word fault.Geometry = codes "geometry"

-- why a transaction is no plan, in words
abbrev pub cause_text : Cause → List ℕ
cause_text TooDeep = codes "it is deeper than 32"
cause_text TooManyNodes = codes "it has more than 512 nodes"
cause_text TooManyWrites = codes "it has more than 64 writes"
cause_text TooManyChecks = codes "it has more than 8 checks"
cause_text BadRegister = codes "a register is not below 16"
cause_text BadVariable = codes "the store has no such variable"
cause_text BadStep = codes "there is no such step"
cause_text BadArguments = codes "a step takes another number of registers"
cause_text UnknownName = codes "the store has no invariant of this name"
cause_text TooManyRetires = codes "it retires more than 8 names"

-- what a fault names
abbrev pub fault_detail : Fault → List ℕ
fault_detail (fault.Missing name) = codes ",\"name\":" ++ word_text name
fault_detail (fault.Broken name) = codes ",\"name\":" ++ word_text name
fault_detail (fault.BadPlan cause) = codes ",\"cause\":" ++ decimal (cause_number cause) ++ codes ",\"why\":\"" ++ cause_text cause ++ codes "\""
fault_detail f = []

abbrev pub fault_text : Fault → List ℕ
fault_text f = codes "\"fault\":" ++ decimal (fault_number f) ++ codes ",\"word\":" ++ word_text (fault_word f) ++ fault_detail f

-- true or false
abbrev pub bool_text : Bool → List ℕ
bool_text true = codes "true"
bool_text false = codes "false"

abbrev pub stats_text : Stats → List ℕ
stats_text s =
    codes "\"stats\":{\"committed\":" ++ decimal s.committed ++ codes ",\"refused\":" ++ decimal s.refused ++ codes ",\"conflicts\":" ++ decimal s.conflicts
    ++ codes ",\"flushes\":" ++ decimal s.flushes ++ codes ",\"checkpoints\":" ++ decimal s.checkpoints ++ codes ",\"waiting\":" ++ decimal s.waiting
    ++ codes ",\"kept\":" ++ decimal s.kept ++ codes ",\"free_slots\":" ++ decimal s.free_slots ++ codes "}"

-- the whole state
abbrev pub state_members : ℕ → List (List ℕ) → List ℤ → List ℕ
state_members count names values = codes "\"count\":" ++ decimal count ++ codes ",\"names\":" ++ words_text names ++ codes ",\"values\":" ++ numbers_text values

-- an answer, behind the id
abbrev pub answer_text : Answer → List ℕ
answer_text (answer.Settled settled) = settled_text settled
answer_text (answer.Refused name because) = codes "\"refused\":" ++ word_text name ++ codes ",\"because\":" ++ pairs_text because.items
answer_text (answer.Values count values) = codes "\"count\":" ++ decimal count ++ codes ",\"values\":" ++ pairs_text values.items
answer_text (answer.State count names values) = state_members count names.items values.items
answer_text answer.Cancelled = codes "\"cancelled\":true"
answer_text (answer.Found found) = codes "\"found\":" ++ bool_text found
answer_text (answer.Kept word) = codes "\"kept\":" ++ word_text word
answer_text (answer.Durable number) = codes "\"durable\":" ++ decimal number
answer_text answer.Checkpointed = codes "\"checkpointed\":true"
answer_text (answer.Stats stats) = stats_text stats
answer_text (answer.Fault fault) = fault_text fault

-- the line of an answer to the request of an id, without its line break
abbrev pub answer_line : ℤ → Answer → List ℕ
answer_line id answer = codes "{\"id\":" ++ signed_decimal id ++ codes "," ++ answer_text answer ++ codes "}"

-- a variable's name and its number, as a member
abbrev pub name_text : (List ℕ × ℕ) → List ℕ
name_text n = word_text n.0 ++ codes ":" ++ decimal n.1

-- the first line, without its line break: how many transactions there are, how many variables, and their names
abbrev pub opened_line : ℕ → ℕ → List (List ℕ × ℕ) → List ℕ
opened_line count vars names =
    codes "{\"opened\":" ++ decimal count ++ codes ",\"vars\":" ++ decimal vars ++ codes ",\"names\":{" ++ texts_joined name_text names ++ codes "}}"
