-- The words for what is wrong with a script, and where.
use Rattle.std.specs.Prelude.{ℕ, Bool, true, false, if◌then◌else◌, List, [], ◌∷◌, ◌++◌, flat_map, codes, string_bytes}
use Rattle.std.specs.Fmt.{decimal}
use Rattle.tmem_requests.specs.Refusals.{request_why_text, step_text}
use Rattle.tmem_requests.specs.declared.place.PointerStep.{PointerStep}
use Rattle.tmem_requests.specs.declared.why.RequestFlaw.{RequestFlaw}
use Rattle.tmem_requests.specs.declared.why.RequestFlaw.TheVariants as why
use Rattle.tmem_explain.specs.Excesses.{excess_text}
use Rattle.tmem_explain.specs.declared.expected.Expected.{Expected}
use Rattle.tmem_explain.specs.declared.expected.Expected.TheVariants as expected
use Rattle.tmem_explain.specs.declared.flaw.Flaw.{Flaw}
use Rattle.tmem_explain.specs.declared.flaw.Spot.{Spot}
use Rattle.tmem_explain.specs.declared.flaw.Spot.TheVariants.{Pointer, Unknown, Text}

-- what is wrong in a transaction: as a request is told it, and which words there may be
abbrev pub transaction_text : RequestFlaw → List ℕ
transaction_text why.NotTransaction =
    codes "this is neither \"skip\" nor \"retry\", and no object with one of the keys seq, put, read, write, step, when, orelse, abort, check and retire alone"
transaction_text why.NotStep = codes "this is none of the steps \"add\", \"sub\" and \"need\""
transaction_text w = request_why_text w

-- what is wrong, in words
abbrev pub expected_text : Expected → List ℕ
expected_text expected.Json = codes "from here on this is not JSON (which may nest 127 levels deep)"
expected_text expected.MoreJson = codes "the text ends here, before its JSON does"
expected_text expected.Object = codes "this is not an object with the keys vars, slots and events"
expected_text (expected.Member key) = codes "there is no " ++ key.now
expected_text expected.ScriptKeys = codes "this has a key that is none of vars, slots and events"
expected_text expected.ScriptKey = codes "this key is none of vars, slots and events"
expected_text expected.Vars = codes "a store has 1 to 1024 variables"
expected_text expected.Slots = codes "a store has 2 to 64 log slots"
expected_text expected.Number = codes "this is not a whole number from 0 to 65535"
expected_text expected.Entries = codes "this is not an array of entries"
expected_text expected.Entry =
    codes "this is none of \"flush\", \"checkpoint\", \"look\", \"reopen\" and \"show\", and no object with one of the keys begin, turn and settle alone"
expected_text expected.Begin = codes "this is not an array of an attempt and a transaction"
expected_text expected.Attempt = codes "this is not a whole number from 0 to 15, as an attempt is"
expected_text (expected.Transaction w) = transaction_text w
expected_text (expected.Plan excess vars) = excess_text excess
expected_text expected.Script = codes "this is not a script"

-- where it is wrong
abbrev pub spot_text : Spot → List ℕ
spot_text (Pointer steps) = flat_map step_text steps.items
spot_text (Unknown key) = codes "/" ++ string_bytes key
spot_text (Text line column) = codes "line " ++ decimal line ++ codes " column " ++ decimal column

abbrev is_no_step : List PointerStep → Bool
is_no_step [] = true
is_no_step (step ∷ steps) = false

-- it is the whole
abbrev pub is_whole : Spot → Bool
is_whole (Pointer steps) = is_no_step steps.items
is_whole (Unknown key) = false
is_whole (Text line column) = false

-- where, unless it is the whole, and what
abbrev pub flaw_text : Flaw → List ℕ
flaw_text flaw = if is_whole flaw.at then expected_text flaw.expected else spot_text flaw.at ++ codes ": " ++ expected_text flaw.expected
