-- The line that says that a line is no request, what is wrong with it, and where.
use Rattle.std.specs.Prelude.{ℕ, List, ◌++◌, flat_map, codes}
use Rattle.std.specs.Fmt.{decimal}
use Rattle.tmem_requests.specs.declared.place.RequestPlace.{RequestPlace}
use Rattle.tmem_requests.specs.declared.place.RequestPlace.TheVariants.{Pointer, Column}
use Rattle.tmem_requests.specs.declared.place.PointerStep.{PointerStep}
use Rattle.tmem_requests.specs.declared.place.PointerStep.TheVariants.{Key, Item}
use Rattle.tmem_requests.specs.declared.refusal.NoRequest.{NoRequest}
use Rattle.tmem_requests.specs.declared.why.RequestFlaw.{RequestFlaw}
use Rattle.tmem_requests.specs.declared.why.RequestFlaw.TheVariants as why

-- what is wrong, in words
abbrev pub request_why_text : RequestFlaw → List ℕ
request_why_text why.TooLong = codes "the line is longer than 65536 bytes"
request_why_text why.NotJson = codes "this is not JSON (which may nest 127 levels deep)"
request_why_text why.NotObject = codes "this is not an object"
request_why_text why.NoId = codes "there is no id"
request_why_text why.NoAsk = codes "nothing is asked for"
request_why_text why.TwoAsks = codes "two things are asked for"
request_why_text why.UnknownKey = codes "a key of this object is not known"
request_why_text why.NotInteger = codes "this is not a whole number of 64 bits"
request_why_text why.NotVariable = codes "this is not a whole number from 0 to 65535, as a variable is"
request_why_text why.NotRegister = codes "this is not a whole number from 0 to 255, as a register is"
request_why_text why.NotCode = codes "this is not a whole number from 0 to 65535, as a code is"
request_why_text why.NotArray = codes "this is not an array"
request_why_text why.NotTwo = codes "this is not an array of two"
request_why_text why.NotThree = codes "this is not an array of three"
request_why_text why.NotWord = codes "this is not one to sixteen letters from a to z"
request_why_text why.NotQuestion = codes "this is none of look, state, checkpoint and stats"
request_why_text why.NotTransaction = codes "this is not a transaction"
request_why_text why.NotStep = codes "this is not the name of a step"
request_why_text why.TooManyReads = codes "more than 500 variables are read"
request_why_text why.TooManyWrites = codes "more than 64 variables are written"
request_why_text why.TooManyChecks = codes "more than 8 names are checked"
request_why_text why.TooManyRetires = codes "more than 8 names are retired"
request_why_text why.VariableTwice = codes "a variable stands twice in this list"
request_why_text why.NameTwice = codes "a name stands twice in this list"
request_why_text why.CheckedAndRetired = codes "a name is both checked and retired"
request_why_text why.NoSuchVariable = codes "the store has no such variable"
request_why_text why.NoSuchName = codes "the store has no invariant of this name"
request_why_text why.AlwaysHolds = codes "an invariant that always holds cannot be retired"
request_why_text why.NotRequest = codes "this is not a request"

-- a step of a JSON pointer (RFC 6901)
abbrev pub step_text : PointerStep → List ℕ
step_text (Key key) = codes "/" ++ key.now
step_text (Item number) = codes "/" ++ decimal number

-- where it is wrong
abbrev pub place_text : RequestPlace → List ℕ
place_text (Pointer steps) = flat_map step_text steps.items
place_text (Column column) = codes "line 1 column " ++ decimal column

-- the line, without its line break
abbrev pub no_request_line : ℕ → NoRequest → List ℕ
no_request_line line refusal =
    codes "{\"line\":" ++ decimal line ++ codes ",\"fault\":0,\"word\":\"norequest\",\"why\":\"" ++ request_why_text refusal.why
    ++ codes "\",\"at\":\"" ++ place_text refusal.at ++ codes "\"}"
