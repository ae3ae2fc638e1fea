-- Which lines are requests.
use Rattle.std.specs.Prelude.{◌≡◌, ℕ, ℤ, List, [], ◌∷◌, codes, bytes_eq, if◌then◌else◌, IsUtf8, Some}
use Rattle.serde_json.specs.Data.{Data, string}
use Rattle.serde_json.specs.Read.{read}
use Rattle.tmem_forms.specs.TxForms.{IsTx}
use Rattle.tmem_forms.specs.Members.{HasOnly}
use Rattle.tmem_requests.specs.Forms.{HasMember, list_at, IsInteger, AreIntegers, AreVariables, ArePairs, IsWord, AreWords, IsKept}
use Rattle.tmem_requests.specs.declared.proposal.Proposal.{Proposal}
use Rattle.tmem_requests.specs.declared.request.RequestBody.{RequestBody}
use Rattle.tmem_requests.specs.declared.request.RequestBody.TheVariants.{Do, Try, Get, Settle, Changed, Cancel, Keep, Run, Look, State, Checkpoint, Stats}

-- The form of an attempt that was made elsewhere: an object with at most these four keys, each with an array. That it is one is
-- said by its type.
pub record IsSettle (proposal : Proposal) (d : Data) : Type 0 where
  pub only : HasOnly (codes "reads" ∷ codes "writes" ∷ codes "check" ∷ codes "retire" ∷ []) d
  pub reads : ArePairs proposal.reads.items (list_at (codes "reads") d)
  pub writes : ArePairs proposal.writes.items (list_at (codes "writes") d)
  pub checks : AreWords proposal.checks.items (list_at (codes "check") d)
  pub retires : AreWords proposal.retires.items (list_at (codes "retire") d)

-- the key at which a request says what it asks for
abbrev pub key_of : RequestBody → List ℕ
key_of (Do tx) = codes "do"
key_of (Try tx) = codes "try"
key_of (Get vars) = codes "get"
key_of (Settle proposal) = codes "settle"
key_of (Changed reads) = codes "changed"
key_of (Cancel id) = codes "cancel"
key_of (Keep word tx) = codes "keep"
key_of (Run word numbers) = codes "run"
key_of Look = codes "ask"
key_of State = codes "ask"
key_of Checkpoint = codes "ask"
key_of Stats = codes "ask"

-- what stands at that key
abbrev pub IsBody : RequestBody → Data → Type 0
IsBody (Do tx) d = IsTx tx d
IsBody (Try tx) d = IsTx tx d
IsBody (Get vars) d = AreVariables vars.items d
IsBody (Settle proposal) d = IsSettle proposal d
IsBody (Changed reads) d = ArePairs reads.items d
IsBody (Cancel id) d = IsInteger id d
IsBody (Keep word tx) d = IsKept word tx d
IsBody (Run word numbers) d = IsWord word d
IsBody Look d = d ≡ string (codes "look")
IsBody State d = d ≡ string (codes "state")
IsBody Checkpoint d = d ≡ string (codes "checkpoint")
IsBody Stats d = d ≡ string (codes "stats")

-- all keys that a request may have which asks by this key
abbrev pub keys_by : List ℕ → List (List ℕ)
keys_by key = if bytes_eq key (codes "run") then codes "id" ∷ codes "run" ∷ codes "numbers" ∷ [] else codes "id" ∷ key ∷ []

-- to run what was kept, it may have numbers
abbrev pub HasNumbers : RequestBody → Data → Type 0
HasNumbers (Run word numbers) d = AreIntegers numbers.items (list_at (codes "numbers") d)
HasNumbers ask d = Unit {0}

-- By this key and what stands there, an object asks for it.
pub record AsksBy (ask : RequestBody) (at : List ℕ) (form whole : Data) : Type 0 where
  pub key : at ≡ key_of ask
  pub body : IsBody ask form
  pub numbers : HasNumbers ask whole

-- This value is a request: an object with an id and with what is asked for, each at its key, and with no other key. In which order
-- the keys stand in the text makes no difference.
pub record IsRequest (id : ℤ) (ask : RequestBody) (d : Data) : Type 0 where
  pub only : HasOnly (keys_by (key_of ask)) d
  pub numbered : HasMember (codes "id") (IsInteger id) d
  pub asked : HasMember (key_of ask) (IsBody ask) d
  pub numbers : HasNumbers ask d

-- The line is a request: it is JSON in UTF-8, and its value is one. Of a key that stands twice in an object the last value counts.
pub record IsRequestText (id : ℤ) (ask : RequestBody) (line : List ℕ) : Type 0 where
  pub utf8 : IsUtf8 line
  pub value : Data
  pub reads : read line ≡ Some value
  pub request : IsRequest id ask value
