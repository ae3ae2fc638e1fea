-- What is wrong with a value that is no request, and where it is told to be.
use Rattle.std.specs.Prelude.{◌≡◌, ◌≢◌, ◌<◌, ◌≤◌, ◌⊎◌, ℕ, ℤ, true, false, Bool, List, [], ◌∷◌, length, codes, FitsSigned, Option, Some, IsSome, IsNone, option_and_then}
use Rattle.std.specs.Int.{w64}
use Rattle.std.specs.Map.{keys_of}
use Rattle.serde_json.specs.Data.{Data, string, object, member, no_members}
use Rattle.serde_json.specs.Find.{get, at, as_array, as_object}
use Rattle.tmem_builtins.specs.Steps.{step_names}
use Rattle.tmem_fault.specs.Distinct.{AreDistinct}
use Rattle.tmem_fault.specs.Name.{IsName, has_name}
use Rattle.tmem_effect.specs.Names.{AreApart}
use Rattle.tmem_forms.specs.TxForms.{IsByte, IsShort, array_of, integer, natural}
use Rattle.tmem_forms.specs.Members.{HasOnly}
use Rattle.tmem_requests.specs.Forms.{ArePairs, AreWords, list_at}
use Rattle.tmem_requests.specs.Requests.{keys_by}
use Rattle.tmem_requests.specs.declared.explain.wrong.WrongValue.{WrongValue}
use Rattle.tmem_requests.specs.declared.place.RequestPlace.{RequestPlace}
use Rattle.tmem_requests.specs.declared.place.RequestPlace.TheVariants.{Pointer, Column}
use Rattle.tmem_requests.specs.declared.place.PointerStep.{PointerStep}
use Rattle.tmem_requests.specs.declared.place.PointerStep.TheVariants.{Key, Item}
use Rattle.tmem_requests.specs.declared.refusal.NoRequest as refused
use Rattle.tmem_requests.specs.declared.refusal.RequestError.{RequestError}
use Rattle.tmem_requests.specs.declared.refusal.RequestError.TheVariants.{Memory, NoRequest}
use Rattle.tmem_requests.specs.declared.why.RequestFlaw.{RequestFlaw}
use Rattle.tmem_requests.specs.declared.why.RequestFlaw.TheVariants as why

-- the value that a step leads to
abbrev pub step_value : PointerStep → Data → Option Data
step_value (Key key) d = get key.now d
step_value (Item n) d = at n d

-- the value that steps lead to, one after another
abbrev pub led : List PointerStep → Data → Option Data
led [] d = Some d
led (step ∷ steps) d = option_and_then (led steps) (step_value step d)

-- the keys by which something is asked for
abbrev pub ask_keys : List (List ℕ)
ask_keys = codes "do" ∷ codes "try" ∷ codes "get" ∷ codes "settle" ∷ codes "changed" ∷ codes "cancel" ∷ codes "keep" ∷ codes "run" ∷ codes "ask" ∷ []

-- the keys that an attempt which was made elsewhere may have
abbrev pub settle_keys : List (List ℕ)
settle_keys = codes "reads" ∷ codes "writes" ∷ codes "check" ∷ codes "retire" ∷ []

-- the keys of transactions, one for each kind
abbrev pub tx_keys : List (List ℕ)
tx_keys = codes "seq" ∷ codes "when" ∷ codes "orelse" ∷ codes "put" ∷ codes "read" ∷ codes "write" ∷ codes "step" ∷ codes "abort" ∷ codes "check" ∷ codes "retire" ∷ []

abbrev pub question_words : List (List ℕ)
question_words = codes "look" ∷ codes "state" ∷ codes "checkpoint" ∷ codes "stats" ∷ []

-- an object has a key by which something is asked for, and which is not this one
pub record AsksBeside (first : List ℕ) (d : Data) : Type 0 where
  pub second : List ℕ
  pub asks : has_name ask_keys second ≡ true
  pub another : second ≢ first
  pub stands : IsSome (get second d)

-- an object has two of the keys by which something is asked for
pub record AsksTwice (d : Data) : Type 0 where
  pub key : List ℕ
  pub asks : has_name ask_keys key ≡ true
  pub stands : IsSome (get key d)
  pub another : AsksBeside key d

-- something stands at a key that is none of a request
pub record HasStrangeKey (d : Data) : Type 0 where
  pub key : List ℕ
  pub stands : IsSome (get key d)
  pub strange : has_name (codes "id" ∷ codes "numbers" ∷ ask_keys) key ≡ false

-- an object asks by this key, and has a key that it may not have beside it
pub record HasKeyBeside (d : Data) : Type 0 where
  pub key : List ℕ
  pub asks : has_name ask_keys key ≡ true
  pub stands : IsSome (get key d)
  pub others : ¬ HasOnly (keys_by key) d

-- The whole has a key that it may not have, or an attempt that was made elsewhere has one.
abbrev pub HasUnknownKey : Bool → Data → Type 0
HasUnknownKey true d = HasStrangeKey d ⊎ HasKeyBeside d
HasUnknownKey false d = ¬ HasOnly settle_keys d

-- whether a value looks like a transaction, whatever stands inside of it
abbrev pub is_headed : Data → Bool
is_headed (string word) = has_name (codes "skip" ∷ codes "retry" ∷ []) word
is_headed (object (member key body no_members)) = has_name tx_keys key
is_headed _ = false

-- an array of more than so many
pub record IsLonger (most : ℕ) (d : Data) : Type 0 where
  pub items : List Data
  pub is_array : d ≡ array_of items
  pub long : most < length items

-- an array of variables with values, in which a variable stands twice
pub record HasVariableTwice (d : Data) : Type 0 where
  pub pairs : List (ℕ × ℤ)
  pub are : ArePairs pairs d
  pub twice : ¬ AreDistinct (keys_of pairs)

-- an array of names, in which one stands twice
pub record HasNameTwice (d : Data) : Type 0 where
  pub names : List (List ℕ)
  pub are : AreWords names d
  pub twice : ¬ AreDistinct names

-- a name is both checked and retired
pub record ChecksAndRetires (d : Data) : Type 0 where
  pub checks : List (List ℕ)
  pub retires : List (List ℕ)
  pub are_checks : AreWords checks (list_at (codes "check") d)
  pub are_retires : AreWords retires (list_at (codes "retire") d)
  pub both : ¬ AreApart checks retires

-- That this is wrong with the whole, or with a value inside of it. Where no reason is found, nothing is said.
abbrev pub IsFlaw : Bool → RequestFlaw → Data → Type 0
IsFlaw is_whole why.TooLong d = ⊥
IsFlaw is_whole why.NotJson d = ⊥
IsFlaw is_whole why.NotObject d = IsNone (as_object d)
IsFlaw is_whole why.NoId d = IsNone (get (codes "id") d)
IsFlaw is_whole why.NoAsk d = (key : List ℕ) → IsSome (get key d) → has_name (codes "id" ∷ codes "numbers" ∷ []) key ≡ true
IsFlaw is_whole why.TwoAsks d = AsksTwice d
IsFlaw is_whole why.UnknownKey d = HasUnknownKey is_whole d
IsFlaw is_whole why.NotInteger d = (n : ℤ) → FitsSigned w64 n → ¬ (d ≡ integer n)
IsFlaw is_whole why.NotVariable d = (n : ℕ) → IsShort n → ¬ (d ≡ natural n)
IsFlaw is_whole why.NotRegister d = (n : ℕ) → IsByte n → ¬ (d ≡ natural n)
IsFlaw is_whole why.NotCode d = (n : ℕ) → IsShort n → ¬ (d ≡ natural n)
IsFlaw is_whole why.NotArray d = IsNone (as_array d)
IsFlaw is_whole why.NotTwo d = (x y : Data) → ¬ (d ≡ array_of (x ∷ y ∷ []))
IsFlaw is_whole why.NotThree d = (x y z : Data) → ¬ (d ≡ array_of (x ∷ y ∷ z ∷ []))
IsFlaw is_whole why.NotWord d = (word : List ℕ) → IsName word → ¬ (d ≡ string word)
IsFlaw is_whole why.NotQuestion d = (word : List ℕ) → has_name question_words word ≡ true → ¬ (d ≡ string word)
IsFlaw is_whole why.NotTransaction d = is_headed d ≡ false
IsFlaw is_whole why.NotStep d = (word : List ℕ) → has_name step_names word ≡ true → ¬ (d ≡ string word)
IsFlaw is_whole why.TooManyReads d = IsLonger 500 d
IsFlaw is_whole why.TooManyWrites d = IsLonger 64 d
IsFlaw is_whole why.TooManyChecks d = IsLonger 8 d
IsFlaw is_whole why.TooManyRetires d = IsLonger 8 d
IsFlaw is_whole why.VariableTwice d = HasVariableTwice d
IsFlaw is_whole why.NameTwice d = HasNameTwice d
IsFlaw is_whole why.CheckedAndRetired d = ChecksAndRetires d
IsFlaw is_whole why.NoSuchVariable d = ⊥
IsFlaw is_whole why.NoSuchName d = ⊥
IsFlaw is_whole why.AlwaysHolds d = ⊥
IsFlaw is_whole why.NotRequest d = Unit {0}

-- a variable that a store of so many does not have
pub record IsBeyond (vars : ℕ) (d : Data) : Type 0 where
  pub var : ℕ
  pub is_var : d ≡ natural var
  pub beyond : vars ≤ var

-- a name that is among these, or that is not
pub record IsNameAmong (names : List (List ℕ)) (among : Bool) (d : Data) : Type 0 where
  pub name : List ℕ
  pub is_name : d ≡ string name
  pub found : has_name names name ≡ among

-- That for this a value inside of a request does not fit a store of so many variables, with invariants of these names, of which
-- some always hold.
abbrev pub IsMisfit : ℕ → List (List ℕ) → List (List ℕ) → RequestFlaw → Data → Type 0
IsMisfit vars names always why.NoSuchVariable d = IsBeyond vars d
IsMisfit vars names always why.NoSuchName d = IsNameAmong names false d
IsMisfit vars names always why.AlwaysHolds d = IsNameAmong always true d
IsMisfit vars names always why.NotRequest d = Unit {0}
IsMisfit vars names always _ d = ⊥

-- where something is wrong: with the whole, with a part of it, or with what is asked of a store
pub data Scope : Type 0 where
  whole : Scope
  part : Scope
  store : ℕ → List (List ℕ) → List (List ℕ) → Scope

abbrev pub IsWrong : Scope → RequestFlaw → Data → Type 0
IsWrong whole why d = IsFlaw true why d
IsWrong part why d = IsFlaw false why d
IsWrong (store vars names always) why d = IsMisfit vars names always why d

-- the scope behind a step, and behind several
abbrev pub inner : Scope → Scope
inner whole = part
inner part = part
inner (store vars names always) = store vars names always

abbrev pub scope_behind : Scope → List PointerStep → Scope
scope_behind scope [] = scope
scope_behind scope (step ∷ steps) = scope_behind (inner scope) steps

-- these steps lead from a value to one with which this is wrong
pub record LeadsToWrong (scope : Scope) (why : RequestFlaw) (steps : List PointerStep) (d : Data) : Type 0 where
  pub place : Data
  pub there : led steps d ≡ Some place
  pub is_wrong : IsWrong (scope_behind scope steps) why place

abbrev TellsAt : Scope → RequestFlaw → RequestPlace → Data → Type 0
TellsAt scope why (Pointer steps) d = LeadsToWrong scope why steps.items d
TellsAt scope why (Column column) d = ⊥

-- What is told of a value is true: the pointer leads to a value inside of it, or to itself, and that is wrong there.
abbrev pub TellsTruth : Scope → Data → refused.NoRequest → Type 0
TellsTruth scope d refusal = TellsAt scope refusal.why refusal.at d

-- the same of the value of a line that was not read
abbrev pub TellsTruthOf : Data → RequestError → Type 0
TellsTruthOf d (Memory e) = Unit {0}
TellsTruthOf d (NoRequest refusal) = TellsTruth whole d refusal

-- What was found is true of this value.
abbrev pub IsTrueOf : Scope → Data → WrongValue → Type 0
IsTrueOf scope d wrong = LeadsToWrong scope wrong.why wrong.steps.items d
