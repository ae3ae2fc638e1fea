-- What is wrong with a script, and where it is told to be.
use Rattle.std.specs.Prelude.{◌≡◌, ◌<◌, ◌≤◌, ◌⊎◌, ℕ, true, false, Bool, List, [], ◌∷◌, codes, string_bytes, Some, IsSome, IsNone}
use Rattle.serde_json.specs.Data.{Data, string, object, member, no_members}
use Rattle.serde_json.specs.Find.{get, as_array, as_object}
use Rattle.tmem_builtins.specs.Builtins.{builtin_names}
use Rattle.tmem_fault.specs.Name.{has_name}
use Rattle.tmem_fault.specs.declared.fault.Cause.{Cause}
use Rattle.tmem_fault.specs.declared.fault.Cause.TheVariants.{TooDeep}
use Rattle.tmem_forms.specs.Members.{HasOnly}
use Rattle.tmem_forms.specs.TxForms.{IsShort, array_of, natural, tx_form}
use Rattle.tmem_requests.specs.Wrong.{IsWrong, led, part}
use Rattle.tmem_requests.specs.declared.place.PointerStep.{PointerStep}
use Rattle.tmem_tree.specs.Plans.{is_counted}
use Rattle.tmem_tree.specs.declared.tx.Tx.{Tx}
use Rattle.tmem_explain.specs.Excesses.{HasTotal, IsNamedBy, cause_of}
use Rattle.tmem_explain.specs.declared.amiss.Amiss.{Amiss}
use Rattle.tmem_explain.specs.declared.excess.Excess.{Excess}
use Rattle.tmem_explain.specs.declared.expected.Expected.{Expected}
use Rattle.tmem_explain.specs.declared.expected.Expected.TheVariants as expected
use Rattle.tmem_explain.specs.declared.flaw.Flaw.{Flaw}
use Rattle.tmem_explain.specs.declared.flaw.Spot.{Spot}
use Rattle.tmem_explain.specs.declared.flaw.Spot.TheVariants.{Pointer, Unknown, Text}

-- the keys of a script, the words that are entries, and the keys of the others
abbrev pub script_keys : List (List ℕ)
script_keys = codes "vars" ∷ codes "slots" ∷ codes "events" ∷ []

abbrev pub entry_words : List (List ℕ)
entry_words = codes "flush" ∷ codes "checkpoint" ∷ codes "look" ∷ codes "reopen" ∷ codes "show" ∷ []

abbrev pub event_keys : List (List ℕ)
event_keys = codes "begin" ∷ codes "turn" ∷ codes "settle" ∷ []

-- whether a value looks like an entry, whatever stands inside of it
abbrev pub is_entry_headed : Data → Bool
is_entry_headed (string word) = has_name entry_words word
is_entry_headed (object (member key body no_members)) = has_name event_keys key
is_entry_headed _ = false

-- how many registers each builtin step takes
abbrev pub step_arities : List ℕ
step_arities = 2 ∷ 2 ∷ 2 ∷ []

-- the limit of a cause counts this node, for so many variables; one that is too deep is any
abbrev pub CountsNode : Cause → ℕ → Tx → Type 0
CountsNode cause vars tx = (cause ≡ TooDeep) ⊎ (is_counted cause step_arities vars (builtin_names vars) tx ≡ true)

-- what is past a limit is counted by it, and names what this node has
abbrev pub IsPastLimit : ℕ → Tx → Excess → Type 0
IsPastLimit vars tx excess = CountsNode (cause_of excess) vars tx × IsNamedBy vars tx excess

-- a transaction of whose first node that is so
pub record IsNodeOver (excess : Excess) (vars : ℕ) (d : Data) : Type 0 where
  pub node : Tx
  pub form : d ≡ tx_form node
  pub over : IsPastLimit vars node excess

-- What is told of a plan is told by the limit of this cause, for so many variables, and how much there is of what is counted; or nothing
-- is known.
abbrev pub TellsCause : Cause → ℕ → ℕ → Expected → Type 0
TellsCause cause all total (expected.Plan excess vars) = (cause_of excess ≡ cause) × (vars ≡ all) × HasTotal total excess
TellsCause cause all total expected.Script = Unit {0}
TellsCause cause all total _ = ⊥

-- a limit of a plan is told
abbrev pub IsPlanTold : Expected → Type 0
IsPlanTold told = (excess : Excess) × (vars : ℕ) × (told ≡ expected.Plan excess vars)

-- That this was expected of a value, and is not so. Where no reason was found, nothing is said.
abbrev pub IsAmiss : Expected → Data → Type 0
IsAmiss expected.Json d = ⊥
IsAmiss expected.MoreJson d = ⊥
IsAmiss expected.Object d = IsNone (as_object d)
IsAmiss (expected.Member key) d = IsNone (get key.now d)
IsAmiss expected.ScriptKeys d = ¬ HasOnly script_keys d
IsAmiss expected.ScriptKey d = ⊥
IsAmiss expected.Vars d = (n : ℕ) × (d ≡ natural n) × (1 ≤ n → n ≤ 1024 → ⊥)
IsAmiss expected.Slots d = (n : ℕ) × (d ≡ natural n) × (2 ≤ n → n ≤ 64 → ⊥)
IsAmiss expected.Number d = (n : ℕ) → IsShort n → ¬ (d ≡ natural n)
IsAmiss expected.Entries d = IsNone (as_array d)
IsAmiss expected.Entry d = is_entry_headed d ≡ false
IsAmiss expected.Begin d = (x y : Data) → ¬ (d ≡ array_of (x ∷ y ∷ []))
IsAmiss expected.Attempt d = (n : ℕ) → n < 16 → ¬ (d ≡ natural n)
IsAmiss (expected.Transaction why) d = IsWrong part why d
IsAmiss (expected.Plan excess vars) d = IsNodeOver excess vars d
IsAmiss expected.Script d = Unit {0}

-- these steps lead from a value to one with which this is amiss
pub record LeadsToAmiss (expected : Expected) (steps : List PointerStep) (d : Data) : Type 0 where
  pub place : Data
  pub there : led steps d ≡ Some place
  pub is_amiss : IsAmiss expected place

-- what was found is true of this value
abbrev pub IsAmissIn : Data → Amiss → Type 0
IsAmissIn d amiss = LeadsToAmiss amiss.expected amiss.steps.items d

-- what is told of the value that a step leads to, told of the whole
pub record IsBehind (step : PointerStep) (inner outer : Amiss) : Type 0 where
  pub expected : outer.expected ≡ inner.expected
  pub steps : outer.steps.items ≡ step ∷ inner.steps.items

-- an object has this key, which is none of a script
abbrev pub HasUnknownScriptKey : List ℕ → Data → Type 0
HasUnknownScriptKey key d = IsSome (get key d) × (has_name script_keys key ≡ false)

abbrev TellsFlawAt : Expected → Spot → Data → Type 0
TellsFlawAt what (Pointer steps) d = LeadsToAmiss what steps.items d
TellsFlawAt what (Unknown key) d = (what ≡ expected.ScriptKey) × HasUnknownScriptKey (string_bytes key) d
TellsFlawAt what (Text line column) d = ⊥

-- What is told of a value is true: the pointer leads to a value inside of it, or to itself, and what was expected there is not so.
abbrev pub IsFlawOf : Data → Flaw → Type 0
IsFlawOf d flaw = TellsFlawAt flaw.expected flaw.at d

abbrev IsTextSpot : Spot → Type 0
IsTextSpot (Pointer steps) = ⊥
IsTextSpot (Unknown key) = ⊥
IsTextSpot (Text line column) = Unit {0}

-- that a text is not JSON from some line and column on, or ends there too soon
abbrev pub IsTextFlaw : Flaw → Type 0
IsTextFlaw flaw = ((flaw.expected ≡ expected.Json) ⊎ (flaw.expected ≡ expected.MoreJson)) × IsTextSpot flaw.at
