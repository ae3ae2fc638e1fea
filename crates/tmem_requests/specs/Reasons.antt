-- That what is told of a line which cannot be asked of a store is true.
use Rattle.std.specs.Prelude.{◌≡◌, ◌⊎◌, ℕ, List, IsUtf8, Some}
use Rattle.serde_json.specs.Data.{Data}
use Rattle.serde_json.specs.Read.{read}
use Rattle.tmem_requests.specs.Wrong.{TellsTruth, whole, store}
use Rattle.tmem_requests.specs.declared.refusal.NoRequest as refused
use Rattle.tmem_requests.specs.declared.refusal.RequestError.{RequestError}
use Rattle.tmem_requests.specs.declared.refusal.RequestError.TheVariants.{Memory, NoRequest}
use Rattle.tmem_requests.specs.declared.why.RequestFlaw.TheVariants.{NotJson}

-- the line is not JSON in UTF-8
abbrev pub IsNoJson : List ℕ → Type 0
IsNoJson line = (value : Data) → IsUtf8 line → ¬ (read line ≡ Some value)

-- A line is refused so: where it is JSON, that is wrong with its value, or with what it asks of a store of so many variables, with
-- invariants of these names, of which some always hold; and where it is not, that is told.
pub record IsReason (vars : ℕ) (names always : List (List ℕ)) (line : List ℕ) (refusal : refused.NoRequest) : Type 0 where
  pub told : (value : Data) → IsUtf8 line → read line ≡ Some value → TellsTruth whole value refusal ⊎ TellsTruth (store vars names always) value refusal
  pub no_json : IsNoJson line → refusal.why ≡ NotJson

-- the same of what was found where it was read
abbrev pub TellsReason : ℕ → List (List ℕ) → List (List ℕ) → List ℕ → RequestError → Type 0
TellsReason vars names always line (Memory e) = Unit {0}
TellsReason vars names always line (NoRequest refusal) = IsReason vars names always line refusal
