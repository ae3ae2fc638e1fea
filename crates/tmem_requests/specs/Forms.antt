-- The JSON forms of what requests are made of.
use Rattle.std.specs.Prelude.{◌≡◌, ℕ, ℤ, List, [], ◌∷◌, map, All, FitsSigned, Some, unwrap_or}
use Rattle.std.specs.Int.{w64}
use Rattle.serde_json.specs.Data.{Data, string}
use Rattle.serde_json.specs.Find.{get}
use Rattle.tmem_fault.specs.Name.{IsName}
use Rattle.tmem_forms.specs.TxForms.{natural, integer, array_of, tx_form, IsShort, TxInRange}
use Rattle.tmem_tree.specs.declared.tx.Tx.{Tx}

-- a value of this kind stands at this key
pub record HasMember (key : List ℕ) (Is : Data → Type 0) (d : Data) : Type 0 where
  pub value : Data
  pub stands : get key d ≡ Some value
  pub is : Is value

-- what stands at a key, or an empty array where the key is left out
abbrev pub list_at : List ℕ → Data → Data
list_at key d = unwrap_or (get key d) (array_of [])

-- a whole number of 64 bits
pub record IsInteger (n : ℤ) (d : Data) : Type 0 where
  pub form : d ≡ integer n
  pub fits : FitsSigned w64 n

-- an array of whole numbers of 64 bits
pub record AreIntegers (ns : List ℤ) (d : Data) : Type 0 where
  pub form : d ≡ array_of (map integer ns)
  pub fit : All (λ n. FitsSigned w64 n) ns

-- an array of variables
pub record AreVariables (vars : List ℕ) (d : Data) : Type 0 where
  pub form : d ≡ array_of (map natural vars)
  pub fit : All IsShort vars

-- a variable and a value, as an array of two
abbrev pub pair_form : (ℕ × ℤ) → Data
pair_form p = array_of (natural p.0 ∷ integer p.1 ∷ [])

-- a variable and a value in their ranges
abbrev pub PairFits : (ℕ × ℤ) → Type 0
PairFits p = IsShort p.0 × FitsSigned w64 p.1

-- an array of variables, each with a value
pub record ArePairs (pairs : List (ℕ × ℤ)) (d : Data) : Type 0 where
  pub form : d ≡ array_of (map pair_form pairs)
  pub fit : All PairFits pairs

-- one to sixteen letters from a to z
pub record IsWord (word : List ℕ) (d : Data) : Type 0 where
  pub form : d ≡ string word
  pub is_name : IsName word

-- an array of such words
pub record AreWords (words : List (List ℕ)) (d : Data) : Type 0 where
  pub form : d ≡ array_of (map string words)
  pub are_names : All IsName words

-- such a word and a transaction, as an array of two
pub record IsKept (word : List ℕ) (tx : Tx) (d : Data) : Type 0 where
  pub form : d ≡ array_of (string word ∷ tx_form tx ∷ [])
  pub is_name : IsName word
  pub in_range : TxInRange tx
