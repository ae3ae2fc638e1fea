-- The shape of a store, and its JSON form. In which order the keys of an object stand in the text makes no difference.
use Rattle.std.specs.Prelude.{◌≡◌, ◌⊎◌, ℕ, ℤ, ◌<◌, ◌≤◌, ◌+◌, ◌||◌, Bool, true, false, if◌then◌else◌, List, [], ◌∷◌, length, map, codes, slice_index, take, All, FitsSigned, IsUtf8, Option, Some, None, option_map, is_some, IfSome, String, string_bytes}
use Rattle.std.specs.Int.{w32, w64}
use Rattle.std.specs.List.{AllZip}
use Rattle.std.specs.declared.alloc.Global.{Global}
use Rattle.serde_json.specs.Data.{Data, boolean, string, object, Members, member, no_members}
use Rattle.serde_json.specs.Find.{get}
use Rattle.serde_json.specs.Read.{read}
use Rattle.tmem_fault.specs.Name.{IsLetter, IsName, has_name}
use Rattle.tmem_forms.specs.TxForms.{natural, integer, array_of}
use Rattle.tmem_invariants.specs.TableNames.{AreBelow, AreDistinct, IsFootprint}
use Rattle.tmem_tables.specs.Bounds.{is_to}
use Rattle.tmem_tables.specs.declared.linear.Linear.{Linear}
use Rattle.tmem_tables.specs.declared.weight.Weight.{Weight}
use Rattle.tmem_tables.specs.declared.weight.Weight.TheVariants.{Value, Nonzero}
use Rattle.tmem_forms.specs.Members.{HasOnly}
use Rattle.tmem_shape.specs.declared.shape.StoreShape.{StoreShape}

-- a whole number within bounds stands at a key
pub record HasNumber (key : List ℕ) (least most n : ℕ) (d : Data) : Type 0 where
  pub stands : get key d ≡ Some (natural n)
  pub from : least ≤ n
  pub to : n ≤ most

-- ---- an invariant

-- a term: a number and a variable, and a word where it counts what is not 0
abbrev pub term_form : ℕ → Weight → Data
term_form var (Value number) = array_of (integer number ∷ natural var ∷ [])
term_form var (Nonzero number) = array_of (integer number ∷ natural var ∷ string (codes "nonzero") ∷ [])

-- the terms of a sum: a variable and how it counts, in order
abbrev pub terms_form : List ℕ → List Weight → List Data
terms_form [] weights = []
terms_form (var ∷ vars) [] = []
terms_form (var ∷ vars) (weight ∷ weights) = term_form var weight ∷ terms_form vars weights

-- its number has 32 bits
abbrev pub WeightFits : Weight → Type 0
WeightFits (Value number) = FitsSigned w32 number
WeightFits (Nonzero number) = FitsSigned w32 number

-- each of these variables is below the number of variables and has a weight, whose number has 32 bits
pub record AreTerms (vars : ℕ) (footprint : List ℕ) (weights : List Weight) : Type 0 where
  pub paired : length weights ≡ length footprint
  pub below : AreBelow vars footprint
  pub fit : All WeightFits weights

-- a sum of 1 to 16 terms stands at `sum`, and no variable twice in it
pub record HasSum (vars : ℕ) (footprint : List ℕ) (weights : List Weight) (d : Data) : Type 0 where
  pub stands : get (codes "sum") d ≡ Some (array_of (terms_form footprint weights))
  pub terms : AreTerms vars footprint weights
  pub is_footprint : IsFootprint footprint

-- the names of the invariants that programs have built in
abbrev pub taken_names : List (List ℕ)
taken_names = codes "nonneg" ∷ codes "ordered" ∷ codes "sum" ∷ []

-- a name stands at `name`, and is none of those
pub record HasName (name : List ℕ) (d : Data) : Type 0 where
  pub stands : get (codes "name") d ≡ Some (string name)
  pub is_name : IsName name
  pub free : has_name taken_names name ≡ false

-- a bound stands at a key, or the key is left out
pub record HasBound (key : List ℕ) (bound : Option ℤ) (d : Data) : Type 0 where
  pub stands : get key d ≡ option_map integer bound
  pub fits : IfSome bound (FitsSigned w64)

-- `true` stands at `always`, or the key is left out
abbrev pub HasAlways : Bool → Data → Type 0
HasAlways always d = get (codes "always") d ≡ (if always then Some (boolean true) else None)

abbrev pub invariant_keys : List (List ℕ)
invariant_keys = codes "name" ∷ codes "sum" ∷ codes "least" ∷ codes "most" ∷ codes "always" ∷ []

-- The value is the form of this invariant: an object with a name, a sum, a bound or both, and perhaps `always`.
pub record IsInvariant (vars : ℕ) (linear : Linear) (d : Data) : Type 0 where
  pub only : HasOnly invariant_keys d
  pub name : HasName linear.name d
  pub sum : HasSum vars linear.footprint.items linear.weights.items d
  pub least : HasBound (codes "least") linear.least d
  pub most : HasBound (codes "most") linear.most d
  pub bounded : (is_some linear.least || is_some linear.most) ≡ true
  pub always : HasAlways linear.always d

-- the least is not above the most, where there are both: else no values keep the invariant
abbrev pub are_bounds_met : Option ℤ → Option ℤ → Bool
are_bounds_met None most = true
are_bounds_met (Some least) most = is_to most least

abbrev pub CanHold : Linear → Type 0
CanHold linear = are_bounds_met linear.least linear.most ≡ true

-- what holds of those before an index does not with the one there
abbrev pub BreaksFirst : {X : Type 0} → (List X → Type 0) → List X → ℕ → Type 0
BreaksFirst Holds xs i = Holds (take i xs) × (i < length xs) × ¬ Holds (take (i + 1) xs)

-- an array of the forms of these invariants, in order, stands at `invariants`: at most 64, and no name twice
pub record HasInvariants (vars : ℕ) (invariants : List Linear) (d : Data) : Type 0 where
  pub values : List Data
  pub stands : get (codes "invariants") d ≡ Some (array_of values)
  pub forms : AllZip (IsInvariant vars) invariants values
  pub few : length invariants ≤ 64
  pub distinct : AreDistinct (map (λ linear. linear.name) invariants)

-- ---- the names of variables

-- a letter from a to z, a digit, or `_`
abbrev pub IsNameByte : ℕ → Type 0
IsNameByte b = IsLetter b ⊎ ((48 ≤ b) × (b ≤ 57)) ⊎ (b ≡ 95)

-- one to thirty-two such bytes, a letter first
pub record IsVariableName (bytes : List ℕ) : Type 0 where
  pub not_empty : 1 ≤ length bytes
  pub short : length bytes ≤ 32
  pub first : IsLetter (slice_index bytes 0)
  pub each : All IsNameByte bytes

-- an object's members: these names in the order of their bytes, each with its variable
abbrev pub names_form : List (String Global × ℕ) → Members
names_form [] = no_members
names_form (named ∷ rest) = member (string_bytes named.0) (natural named.1) (names_form rest)

-- a name for a variable below the number of variables
pub record IsVariableNamed (vars : ℕ) (named : String Global × ℕ) : Type 0 where
  pub name : IsVariableName (string_bytes named.0)
  pub below : named.1 < vars

-- an object of these names, or none where there is no value
abbrev pub AreNamesOf : Option Data → List (String Global × ℕ) → Type 0
AreNamesOf None names = names ≡ []
AreNamesOf (Some d) names = d ≡ object (names_form names)

-- an object of these names stands at `names`, or the key is left out; no variable has two
pub record HasNames (vars : ℕ) (names : List (String Global × ℕ)) (d : Data) : Type 0 where
  pub stands : AreNamesOf (get (codes "names") d) names
  pub named : All (IsVariableNamed vars) names
  pub distinct : AreDistinct (map (λ named. named.1) names)

-- ---- the whole

abbrev pub shape_keys : List (List ℕ)
shape_keys = codes "vars" ∷ codes "slots" ∷ codes "invariants" ∷ codes "names" ∷ []

-- The value is the form of this shape.
pub record IsShape (shape : StoreShape) (d : Data) : Type 0 where
  pub only : HasOnly shape_keys d
  pub vars : HasNumber (codes "vars") 1 1024 shape.vars d
  pub slots : HasNumber (codes "slots") 2 64 shape.slots d
  pub invariants : HasInvariants shape.vars shape.invariants.items d
  pub names : HasNames shape.vars shape.names.items d

-- The text is JSON in UTF-8, and its value is the form of this shape. Of a key that stands twice in an object the last value counts.
pub record IsShapeText (shape : StoreShape) (text : List ℕ) : Type 0 where
  pub utf8 : IsUtf8 text
  pub value : Data
  pub reads : read text ≡ Some value
  pub is_shape : IsShape shape value
