-- The JSON form of a transaction: each has exactly one.
use Rattle.std.specs.Prelude.{◌≡◌, ◌<◌, ◌^◌, ℕ, ℤ, List, [], ◌∷◌, map, length, codes, slice_index_or, All, FitsSigned}
use Rattle.std.specs.Int.{w64}
use Rattle.serde_json.specs.Data.{Data, number, unsigned, string, array, object, member, no_members}
use Rattle.serde_json.specs.Find.{of_integer}
use Rattle.serde_json.specs.View.{items_of}
use Rattle.tmem_builtins.specs.Steps.{step_names}
use Rattle.tmem_fault.specs.Name.{IsName}
use Rattle.tmem_tree.specs.declared.tx.Tx.{Tx}
use Rattle.tmem_tree.specs.declared.tx.Tx.TheFolds.{fold-Tx, every-Tx}
use Rattle.tmem_tree.specs.declared.tx.Tx.TheOpen.{Tx-F}
use Rattle.tmem_tree.specs.declared.tx.Tx.TheOpen as level

-- a whole number without a sign, never a float
abbrev pub natural : ℕ → Data
natural n = number (unsigned n)

-- a whole number with or without a minus sign, never a float
abbrev pub integer : ℤ → Data
integer n = number (of_integer n)

-- an array of these values
abbrev pub array_of : List Data → Data
array_of ds = array (items_of ds)

-- an object with this key alone
abbrev pub tagged : List ℕ → Data → Data
tagged key body = object (member key body no_members)

-- one level of a transaction, with the forms of those that it holds
abbrev pub level_form : Tx-F Data → Data
level_form level.Skip = string (codes "skip")
level_form (level.Seq forms) = tagged (codes "seq") (array_of forms.items)
level_form (level.Put reg n) = tagged (codes "put") (array_of (natural reg ∷ integer n ∷ []))
level_form (level.Read var reg) = tagged (codes "read") (array_of (natural var ∷ natural reg ∷ []))
level_form (level.Write var reg) = tagged (codes "write") (array_of (natural var ∷ natural reg ∷ []))
level_form (level.Step index args out) = tagged (codes "step")
    (array_of (string (slice_index_or step_names index []) ∷ array_of (map natural args.items) ∷ natural out ∷ []))
level_form (level.When reg then other) = tagged (codes "when") (array_of (natural reg ∷ then.value ∷ other.value ∷ []))
level_form (level.OrElse first second) = tagged (codes "orelse") (array_of (first.value ∷ second.value ∷ []))
level_form level.Retry = string (codes "retry")
level_form (level.Abort code) = tagged (codes "abort") (natural code)
level_form (level.Check name) = tagged (codes "check") (string name)
level_form (level.Retire name) = tagged (codes "retire") (string name)

-- the form of a transaction
abbrev pub tx_form : Tx → Data
tx_form = fold-Tx Data level_form

-- registers fit 8 bits
abbrev pub IsByte : ℕ → Type 0
IsByte n = n < 2 ^ 8

-- variables and codes fit 16 bits
abbrev pub IsShort : ℕ → Type 0
IsShort n = n < 2 ^ 16

-- the numbers of one level are in their ranges, its step is one of the program's, and its name is a name
abbrev pub LevelInRange : Tx-F Tx → Type 0
LevelInRange level.Skip = Unit {0}
LevelInRange (level.Seq txs) = Unit {0}
LevelInRange (level.Put reg n) = IsByte reg × FitsSigned w64 n
LevelInRange (level.Read var reg) = IsShort var × IsByte reg
LevelInRange (level.Write var reg) = IsShort var × IsByte reg
LevelInRange (level.Step index args out) = (index < length step_names) × All IsByte args.items × IsByte out
LevelInRange (level.When reg then other) = IsByte reg
LevelInRange (level.OrElse first second) = Unit {0}
LevelInRange level.Retry = Unit {0}
LevelInRange (level.Abort code) = IsShort code
LevelInRange (level.Check name) = IsName name
LevelInRange (level.Retire name) = IsName name

-- each level of a transaction is in range
abbrev pub TxInRange : Tx → Type 0
TxInRange = every-Tx LevelInRange

-- this value is the form of this transaction
pub record IsTx (tx : Tx) (d : Data) : Type 0 where
  pub form : d ≡ tx_form tx
  pub in_range : TxInRange tx
