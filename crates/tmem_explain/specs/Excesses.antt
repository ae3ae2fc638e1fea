-- What of a transaction is past a limit, and how that is told.
use Rattle.std.specs.Prelude.{◌≡◌, ⊤, ℕ, true, List, [], ◌∷◌, ◌++◌, length, codes, Option, Some, None}
use Rattle.std.specs.Fmt.{decimal}
use Rattle.std.specs.List.{Contains}
use Rattle.tmem_fault.specs.declared.fault.Cause.{Cause}
use Rattle.tmem_fault.specs.declared.fault.Cause.TheVariants.{TooDeep, TooManyNodes, TooManyWrites, TooManyChecks, BadRegister, BadVariable, BadStep, BadArguments, UnknownName, TooManyRetires}
use Rattle.tmem_tree.specs.Limits.{is_no_register}
use Rattle.tmem_tree.specs.declared.tx.Tx.{Tx}
use Rattle.tmem_tree.specs.declared.tx.Tx.TheVariants.{Put, Read, Write, Step, When'}
use Rattle.tmem_explain.specs.declared.excess.Excess.{Excess}
use Rattle.tmem_explain.specs.declared.excess.Excess.TheVariants as excess

-- the limit that is broken
abbrev pub cause_of : Excess → Cause
cause_of (excess.Depth n) = TooDeep
cause_of (excess.Nodes n) = TooManyNodes
cause_of (excess.Writes n) = TooManyWrites
cause_of (excess.Checks n) = TooManyChecks
cause_of (excess.Retires n) = TooManyRetires
cause_of (excess.Register reg) = BadRegister
cause_of (excess.Variable var vars) = BadVariable
cause_of (excess.Step index) = BadStep
cause_of (excess.Arguments n) = BadArguments
cause_of (excess.Name vars) = UnknownName

-- what a node names
abbrev pub variable_in : Tx → Option ℕ
variable_in (Read var reg) = Some var
variable_in (Write var reg) = Some var
variable_in _ = None

abbrev pub step_in : Tx → Option ℕ
step_in (Step index args out) = Some index
step_in _ = None

abbrev pub arguments_in : Tx → Option ℕ
arguments_in (Step index args out) = Some (length args.items)
arguments_in _ = None

abbrev pub registers_in : Tx → List ℕ
registers_in (Put reg number) = reg ∷ []
registers_in (Read var reg) = reg ∷ []
registers_in (Write var reg) = reg ∷ []
registers_in (Step index args out) = args.items ++ out ∷ []
registers_in (When' reg p a q b) = reg ∷ []
registers_in _ = []

-- What is told of a node is what it names, for so many variables. What is counted is told of any.
abbrev pub IsNamedBy : ℕ → Tx → Excess → Type 0
IsNamedBy all tx (excess.Register reg) = Contains (registers_in tx) reg × (is_no_register reg ≡ true)
IsNamedBy all tx (excess.Variable var vars) = (variable_in tx ≡ Some var) × (vars ≡ all)
IsNamedBy all tx (excess.Step index) = step_in tx ≡ Some index
IsNamedBy all tx (excess.Arguments n) = arguments_in tx ≡ Some n
IsNamedBy all tx (excess.Name vars) = vars ≡ all
IsNamedBy all tx _ = ⊤

-- it is told how much a transaction has of what a limit counts
abbrev pub HasTotal : ℕ → Excess → Type 0
HasTotal total (excess.Depth n) = n ≡ total
HasTotal total (excess.Nodes n) = n ≡ total
HasTotal total (excess.Writes n) = n ≡ total
HasTotal total (excess.Checks n) = n ≡ total
HasTotal total (excess.Retires n) = n ≡ total
HasTotal total _ = ⊤

-- what is past a limit, beside that limit
abbrev pub excess_text : Excess → List ℕ
excess_text (excess.Depth n) = codes "it is " ++ (decimal n ++ codes " deep, and may be 32 deep")
excess_text (excess.Nodes n) = codes "it has " ++ (decimal n ++ codes " nodes, and may have 512")
excess_text (excess.Writes n) = codes "it has " ++ (decimal n ++ codes " writes, and may have 64")
excess_text (excess.Checks n) = codes "it has " ++ (decimal n ++ codes " checks, and may have 8")
excess_text (excess.Retires n) = codes "it retires " ++ (decimal n ++ codes " names, and may retire 8")
excess_text (excess.Register reg) = codes "there is no register " ++ (decimal reg ++ codes ": they are 0 to 15")
excess_text (excess.Variable var vars) = codes "there is no variable " ++ (decimal var ++ (codes ": the store has " ++ (decimal vars ++ codes ", from 0 on")))
excess_text (excess.Step index) = codes "there is no step " ++ (decimal index ++ codes ": they are 0 to 2")
excess_text (excess.Arguments n) = codes "this step takes 2 registers, and is given " ++ decimal n
excess_text (excess.Name vars) =
    codes "there is no such invariant in a store of " ++ (decimal vars ++ codes " variables: from 1 on it has nonneg, from 2 on sum, from 4 on ordered")
