-- How deep a transaction is, how many of its choices are open at once, and how many of its nodes pass a test.
use Rattle.std.specs.Prelude.{ℕ, ◌+◌, ◌<◌, max, Bool, true, false, not, ◌||◌, ◌==◌, nat_le, bytes_eq, List, length, slice_index_or, if◌then◌else◌}
use Rattle.std.specs.List.{list_any}
use Rattle.tmem_effect.specs.Names.{has_name}
use Rattle.tmem_tree.specs.declared.tx.Tx.{Tx, Row_of-Tx, end_of-Tx, more_of-Tx}
use Rattle.tmem_tree.specs.declared.tx.Tx.TheVariants.{Seq', Put, Read, Write, Step, When', OrElse', Check, Retire}

abbrev mutual
  -- a leaf or an empty Seq has depth 1
  pub depth : Tx → ℕ
  depth (Seq' shape txs) = 1 + depth_of_all txs
  depth (When' reg p a q b) = 1 + max (depth a) (depth b)
  depth (OrElse' p first q second) = 1 + max (depth first) (depth second)
  depth _ = 1

  pub depth_of_all : {m : _} → Row_of-Tx m → ℕ
  depth_of_all end_of-Tx = 0
  depth_of_all (more_of-Tx tx txs) = max (depth tx) (depth_of_all txs)

abbrev mutual
  -- how many choices may stand in their first branch at once
  pub choices : Tx → ℕ
  choices (Seq' shape txs) = choices_of_all txs
  choices (When' reg p a q b) = max (choices a) (choices b)
  choices (OrElse' p first q second) = max (1 + choices first) (choices second)
  choices _ = 0

  pub choices_of_all : {m : _} → Row_of-Tx m → ℕ
  choices_of_all end_of-Tx = 0
  choices_of_all (more_of-Tx tx txs) = max (choices tx) (choices_of_all txs)

abbrev pub one_if : Bool → ℕ
one_if passes = if passes then 1 else 0

module _ (test : Tx → Bool) where
  abbrev mutual
    -- how many nodes pass the test
    pub count : Tx → ℕ
    count (Seq' shape txs) = one_if (test (Seq' shape txs)) + count_all txs
    count (When' reg p a q b) = one_if (test (When' reg p a q b)) + (count a + count b)
    count (OrElse' p first q second) = one_if (test (OrElse' p first q second)) + (count first + count second)
    count tx = one_if (test tx)

    pub count_all : {m : _} → Row_of-Tx m → ℕ
    count_all end_of-Tx = 0
    count_all (more_of-Tx tx txs) = count tx + count_all txs

-- each constructor is a node
abbrev pub is_node : Tx → Bool
is_node _ = true

abbrev pub is_write : Tx → Bool
is_write (Write var reg) = true
is_write _ = false

abbrev pub is_check : Tx → Bool
is_check (Check name) = true
is_check _ = false

abbrev pub is_retire : Tx → Bool
is_retire (Retire name) = true
is_retire _ = false

-- it checks this name
abbrev pub checks_name : List ℕ → Tx → Bool
checks_name name (Check other) = bytes_eq other name
checks_name name _ = false

abbrev pub is_step : Tx → Bool
is_step (Step index args out) = true
is_step _ = false

abbrev pub is_put : Tx → Bool
is_put (Put reg number) = true
is_put _ = false

abbrev pub is_no_register : ℕ → Bool
is_no_register reg = nat_le 16 reg

-- it names a register that is not below 16
abbrev pub has_bad_register : Tx → Bool
has_bad_register (Put reg number) = is_no_register reg
has_bad_register (Read var reg) = is_no_register reg
has_bad_register (Write var reg) = is_no_register reg
has_bad_register (Step index args out) = is_no_register out || list_any is_no_register args.items
has_bad_register (When' reg p a q b) = is_no_register reg
has_bad_register _ = false

-- it names a variable that is not below the number of variables
abbrev pub has_bad_variable : ℕ → Tx → Bool
has_bad_variable vars (Read var reg) = nat_le vars var
has_bad_variable vars (Write var reg) = nat_le vars var
has_bad_variable vars _ = false

-- it calls a step that is not there
abbrev pub has_bad_step : List ℕ → Tx → Bool
has_bad_step arities (Step index args out) = nat_le (length arities) index
has_bad_step arities _ = false

-- it calls a step that is there, on a number of arguments that is not the step's
abbrev pub has_bad_arguments : List ℕ → Tx → Bool
has_bad_arguments arities (Step index args out) =
    not (length args.items == slice_index_or arities index (length args.items))
has_bad_arguments arities _ = false

-- it checks or retires a name that is none of these
abbrev pub has_unknown_name : List (List ℕ) → Tx → Bool
has_unknown_name names (Check name) = not (has_name names name)
has_unknown_name names (Retire name) = not (has_name names name)
has_unknown_name names _ = false

-- it checks a name that is none of these
abbrev pub lacks_signature : List (List ℕ) → Tx → Bool
lacks_signature names (Check name) = not (has_name names name)
lacks_signature names _ = false

-- some node of it checks this name
abbrev pub Checks : Tx → List ℕ → Type 0
Checks tx name = 0 < count (checks_name name) tx
