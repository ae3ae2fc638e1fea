-- What breaking no limit comes to, and that one count of all bad nodes is enough.
use Rattle.std.proofs.Common.{◌≡◌, ℕ, ◌+◌, ◌<◌, ◌≤◌, Bool, true, false, ◌||◌, List, arith}
use Rattle.tmem_fault.specs.declared.fault.Cause.TheVariants.{TooDeep, TooManyNodes, TooManyWrites, TooManyChecks, BadRegister, BadVariable, BadStep, BadArguments, UnknownName, TooManyRetires}
use Rattle.tmem_tree.specs.declared.tx.Tx.{Tx, Row_of-Tx, end_of-Tx, more_of-Tx}
use Rattle.tmem_tree.specs.declared.tx.Tx.TheVariants.{Skip, Seq', Put, Read, Write, Step, When', OrElse', Retry, Abort, Check, Retire}
use Rattle.tmem_tree.specs.Limits.{depth, one_if, count, count_all, is_node, is_write, is_check, is_retire, is_step, has_bad_register, has_bad_variable, has_bad_step, has_bad_arguments, has_unknown_name}
use Rattle.tmem_tree.specs.Plans.{BreaksNone, IsWithinLimits, FitsSteps, FitsNames, is_bad}

either : (a b : Bool) → (one_if a ≤ one_if (a || b)) × (one_if b ≤ one_if (a || b)) × (one_if (a || b) ≤ one_if a + one_if b)
either true true = (omega arith, omega arith, omega arith)
either true false = (omega arith, omega arith, omega arith)
either false true = (omega arith, omega arith, omega arith)
either false false = (omega arith, omega arith, omega arith)

-- a count of the nodes that pass one of two tests is between each of the two counts and their sum
module _ (p q : Tx → Bool) where
  record Between (a b both : ℕ) : Type 0 where
    one : a ≤ both
    other : b ≤ both
    most : both ≤ a + b

  here : (tx : Tx) → Between (one_if (p tx)) (one_if (q tx)) (one_if (p tx || q tx))
  here tx = let e = either (p tx) (q tx) in record { one = e.0; other = e.1; most = e.2 }

  added : (a b c a' b' c' : ℕ) → Between a b c → Between a' b' c' → Between (a + a') (b + b') (c + c')
  added a b c a' b' c' x y = record {
    one = omega (arith, x.one, y.one);
    other = omega (arith, x.other, y.other);
    most = omega (arith, x.most, y.most);
  }

  mutual
    counts : (tx : Tx) → Between (count p tx) (count q tx) (count (λ t. p t || q t) tx)
    counts Skip = here Skip
    counts (Seq' shape txs) = added _ _ _ _ _ _ (here (Seq' shape txs)) (counts_all txs)
    counts (Put reg number) = here (Put reg number)
    counts (Read var reg) = here (Read var reg)
    counts (Write var reg) = here (Write var reg)
    counts (Step index args out) = here (Step index args out)
    counts (When' reg i a j b) = added _ _ _ _ _ _ (here (When' reg i a j b)) (added _ _ _ _ _ _ (counts a) (counts b))
    counts (OrElse' i a j b) = added _ _ _ _ _ _ (here (OrElse' i a j b)) (added _ _ _ _ _ _ (counts a) (counts b))
    counts Retry = here Retry
    counts (Abort code) = here (Abort code)
    counts (Check name) = here (Check name)
    counts (Retire name) = here (Retire name)

    counts_all : {m : _} (txs : Row_of-Tx m) → Between (count_all p txs) (count_all q txs) (count_all (λ t. p t || q t) txs)
    counts_all end_of-Tx = record { one = omega arith; other = omega arith; most = omega arith }
    counts_all (more_of-Tx tx txs) = added _ _ _ _ _ _ (counts tx) (counts_all txs)

-- a step is a node
mutual
  pub steps_are_nodes : (tx : Tx) → count is_step tx ≤ count is_node tx
  steps_are_nodes Skip = omega arith
  steps_are_nodes (Seq' shape txs) = omega (arith, steps_are_nodes_in txs)
  steps_are_nodes (Put reg number) = omega arith
  steps_are_nodes (Read var reg) = omega arith
  steps_are_nodes (Write var reg) = omega arith
  steps_are_nodes (Step index args out) = omega arith
  steps_are_nodes (When' reg i a j b) = omega (arith, steps_are_nodes a, steps_are_nodes b)
  steps_are_nodes (OrElse' i a j b) = omega (arith, steps_are_nodes a, steps_are_nodes b)
  steps_are_nodes Retry = omega arith
  steps_are_nodes (Abort code) = omega arith
  steps_are_nodes (Check name) = omega arith
  steps_are_nodes (Retire name) = omega arith

  steps_are_nodes_in : {m : _} (txs : Row_of-Tx m) → count_all is_step txs ≤ count_all is_node txs
  steps_are_nodes_in end_of-Tx = omega arith
  steps_are_nodes_in (more_of-Tx tx txs) = omega (arith, steps_are_nodes tx, steps_are_nodes_in txs)

-- none of a sum
none_of : (p q : Tx → Bool) (tx : Tx) → count (λ t. p t || q t) tx ≡ 0 → (count p tx ≡ 0) × (count q tx ≡ 0)
none_of p q tx none = let b = counts p q tx in (omega (arith, b.one), omega (arith, b.other))

none_both : (p q : Tx → Bool) (tx : Tx) → count p tx ≡ 0 → count q tx ≡ 0 → count (λ t. p t || q t) tx ≡ 0
none_both p q tx none_p none_q = let b = counts p q tx in omega (arith, b.most)

-- no node is bad in any way
pub record AreGood (arities : List ℕ) (vars : ℕ) (names : List (List ℕ)) (tx : Tx) : Type 0 where
  pub registers : count has_bad_register tx ≡ 0
  pub variables : count (has_bad_variable vars) tx ≡ 0
  pub steps : count (has_bad_step arities) tx ≡ 0
  pub arguments : count (has_bad_arguments arities) tx ≡ 0
  pub known : count (has_unknown_name names) tx ≡ 0

are_good : (arities : List ℕ) (vars : ℕ) (names : List (List ℕ)) (tx : Tx) → count (is_bad arities vars names) tx ≡ 0 → AreGood arities vars names tx
are_good arities vars names tx none =
    let a = none_of (λ t. has_bad_register t || has_bad_variable vars t || has_bad_step arities t || has_bad_arguments arities t) (has_unknown_name names) tx none in
    let b = none_of (λ t. has_bad_register t || has_bad_variable vars t || has_bad_step arities t) (has_bad_arguments arities) tx a.0 in
    let c = none_of (λ t. has_bad_register t || has_bad_variable vars t) (has_bad_step arities) tx b.0 in
    let d = none_of has_bad_register (has_bad_variable vars) tx c.0 in
    record { registers = d.0; variables = d.1; steps = c.1; arguments = b.1; known = a.1 }

none_bad : (arities : List ℕ) (vars : ℕ) (names : List (List ℕ)) (tx : Tx) → AreGood arities vars names tx → count (is_bad arities vars names) tx ≡ 0
none_bad arities vars names tx g =
    let d = none_both has_bad_register (has_bad_variable vars) tx g.registers g.variables in
    let c = none_both (λ t. has_bad_register t || has_bad_variable vars t) (has_bad_step arities) tx d g.steps in
    let b = none_both (λ t. has_bad_register t || has_bad_variable vars t || has_bad_step arities t) (has_bad_arguments arities) tx c g.arguments in
    none_both (λ t. has_bad_register t || has_bad_variable vars t || has_bad_step arities t || has_bad_arguments arities t) (has_unknown_name names) tx b g.known

at_most : (m n : ℕ) → (m < n → ⊥) → n ≤ m
at_most m n not_more = omega arith

not_more : (m n : ℕ) → n ≤ m → m < n → ⊥
not_more m n within more = omega arith

none_at : (n : ℕ) → (0 < n → ⊥) → n ≡ 0
none_at n not_one = omega arith

not_one : (n : ℕ) → n ≡ 0 → 0 < n → ⊥
not_one n none some = omega arith

pub within_limits : (arities : List ℕ) (vars : ℕ) (names : List (List ℕ)) (tx : Tx) → BreaksNone arities vars names tx → IsWithinLimits tx
within_limits arities vars names tx none = record {
  shallow = at_most _ _ (none TooDeep);
  nodes = at_most _ _ (none TooManyNodes);
  writes = at_most _ _ (none TooManyWrites);
  checks = at_most _ _ (none TooManyChecks);
  retires = at_most _ _ (none TooManyRetires);
  registers = none_at _ (none BadRegister);
}

pub fits_steps : (arities : List ℕ) (vars : ℕ) (names : List (List ℕ)) (tx : Tx) → BreaksNone arities vars names tx → FitsSteps arities tx
fits_steps arities vars names tx none = record { there = none_at _ (none BadStep); given = none_at _ (none BadArguments) }

pub none_beyond : (arities : List ℕ) (vars : ℕ) (names : List (List ℕ)) (tx : Tx) → BreaksNone arities vars names tx → count (has_bad_variable vars) tx ≡ 0
none_beyond arities vars names tx none = none_at _ (none BadVariable)

pub fits_names : (arities : List ℕ) (vars : ℕ) (names : List (List ℕ)) (tx : Tx) → BreaksNone arities vars names tx → FitsNames names tx
fits_names arities vars names tx none = none_at _ (none UnknownName)

-- depth and counts within the limits, and no bad node
pub record AreWithin (arities : List ℕ) (vars : ℕ) (names : List (List ℕ)) (tx : Tx) : Type 0 where
  pub shallow : depth tx ≤ 32
  pub nodes : count is_node tx ≤ 512
  pub writes : count is_write tx ≤ 64
  pub checks : count is_check tx ≤ 8
  pub retires : count is_retire tx ≤ 8
  pub good : count (is_bad arities vars names) tx ≡ 0

-- then no limit is broken
pub breaks_none : (arities : List ℕ) (vars : ℕ) (names : List (List ℕ)) (tx : Tx) → AreWithin arities vars names tx → BreaksNone arities vars names tx
breaks_none arities vars names tx within TooDeep = not_more _ _ within.shallow
breaks_none arities vars names tx within TooManyNodes = not_more _ _ within.nodes
breaks_none arities vars names tx within TooManyWrites = not_more _ _ within.writes
breaks_none arities vars names tx within TooManyChecks = not_more _ _ within.checks
breaks_none arities vars names tx within BadRegister = not_one _ (are_good arities vars names tx within.good).registers
breaks_none arities vars names tx within BadVariable = not_one _ (are_good arities vars names tx within.good).variables
breaks_none arities vars names tx within BadStep = not_one _ (are_good arities vars names tx within.good).steps
breaks_none arities vars names tx within BadArguments = not_one _ (are_good arities vars names tx within.good).arguments
breaks_none arities vars names tx within UnknownName = not_one _ (are_good arities vars names tx within.good).known
breaks_none arities vars names tx within TooManyRetires = not_more _ _ within.retires

-- and the other way round
pub are_within : (arities : List ℕ) (vars : ℕ) (names : List (List ℕ)) (tx : Tx) → BreaksNone arities vars names tx → AreWithin arities vars names tx
are_within arities vars names tx none = record {
  shallow = at_most _ _ (none TooDeep);
  nodes = at_most _ _ (none TooManyNodes);
  writes = at_most _ _ (none TooManyWrites);
  checks = at_most _ _ (none TooManyChecks);
  retires = at_most _ _ (none TooManyRetires);
  good = none_bad arities vars names tx (record {
    registers = none_at _ (none BadRegister);
    variables = none_at _ (none BadVariable);
    steps = none_at _ (none BadStep);
    arguments = none_at _ (none BadArguments);
    known = none_at _ (none UnknownName);
  });
}
