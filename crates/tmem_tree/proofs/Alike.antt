-- What a tree keeps where one of its numbers is changed.
use Rattle.std.proofs.Common.{◌≡◌, ℕ, ◌+◌, ◌-◌, ◌≤◌, ℤ, Bool, max, nat_lt, ◌↔◌, List, refl, sym, ap, ap₂, ◌∙◌, subst, arith}
use Rattle.std.proofs.lemmas.Bool.{cond_both}
use Rattle.std.proofs.lemmas.Bool.Decides.{nat_tests}
use Rattle.tmem_tree.specs.declared.tx.Tx.{Tx, Row_of-Tx, end_of-Tx, more_of-Tx}
use Rattle.tmem_tree.specs.declared.tx.Tx.TheVariants.{Seq', Put, When', OrElse'}
use Rattle.tmem_tree.specs.Limits.{depth, depth_of_all, choices, choices_of_all, one_if, count, count_all, is_put, is_node, is_write, is_check, is_retire, is_step, has_bad_register, has_bad_variable, has_bad_step, has_bad_arguments, has_unknown_name, lacks_signature}
use Rattle.tmem_tree.specs.declared.signature.Signature.{Signature}
use Rattle.tmem_tree.specs.Plans.{IsWithinLimits, FitsSteps, FitsVariables, FitsNames, HasSignatures, IsShortTx}
use Rattle.tmem_tree.specs.Numbers.{with_number, with_number_in}

-- a test that looks at what a node is, and at no number and no tree below it
pub record LooksAtNode (test : Tx → Bool) : Type 0 where
  pub put : {reg : ℕ} {m n : ℤ} → test (Put reg m) ≡ test (Put reg n)
  pub seq : {shape : _} {txs us : _} → test (Seq' shape txs) ≡ test (Seq' shape us)
  pub when : {reg : ℕ} {p q : _} {a b c d : Tx} → test (When' reg p a q b) ≡ test (When' reg p c q d)
  pub or_else : {p q : _} {a b c d : Tx} → test (OrElse' p a q b) ≡ test (OrElse' p c q d)

-- as deep, with as many open choices, and of each kind as many nodes
pub record IsAlike (old new : Tx) : Type 0 where
  pub depth : depth new ≡ depth old
  pub choices : choices new ≡ choices old
  pub counts : (test : Tx → Bool) → LooksAtNode test → count test new ≡ count test old

-- the same of several trees
pub record AreAlike {m : _} (old new : Row_of-Tx m) : Type 0 where
  pub depth : depth_of_all new ≡ depth_of_all old
  pub choices : choices_of_all new ≡ choices_of_all old
  pub counts : (test : Tx → Bool) → LooksAtNode test → count_all test new ≡ count_all test old

itself : (tx : Tx) → IsAlike tx tx
itself tx = record { depth = refl; choices = refl; counts = λ test looks. refl }

themselves : {m : _} (txs : Row_of-Tx m) → AreAlike txs txs
themselves txs = record { depth = refl; choices = refl; counts = λ test looks. refl }

mutual
  pub alike : (index : ℕ) (n : ℤ) (tx : Tx) → IsAlike tx (with_number index n tx)
  alike index n (Put reg number) =
      record { depth = refl; choices = refl; counts = λ test looks. ap one_if looks.put }
  alike index n (Seq' shape txs) =
      let x = all_alike index n txs in
      record {
        depth = ap (λ d. 1 + d) x.depth;
        choices = x.choices;
        counts = λ test looks. ap₂ ◌+◌ (ap one_if looks.seq) (x.counts test looks);
      }
  alike index n (When' reg p a q b) =
      let x = alike index n a in
      let y = cond_both (nat_lt index (count is_put a)) b _ (IsAlike b) (λ _. itself b) (λ _. alike (index - count is_put a) n b) in
      record {
        depth = ap (λ d. 1 + d) (ap₂ max x.depth y.depth);
        choices = ap₂ max x.choices y.choices;
        counts = λ test looks. ap₂ ◌+◌ (ap one_if looks.when) (ap₂ ◌+◌ (x.counts test looks) (y.counts test looks));
      }
  alike index n (OrElse' p a q b) =
      let x = alike index n a in
      let y = cond_both (nat_lt index (count is_put a)) b _ (IsAlike b) (λ _. itself b) (λ _. alike (index - count is_put a) n b) in
      record {
        depth = ap (λ d. 1 + d) (ap₂ max x.depth y.depth);
        choices = ap₂ (λ c d. max (1 + c) d) x.choices y.choices;
        counts = λ test looks. ap₂ ◌+◌ (ap one_if looks.or_else) (ap₂ ◌+◌ (x.counts test looks) (y.counts test looks));
      }
  alike index n tx = itself tx

  all_alike : {m : _} (index : ℕ) (n : ℤ) (txs : Row_of-Tx m) → AreAlike txs (with_number_in index n txs)
  all_alike index n end_of-Tx = themselves end_of-Tx
  all_alike index n (more_of-Tx tx txs) =
      let x = alike index n tx in
      let y = cond_both (nat_lt index (count is_put tx)) txs _ (AreAlike txs) (λ _. themselves txs) (λ _. all_alike (index - count is_put tx) n txs) in
      record {
        depth = ap₂ max x.depth y.depth;
        choices = ap₂ max x.choices y.choices;
        counts = λ test looks. ap₂ ◌+◌ (x.counts test looks) (y.counts test looks);
      }

looks-is_node : LooksAtNode is_node
looks-is_node = record { put = refl; seq = refl; when = refl; or_else = refl }

looks-is_write : LooksAtNode is_write
looks-is_write = record { put = refl; seq = refl; when = refl; or_else = refl }

looks-is_check : LooksAtNode is_check
looks-is_check = record { put = refl; seq = refl; when = refl; or_else = refl }

looks-is_retire : LooksAtNode is_retire
looks-is_retire = record { put = refl; seq = refl; when = refl; or_else = refl }

looks-is_step : LooksAtNode is_step
looks-is_step = record { put = refl; seq = refl; when = refl; or_else = refl }

looks-has_bad_register : LooksAtNode has_bad_register
looks-has_bad_register = record { put = refl; seq = refl; when = refl; or_else = refl }

looks-has_bad_variable : (vars : ℕ) → LooksAtNode (has_bad_variable vars)
looks-has_bad_variable vars = record { put = refl; seq = refl; when = refl; or_else = refl }

looks-has_bad_step : (arities : List ℕ) → LooksAtNode (has_bad_step arities)
looks-has_bad_step arities = record { put = refl; seq = refl; when = refl; or_else = refl }

looks-has_bad_arguments : (arities : List ℕ) → LooksAtNode (has_bad_arguments arities)
looks-has_bad_arguments arities = record { put = refl; seq = refl; when = refl; or_else = refl }

looks-has_unknown_name : (names : List (List ℕ)) → LooksAtNode (has_unknown_name names)
looks-has_unknown_name names = record { put = refl; seq = refl; when = refl; or_else = refl }

looks-lacks_signature : (names : List (List ℕ)) → LooksAtNode (lacks_signature names)
looks-lacks_signature names = record { put = refl; seq = refl; when = refl; or_else = refl }

-- the tree behind a change is like the one before it
pub alike_by : (index : ℕ) (n : ℤ) (old new : Tx) → new ≡ with_number index n old → IsAlike old new
alike_by index n old new change = subst (IsAlike old) (sym change) (alike index n old)

module _ {old new : Tx} (same : IsAlike old new) where
  pub limits_kept : IsWithinLimits old → IsWithinLimits new
  limits_kept within = record {
    shallow = omega (arith, same.depth, within.shallow);
    nodes = omega (arith, same.counts is_node looks-is_node, within.nodes);
    writes = omega (arith, same.counts is_write looks-is_write, within.writes);
    checks = omega (arith, same.counts is_check looks-is_check, within.checks);
    retires = omega (arith, same.counts is_retire looks-is_retire, within.retires);
    registers = same.counts has_bad_register looks-has_bad_register ∙ within.registers;
  }

  pub short_kept : IsShortTx new ↔ IsShortTx old
  short_kept =
      let steps = same.counts is_step looks-is_step in
      let nodes = same.counts is_node looks-is_node in
      (λ short. (omega (arith, short.0), omega (arith, short.1)), λ short. (omega (arith, short.0), omega (arith, short.1)))

  pub steps_kept : (arities : List ℕ) → FitsSteps arities old → FitsSteps arities new
  steps_kept arities fits = record {
    there = same.counts _ (looks-has_bad_step arities) ∙ fits.there;
    given = same.counts _ (looks-has_bad_arguments arities) ∙ fits.given;
  }

  pub variables_kept : (vars : ℕ) (signatures : List Signature) → FitsVariables vars (record { tree = old; signatures = signatures }) → FitsVariables vars (record { tree = new; signatures = signatures })
  variables_kept vars signatures fits = record {
    named = same.counts _ (looks-has_bad_variable vars) ∙ fits.named;
    footprints = fits.footprints;
  }

  pub names_kept : (names : List (List ℕ)) → FitsNames names old → FitsNames names new
  names_kept names fits = same.counts _ (looks-has_unknown_name names) ∙ fits

  pub still_covered : (names : List (List ℕ)) → HasSignatures names old → HasSignatures names new
  still_covered names covered = same.counts _ (looks-lacks_signature names) ∙ covered

-- behind the last index nothing changes
mutual
  pub unchanged_past : (index : ℕ) (n : ℤ) (tx : Tx) → count is_put tx ≤ index → with_number index n tx ≡ tx
  unchanged_past index n (Put reg number) past = grind (arith, nat_tests)
  unchanged_past index n (Seq' shape txs) past = ap (Seq' shape) (unchanged_in_past index n txs (omega arith))
  unchanged_past index n (When' reg p a q b) past =
      ap₂ (λ c d. When' reg p c q d) (unchanged_past index n a (omega arith)) (cond_both _ b _ (λ c. c ≡ b) (λ _. refl) (λ _. unchanged_past (index - count is_put a) n b (omega arith)))
  unchanged_past index n (OrElse' p a q b) past =
      ap₂ (λ c d. OrElse' p c q d) (unchanged_past index n a (omega arith)) (cond_both _ b _ (λ c. c ≡ b) (λ _. refl) (λ _. unchanged_past (index - count is_put a) n b (omega arith)))
  unchanged_past index n tx past = refl

  unchanged_in_past : {m : _} (index : ℕ) (n : ℤ) (txs : Row_of-Tx m) → count_all is_put txs ≤ index → with_number_in index n txs ≡ txs
  unchanged_in_past index n end_of-Tx past = refl
  unchanged_in_past index n (more_of-Tx tx txs) past =
      ap₂ more_of-Tx (unchanged_past index n tx (omega arith)) (cond_both _ txs _ (λ us. us ≡ txs) (λ _. refl) (λ _. unchanged_in_past (index - count is_put tx) n txs (omega arith)))
