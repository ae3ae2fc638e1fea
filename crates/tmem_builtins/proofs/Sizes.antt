-- What a plan counts of each transaction that is made of the steps of scripts.
use Rattle.std.proofs.Common.{◌≡◌, ℕ, ◌+◌, ◌<◌, ◌==◌, ℤ, true, false, not, ◌||◌, max, nat_le, List, [], ◌∷◌, length, slice_index_or, refl, ap, ◌∙◌, zero-add, arith}
use Rattle.std.specs.List.{list_any}
use Rattle.std.specs.declared.vec.Vec.{Vec}
use Rattle.std.specs.declared.alloc.Global.{Global}
use Rattle.std.proofs.lemmas.Bool.Decides.{nat_tests}
use Rattle.tmem_tree.specs.declared.tx.Tx.{Tx}
use Rattle.tmem_tree.specs.declared.tx.Tx.TheVariants.{Seq, Put, Read, Write}
use Rattle.tmem_tree.specs.Limits.{depth, one_if, count, is_node, is_write, is_check, is_retire, is_no_register, has_bad_register, has_bad_variable, has_bad_step, has_bad_arguments, has_unknown_name}
use Rattle.tmem_tree.proofs.Laws.{depth_items, depth-Seq, count_items, count-Seq}
use Rattle.tmem_builtins.specs.Transactions.{IsStepCall, IsSized}

-- how many arguments the steps of scripts take
abbrev pub arities : List ℕ
arities = 2 ∷ 2 ∷ 2 ∷ []

-- what a tree of one node adds
pub record IsOne (writes var : ℕ) (tx : Tx) : Type 0 where
  pub levels : depth tx ≡ 1
  pub all_nodes : count is_node tx ≡ 1
  pub all_writes : count is_write tx ≡ writes
  pub checks : count is_check tx ≡ 0
  pub retires : count is_retire tx ≡ 0
  pub registers : count has_bad_register tx ≡ 0
  pub variables : (vars : ℕ) → var < vars → count (has_bad_variable vars) tx ≡ 0
  pub there : count (has_bad_step arities) tx ≡ 0
  pub given : count (has_bad_arguments arities) tx ≡ 0
  pub names : (known : List (List ℕ)) → count (has_unknown_name known) tx ≡ 0

-- what several trees add
pub record AreSized (levels nodes writes var : ℕ) (txs : List Tx) : Type 0 where
  pub all_levels : depth_items txs ≡ levels
  pub all_nodes : count_items is_node txs ≡ nodes
  pub all_writes : count_items is_write txs ≡ writes
  pub checks : count_items is_check txs ≡ 0
  pub retires : count_items is_retire txs ≡ 0
  pub registers : count_items has_bad_register txs ≡ 0
  pub variables : (vars : ℕ) → var < vars → count_items (has_bad_variable vars) txs ≡ 0
  pub there : count_items (has_bad_step arities) txs ≡ 0
  pub given : count_items (has_bad_arguments arities) txs ≡ 0
  pub names : (known : List (List ℕ)) → count_items (has_unknown_name known) txs ≡ 0

pub none_sized : (var : ℕ) → AreSized 0 0 0 var []
none_sized var = record {
  all_levels = refl;
  all_nodes = refl;
  all_writes = refl;
  checks = refl;
  retires = refl;
  registers = refl;
  variables = λ vars there. refl;
  there = refl;
  given = refl;
  names = λ known. refl;
}

sum_of_none : (a b : ℕ) → a ≡ 0 → b ≡ 0 → a + b ≡ 0
sum_of_none a b first second = omega arith

pub with_one : {levels nodes writes more var : ℕ} {tx : Tx} {txs : List Tx} → IsOne more var tx → AreSized levels nodes writes var txs → AreSized (max 1 levels) (1 + nodes) (more + writes) var (tx ∷ txs)
with_one {more = more} {txs = txs} one rest = record {
  all_levels = ap (λ n. max n (depth_items txs)) one.levels ∙ ap (max 1) rest.all_levels;
  all_nodes = ap (λ n. n + count_items is_node txs) one.all_nodes ∙ ap (λ n. 1 + n) rest.all_nodes;
  all_writes = ap (λ n. n + count_items is_write txs) one.all_writes ∙ ap (λ n. more + n) rest.all_writes;
  checks = sum_of_none _ _ one.checks rest.checks;
  retires = sum_of_none _ _ one.retires rest.retires;
  registers = sum_of_none _ _ one.registers rest.registers;
  variables = λ vars inside. sum_of_none _ _ (one.variables vars inside) (rest.variables vars inside);
  there = sum_of_none _ _ one.there rest.there;
  given = sum_of_none _ _ one.given rest.given;
  names = λ known. sum_of_none _ _ (one.names known) (rest.names known);
}

inside : (vars var : ℕ) → var < vars → one_if (nat_le vars var) ≡ 0
inside vars var within = grind (arith, nat_tests)

pub read_one : (var : ℕ) → IsOne 0 var (Read var 14)
read_one var = record {
  levels = refl;
  all_nodes = refl;
  all_writes = refl;
  checks = refl;
  retires = refl;
  registers = refl;
  variables = λ vars within. inside vars var within;
  there = refl;
  given = refl;
  names = λ known. refl;
}

pub put_one : (var : ℕ) (n : ℤ) → IsOne 0 var (Put 15 n)
put_one var n = record {
  levels = refl;
  all_nodes = refl;
  all_writes = refl;
  checks = refl;
  retires = refl;
  registers = refl;
  variables = λ vars within. refl;
  there = refl;
  given = refl;
  names = λ known. refl;
}

-- a register that there is
abbrev pub IsRegister : ℕ → Type 0
IsRegister reg = is_no_register reg ≡ false

pub write_one : (var reg : ℕ) → IsRegister reg → IsOne 1 var (Write var reg)
write_one var reg fine = record {
  levels = refl;
  all_nodes = refl;
  all_writes = refl;
  checks = refl;
  retires = refl;
  registers = ap one_if fine;
  variables = λ vars within. inside vars var within;
  there = refl;
  given = refl;
  names = λ known. refl;
}

-- a step of scripts, which takes two arguments
record IsStep (index : ℕ) : Type 0 where
  there : nat_le 3 index ≡ false
  two : (2 == slice_index_or arities index 2) ≡ true

call_one : (var index first second : ℕ) (tx : Tx) → IsStepCall index first second tx → IsStep index → IsRegister first → IsRegister second → IsOne 0 var tx
call_one var index first second tx call step fine_first fine_second =
    let args = call.args in
    record {
      levels = ap depth call.is;
      all_nodes = ap (count is_node) call.is;
      all_writes = ap (count is_write) call.is;
      checks = ap (count is_check) call.is;
      retires = ap (count is_retire) call.is;
      registers = ap (count has_bad_register) call.is ∙ ap (λ l. one_if (is_no_register first || list_any is_no_register l)) call.on ∙ rw (fine_first, fine_second) refl;
      variables = λ vars within. ap (count (has_bad_variable vars)) call.is;
      there = ap (count (has_bad_step arities)) call.is ∙ ap one_if step.there;
      given = ap (count (has_bad_arguments arities)) call.is ∙ ap (λ l. one_if (not (length l == slice_index_or arities index (length l)))) call.on ∙ ap (λ b. one_if (not b)) step.two;
      names = λ known. ap (count (has_unknown_name known)) call.is;
    }

pub add_one : (var : ℕ) {tx : Tx} → IsStepCall 0 14 15 tx → IsOne 0 var tx
add_one var {tx = tx} call = call_one var 0 14 15 tx call (record { there = refl; two = refl }) refl refl

pub sub_one : (var : ℕ) {tx : Tx} → IsStepCall 1 14 15 tx → IsOne 0 var tx
sub_one var {tx = tx} call = call_one var 1 14 15 tx call (record { there = refl; two = refl }) refl refl

pub need_one : (var : ℕ) {tx : Tx} → IsStepCall 2 14 15 tx → IsOne 0 var tx
need_one var {tx = tx} call = call_one var 2 14 15 tx call (record { there = refl; two = refl }) refl refl

pub need_back_one : (var : ℕ) {tx : Tx} → IsStepCall 2 15 14 tx → IsOne 0 var tx
need_back_one var {tx = tx} call = call_one var 2 15 14 tx call (record { there = refl; two = refl }) refl refl

pub seq_sized : {nodes writes var : ℕ} {all : List Tx} (txs : Vec Tx Global) → txs.items ≡ all → AreSized 1 nodes writes var all → IsSized (1 + nodes) writes var (Seq txs)
seq_sized {all = all} txs items sized = record {
  levels = depth-Seq txs ∙ ap (λ l. 1 + depth_items l) items ∙ ap (λ n. 1 + n) sized.all_levels;
  all_nodes = count-Seq is_node txs ∙ ap (λ l. 1 + count_items is_node l) items ∙ ap (λ n. 1 + n) sized.all_nodes;
  all_writes = count-Seq is_write txs ∙ ap (λ l. 0 + count_items is_write l) items ∙ zero-add (count_items is_write all) ∙ sized.all_writes;
  checks = count-Seq is_check txs ∙ ap (λ l. 0 + count_items is_check l) items ∙ ap (λ n. 0 + n) sized.checks;
  retires = count-Seq is_retire txs ∙ ap (λ l. 0 + count_items is_retire l) items ∙ ap (λ n. 0 + n) sized.retires;
  registers = count-Seq has_bad_register txs ∙ ap (λ l. 0 + count_items has_bad_register l) items ∙ ap (λ n. 0 + n) sized.registers;
  variables = λ vars within. count-Seq (has_bad_variable vars) txs ∙ ap (λ l. 0 + count_items (has_bad_variable vars) l) items ∙ ap (λ n. 0 + n) (sized.variables vars within);
  steps = record {
    there = count-Seq (has_bad_step arities) txs ∙ ap (λ l. 0 + count_items (has_bad_step arities) l) items ∙ ap (λ n. 0 + n) sized.there;
    given = count-Seq (has_bad_arguments arities) txs ∙ ap (λ l. 0 + count_items (has_bad_arguments arities) l) items ∙ ap (λ n. 0 + n) sized.given;
  };
  names = λ known. count-Seq (has_unknown_name known) txs ∙ ap (λ l. 0 + count_items (has_unknown_name known) l) items ∙ ap (λ n. 0 + n) (sized.names known);
}
