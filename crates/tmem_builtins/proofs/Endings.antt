-- How each transaction ends that is made of the steps of scripts.
use Rattle.std.proofs.Common.{◌≡◌, ℕ, ℤ, ◌-ℤ◌, ◌+ℤ◌, Bool, true, false, cond, List, [], ◌∷◌, length, refl, sym, ap, ◌∙◌}
use Rattle.std.specs.Prelude.{int_lt}
use Rattle.std.specs.Ordering.{int_eq, is_eq}
use Rattle.std.specs.declared.cmp.Ordering.TheVariants.{Less, Equal, Greater}
use Rattle.std.proofs.lemmas.Bool.Decides.{Decides-int_eq}
use Rattle.std.specs.declared.vec.Vec.{Vec}
use Rattle.std.specs.declared.alloc.Global.{Global}
use Rattle.tmem_tree.specs.declared.tx.Tx.{Tx}
use Rattle.tmem_tree.specs.declared.tx.Tx.TheVariants.{Seq, Put, Read, Write}
use Rattle.tmem_tree.specs.declared.step.StepAnswer.TheVariants.{Value, Retry, Abort}
use Rattle.tmem_tree.specs.Run.{View, Normal, Retried, Aborted, run, put, write, then_run}
use Rattle.tmem_invariants.specs.Meanings.{Meanings}
use Rattle.tmem_builtins.specs.Builtins.{builtin_steps}
use Rattle.tmem_builtins.specs.Steps.{is_i64}
use Rattle.tmem_builtins.specs.Transactions.{RunsAs, IsStepCall, scratched, changed, run_in_turn}
use Rattle.tmem_builtins.proofs.Sequences.{run-Seq}
use Rattle.tmem_builtins.proofs.Scratch.{value_read, alone_read, on_value, call_value, call_number}

-- a Seq of these trees ends as they do
seq_ends : (txs : Vec Tx Global) (all : List Tx) (tests : Meanings) (view : View) → txs.items ≡ all → run builtin_steps tests (Seq txs) view ≡ run_in_turn builtin_steps tests all view
seq_ends txs all tests view items = run-Seq builtin_steps tests txs view ∙ ap (λ l. run_in_turn builtin_steps tests l view) items

-- ---- waiting

waits : (less : Bool) (x n : ℤ) (view : View) → then_run (on_value (cond less Retry (Value x)) (λ y. Normal (scratched view y n))) (λ v. Normal v) ≡ cond less Retried (Normal (scratched view x n))
waits true x n view = refl
waits false x n view = refl

pub at_least_ends : {var : ℕ} {n : ℤ} {need : Tx} (txs : Vec Tx Global) → IsStepCall 2 14 15 need → txs.items ≡ Read var 14 ∷ Put 15 n ∷ need ∷ []
    → RunsAs (Seq txs) (λ view. cond (int_lt (view.values var) n) Retried (Normal (scratched view (view.values var) n)))
at_least_ends {var = var} {n = n} {need = need} txs call items tests view full =
    let x = view.values var in
    seq_ends txs _ tests view items ∙ ap (λ r. then_run r (λ v. Normal v)) (call_value 2 need call tests view x n full) ∙ waits (int_lt x n) x n view

-- asked both ways round: less, more, or the same
both_ways : (less more : Bool) (tests : Meanings) (view : View) (x n : ℤ) (need : Tx) → IsStepCall 2 15 14 need → length view.registers ≡ 16 → int_lt x n ≡ less → int_lt n x ≡ more
    → then_run (on_value (cond less Retry (Value x)) (λ y. Normal (scratched view y n))) (λ v. then_run (run builtin_steps tests need v) (λ w. Normal w)) ≡ cond (int_eq x n) (Normal (scratched view n n)) Retried
both_ways true more tests view x n need call full is_less is_more =
    sym (ap (λ b. cond (is_eq (cond b Less (cond (int_lt n x) Greater Equal))) (Normal (scratched view n n)) Retried) is_less)
both_ways false true tests view x n need call full is_less is_more =
    ap (λ r. then_run r (λ w. Normal w)) (call_number 2 need call tests view x n full)
    ∙ ap (λ b. then_run (on_value (cond b Retry (Value n)) (λ y. Normal (scratched view x y))) (λ w. Normal w)) is_more
    ∙ sym (ap (λ b. cond (is_eq (cond b Less (cond (int_lt n x) Greater Equal))) (Normal (scratched view n n)) Retried) is_less
    ∙ ap (λ b. cond (is_eq (cond b Greater Equal)) (Normal (scratched view n n)) Retried) is_more)
both_ways false false tests view x n need call full is_less is_more =
    let equal : int_eq x n ≡ true = ap (λ b. is_eq (cond b Less (cond (int_lt n x) Greater Equal))) is_less ∙ ap (λ b. is_eq (cond b Greater Equal)) is_more in
    ap (λ r. then_run r (λ w. Normal w)) (call_number 2 need call tests view x n full)
    ∙ ap (λ b. then_run (on_value (cond b Retry (Value n)) (λ y. Normal (scratched view x y))) (λ w. Normal w)) is_more
    ∙ ap (λ y. Normal (scratched view y n)) ((Decides-int_eq x n).0 equal)
    ∙ sym (ap (λ b. cond b (Normal (scratched view n n)) Retried) equal)

pub is_ends : {var : ℕ} {n : ℤ} {not_less not_more : Tx} (txs : Vec Tx Global) → IsStepCall 2 14 15 not_less → IsStepCall 2 15 14 not_more → txs.items ≡ Read var 14 ∷ Put 15 n ∷ not_less ∷ not_more ∷ []
    → RunsAs (Seq txs) (λ view. cond (int_eq (view.values var) n) (Normal (scratched view n n)) Retried)
is_ends {var = var} {n = n} {not_less = not_less} {not_more = not_more} txs first second items tests view full =
    let x = view.values var in
    seq_ends txs _ tests view items ∙ ap (λ r. then_run r (run_in_turn builtin_steps tests (not_more ∷ []))) (call_value 2 not_less first tests view x n full)
    ∙ both_ways (int_lt x n) (int_lt n x) tests view x n not_more second full refl refl

-- ---- changing

pub put_ends : {var : ℕ} {n : ℤ} (txs : Vec Tx Global) → txs.items ≡ Put 15 n ∷ Write var 15 ∷ [] → RunsAs (Seq txs) (λ view. Normal (write (put view 15 n) var n))
put_ends {var = var} {n = n} txs items tests view full =
    seq_ends txs _ tests view items ∙ ap (λ m. Normal (write (put view 15 n) var m)) (alone_read view.registers n full)

stores : (fits : Bool) (tests : Meanings) (view : View) (var : ℕ) (made n : ℤ) → length view.registers ≡ 16
    → then_run (on_value (cond fits (Value made) (Abort 65535)) (λ y. Normal (scratched view y n))) (run_in_turn builtin_steps tests (Write var 14 ∷ [])) ≡ cond fits (Normal (write (scratched view made n) var made)) (Aborted 65535)
stores true tests view var made n full = ap (λ m. Normal (write (scratched view made n) var m)) (value_read view.registers made n full)
stores false tests view var made n full = refl

pub add_to_ends : {var : ℕ} {n : ℤ} {sum : Tx} (txs : Vec Tx Global) → IsStepCall 0 14 15 sum → txs.items ≡ Read var 14 ∷ Put 15 n ∷ sum ∷ Write var 14 ∷ []
    → RunsAs (Seq txs) (λ view. changed view var (view.values var +ℤ n) n)
add_to_ends {var = var} {n = n} {sum = sum} txs call items tests view full =
    let x = view.values var in
    seq_ends txs _ tests view items ∙ ap (λ r. then_run r (run_in_turn builtin_steps tests (Write var 14 ∷ []))) (call_value 0 sum call tests view x n full)
    ∙ stores (is_i64 (x +ℤ n)) tests view var (x +ℤ n) n full

takes : (less : Bool) (tests : Meanings) (view : View) (var : ℕ) (x n : ℤ) (rest : Tx) → IsStepCall 1 14 15 rest → length view.registers ≡ 16
    → then_run (on_value (cond less Retry (Value x)) (λ y. Normal (scratched view y n))) (run_in_turn builtin_steps tests (rest ∷ Write var 14 ∷ [])) ≡ cond less Retried (changed view var (x -ℤ n) n)
takes true tests view var x n rest call full = refl
takes false tests view var x n rest call full =
    ap (λ r. then_run r (run_in_turn builtin_steps tests (Write var 14 ∷ []))) (call_value 1 rest call tests view x n full) ∙ stores (is_i64 (x -ℤ n)) tests view var (x -ℤ n) n full

pub take_ends : {var : ℕ} {n : ℤ} {enough rest : Tx} (txs : Vec Tx Global) → IsStepCall 2 14 15 enough → IsStepCall 1 14 15 rest → txs.items ≡ Read var 14 ∷ Put 15 n ∷ enough ∷ rest ∷ Write var 14 ∷ []
    → RunsAs (Seq txs) (λ view. cond (int_lt (view.values var) n) Retried (changed view var (view.values var -ℤ n) n))
take_ends {var = var} {n = n} {enough = enough} {rest = rest} txs first second items tests view full =
    let x = view.values var in
    seq_ends txs _ tests view items ∙ ap (λ r. then_run r (run_in_turn builtin_steps tests (rest ∷ Write var 14 ∷ []))) (call_value 2 enough first tests view x n full)
    ∙ takes (int_lt x n) tests view var x n rest second full
