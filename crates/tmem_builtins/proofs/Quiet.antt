-- What each transaction reads that is made of the steps of scripts, and how many numbers it has.
use Rattle.std.proofs.Common.{◌≡◌, ℕ, ◌+◌, ℤ, List, [], ◌∷◌, ◌++◌, refl, ap, ◌∙◌, append-nil}
use Rattle.std.specs.declared.vec.Vec.{Vec}
use Rattle.std.specs.declared.alloc.Global.{Global}
use Rattle.tmem_tree.specs.declared.tx.Tx.{Tx}
use Rattle.tmem_tree.specs.declared.tx.Tx.TheVariants.{Seq, Put, Read, Write}
use Rattle.tmem_tree.specs.Run.{View, RunResult, Normal, Retried, Aborted, Broken, run}
use Rattle.tmem_tree.specs.Visited.{Ask, asks, then_ask}
use Rattle.tmem_invariants.specs.Meanings.{Meanings}
use Rattle.tmem_tree.specs.Limits.{count}
use Rattle.tmem_tree.proofs.Laws.{count_items, count-Seq}
use Rattle.tmem_builtins.specs.Builtins.{builtin_steps}
use Rattle.tmem_builtins.specs.Transactions.{IsStepCall, ReadsOnly, ReadsNone, is_put}
use Rattle.tmem_builtins.proofs.Sequences.{asks_in, asks-Seq}

-- a tree that asks for nothing and has no number
pub record IsQuiet (tx : Tx) : Type 0 where
  pub reads : ReadsNone tx
  pub numbers : count is_put tx ≡ 0

pub call_quiet : {index first second : ℕ} {tx : Tx} → IsStepCall index first second tx → IsQuiet tx
call_quiet call = record {
  reads = λ tests view. ap (λ t. asks builtin_steps tests t view) call.is;
  numbers = ap (count is_put) call.is;
}

pub write_quiet : (var reg : ℕ) → IsQuiet (Write var reg)
write_quiet var reg = record { reads = λ tests view. refl; numbers = refl }

-- each of these is quiet
abbrev pub AreQuiet : List Tx → Type 0
AreQuiet [] = Unit {0}
AreQuiet (tx ∷ txs) = IsQuiet tx × AreQuiet txs

then_none : (r : RunResult) (next : View → List Ask) → ((view : View) → next view ≡ []) → then_ask r next ≡ []
then_none (Normal view) next none = none view
then_none Retried next none = refl
then_none (Aborted code) next none = refl
then_none (Broken name) next none = refl

asks_quiet : (txs : List Tx) → AreQuiet txs → (tests : Meanings) (view : View) → asks_in builtin_steps tests txs view ≡ []
asks_quiet [] quiet tests view = refl
asks_quiet (tx ∷ txs) quiet tests view =
    ap (λ l. l ++ then_ask (run builtin_steps tests tx view) (asks_in builtin_steps tests txs)) (quiet.0.reads tests view)
    ∙ then_none (run builtin_steps tests tx view) (asks_in builtin_steps tests txs) (asks_quiet txs quiet.1 tests)

count_quiet : (txs : List Tx) → AreQuiet txs → count_items is_put txs ≡ 0
count_quiet [] quiet = refl
count_quiet (tx ∷ txs) quiet = ap (λ n. n + count_items is_put txs) quiet.0.numbers ∙ ap (λ n. 0 + n) (count_quiet txs quiet.1)

-- a number, and quiet ones
pub put_reads : {n : ℤ} {rest : List Tx} (txs : Vec Tx Global) → AreQuiet rest → txs.items ≡ Put 15 n ∷ rest → ReadsNone (Seq txs)
put_reads {rest = rest} txs quiet items tests view =
    asks-Seq builtin_steps tests txs view ∙ ap (λ l. asks_in builtin_steps tests l view) items ∙ asks_quiet rest quiet tests _

pub put_number : {n : ℤ} {rest : List Tx} (txs : Vec Tx Global) → AreQuiet rest → txs.items ≡ Put 15 n ∷ rest → count is_put (Seq txs) ≡ 1
put_number {rest = rest} txs quiet items =
    count-Seq is_put txs ∙ ap (λ l. 0 + count_items is_put l) items ∙ ap (λ m. 0 + (1 + m)) (count_quiet rest quiet)

-- a variable and a number, and quiet ones
pub both_reads : {var : ℕ} {n : ℤ} {rest : List Tx} (txs : Vec Tx Global) → AreQuiet rest → txs.items ≡ Read var 14 ∷ Put 15 n ∷ rest → ReadsOnly var (Seq txs)
both_reads {var = var} {rest = rest} txs quiet items tests view =
    asks-Seq builtin_steps tests txs view ∙ ap (λ l. asks_in builtin_steps tests l view) items
    ∙ ap (λ l. asks builtin_steps tests (Read var 14) view ++ l) (asks_quiet rest quiet tests _) ∙ append-nil (asks builtin_steps tests (Read var 14) view)

pub both_number : {var : ℕ} {n : ℤ} {rest : List Tx} (txs : Vec Tx Global) → AreQuiet rest → txs.items ≡ Read var 14 ∷ Put 15 n ∷ rest → count is_put (Seq txs) ≡ 1
both_number {rest = rest} txs quiet items =
    count-Seq is_put txs ∙ ap (λ l. 0 + count_items is_put l) items ∙ ap (λ m. 0 + (0 + (1 + m))) (count_quiet rest quiet)
