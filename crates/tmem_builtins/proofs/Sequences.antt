-- What a Seq does, reads and counts, over the list of its trees.
use Rattle.std.proofs.Common.{◌≡◌, ◌+◌, ℤ, Bool, List, [], ◌∷◌, ◌++◌, SFits, w64, to_z, of_z, sum_by, refl, sym, ap, ◌∙◌, zero-add, rules}
use mathlib.Core.Path.{fun_ext}
use Rattle.std.proofs.lemmas.Int.{to_z-of_z}
use Rattle.std.proofs.lemmas.List.Sums.{sum_by-cons}
use Rattle.std.specs.declared.vec.Vec.{Vec}
use Rattle.std.specs.declared.alloc.Global.{Global}
use Rattle.tmem_tree.specs.declared.tx.Tx.{Tx, Row_of-Tx, end_of-Tx, more_of-Tx}
use Rattle.tmem_tree.specs.declared.tx.Tx.TheVariants.{Seq, Put}
use Rattle.tmem_tree.specs.declared.tx.Tx.TheBlock.{items-the_row-Tx}
use Rattle.tmem_tree.specs.declared.tx.Tx.TheViews.{the_lemmas}
use Rattle.tmem_tree.specs.StepAnswers.{StepMeanings}
use Rattle.tmem_tree.specs.Limits.{count}
use Rattle.tmem_tree.proofs.Laws.{count_items, count-Seq}
use Rattle.tmem_tree.specs.Run.{View, run, run_all, then_run}
use Rattle.tmem_tree.specs.Visited.{Ask, asks, asks_all, then_ask}
use Rattle.tmem_invariants.specs.Meanings.{Meanings}
use Rattle.tmem_builtins.specs.Transactions.{is_put, run_in_turn}

-- a number as it is passed to a function
pub put_passed : {tx : Tx} {n : ℤ} → SFits w64 n → tx ≡ Put 15 (to_z w64 (of_z w64 n)) → tx ≡ Put 15 n
put_passed {n = n} fits is = is ∙ ap (Put 15) (to_z-of_z w64 n fits)

-- lists whose first two items are the same, and whose others are
pub begins : {X : Type 0} {xs rest rest' : List X} {x y x' y' : X} → xs ≡ x ∷ y ∷ rest → x ≡ x' → y ≡ y' → rest ≡ rest' → xs ≡ x' ∷ y' ∷ rest'
begins is first second others = cc

module _ (steps : StepMeanings) (tests : Meanings) where
  run_all-items : {m : _} (txs : Row_of-Tx m) (view : View) → run_all steps tests txs view ≡ run_in_turn steps tests (items-the_row-Tx m txs) view
  run_all-items end_of-Tx view = refl
  run_all-items (more_of-Tx tx txs) view = ap (then_run (run steps tests tx view)) (fun_ext (run_all-items txs))

  pub run-Seq : (txs : Vec Tx Global) (view : View) → run steps tests (Seq txs) view ≡ run_in_turn steps tests txs.items view
  run-Seq txs view = search (rules, the_lemmas, run_all-items)

  abbrev pub asks_in : List Tx → View → List Ask
  asks_in [] view = []
  asks_in (tx ∷ txs) view = asks steps tests tx view ++ then_ask (run steps tests tx view) (asks_in txs)

  asks_all-items : {m : _} (txs : Row_of-Tx m) (view : View) → asks_all steps tests txs view ≡ asks_in (items-the_row-Tx m txs) view
  asks_all-items end_of-Tx view = refl
  asks_all-items (more_of-Tx tx txs) view = ap (λ next. asks steps tests tx view ++ then_ask (run steps tests tx view) next) (fun_ext (asks_all-items txs))

  pub asks-Seq : (txs : Vec Tx Global) (view : View) → asks steps tests (Seq txs) view ≡ asks_in txs.items view
  asks-Seq txs view = search (rules, the_lemmas, asks_all-items)

count_items-sum : (test : Tx → Bool) (txs : List Tx) → count_items test txs ≡ sum_by (count test) txs
count_items-sum test [] = refl
count_items-sum test (tx ∷ txs) = ap (λ n. count test tx + n) (count_items-sum test txs) ∙ sym (sum_by-cons (count test) tx txs)

pub numbers-Seq : (txs : Vec Tx Global) → count is_put (Seq txs) ≡ sum_by (count is_put) txs.items
numbers-Seq txs = count-Seq is_put txs ∙ zero-add (count_items is_put txs.items) ∙ count_items-sum is_put txs.items
