-- The evaluation of a Seq, over the list of its trees.
use Rattle.std.proofs.Common.{◌≡◌, ℕ, ℤ, List, [], ◌∷◌, refl, ap, rules}
use mathlib.Core.Path.{fun_ext}
use Rattle.std.specs.declared.vec.Vec.{Vec}
use Rattle.std.specs.declared.alloc.Global.{Global}
use Rattle.tmem_tree.specs.declared.tx.Tx.{Tx, Row_of-Tx, end_of-Tx, more_of-Tx}
use Rattle.tmem_tree.specs.declared.tx.Tx.TheVariants.{Seq}
use Rattle.tmem_tree.specs.declared.tx.Tx.TheBlock.{items-the_row-Tx}
use Rattle.tmem_tree.specs.declared.tx.Tx.TheViews.{the_lemmas}
use Rattle.tmem_tree.specs.StepAnswers.{StepMeanings}
use Rattle.tmem_tentative.specs.Eval.{RunState, Flow, Goes, eval, eval_all, then_eval}

module _ (steps : StepMeanings) (footprint : List ℕ → List ℕ) (reads : List (ℕ × ℤ)) where
  abbrev pub eval_in : List Tx → RunState → Flow
  eval_in [] s = Goes s
  eval_in (tx ∷ txs) s = then_eval (eval steps footprint reads tx s) (eval_in txs)

  pub eval_all-items : {m : _} (txs : Row_of-Tx m) (s : RunState) → eval_all steps footprint reads txs s ≡ eval_in (items-the_row-Tx m txs) s
  eval_all-items end_of-Tx s = refl
  eval_all-items (more_of-Tx tx txs) s = ap (then_eval (eval steps footprint reads tx s)) (fun_ext (eval_all-items txs))

  pub eval-Seq : (txs : Vec Tx Global) (s : RunState) → eval steps footprint reads (Seq txs) s ≡ eval_in txs.items s
  eval-Seq txs s = search (rules, the_lemmas, eval_all-items)
