-- What is left of a Seq, of which a run goes through one tree after another.
use Rattle.std.proofs.Common.{◌≡◌, ℕ, ℤ, ◌+◌, ◌≤◌, Bool, List, ◌∷◌, sym, ap, ◌∙◌, arith}
use Rattle.std.specs.declared.vec.Vec.{Vec}
use Rattle.std.specs.declared.alloc.Global.{Global}
use Rattle.tmem_tree.proofs.Laws.{count_items, count-Seq}
use Rattle.tmem_tree.specs.Limits.{count}
use Rattle.tmem_tree.specs.StepAnswers.{StepMeanings}
use Rattle.tmem_tree.specs.declared.tx.Tx.{Tx}
use Rattle.tmem_tree.specs.declared.tx.Tx.TheVariants.{Seq}
use Rattle.tmem_tentative.specs.declared.attempt.Attempt.{Attempt}
use Rattle.tmem_tentative.specs.declared.attempt.Probe.{Probe as Asked}
use Rattle.tmem_tentative.specs.declared.flow.Flow as code
use Rattle.tmem_tentative.specs.declared.flow.Flow.TheVariants.{Normal}
use Rattle.tmem_tentative.specs.Eval.{RunState, Flow, eval, then_eval}
use Rattle.tmem_tentative.specs.Logs.{flow_at, out_of}
use Rattle.tmem_tentative.proofs.EvalSeq.{eval_in, eval-Seq}

-- at its start, all of it
module _ {tx : Tx} {items : List Tx} (txs : Vec Tx Global) (is : tx ≡ Seq txs) (same : items ≡ txs.items) where
  no_more : (test : Tx → Bool) → count_items test items ≤ count test tx
  no_more test = omega (arith, ap (count test) is, count-Seq test txs, ap (count_items test) same)

  pub none_at_start : (test : Tx → Bool) → count test tx ≡ 0 → count_items test items ≡ 0
  none_at_start test h = omega (arith, h, no_more test)

  pub within_at_start : (test : Tx → Bool) (n : ℕ) → n + count_items test items ≤ n + count test tx
  within_at_start test n = omega (arith, no_more test)

  pub evals_at_start : (m : StepMeanings) (footprint : List ℕ → List ℕ) (reads : List (ℕ × ℤ)) (s : RunState) → eval m footprint reads tx s ≡ eval_in m footprint reads items s
  evals_at_start m footprint reads s = ap (λ t. eval m footprint reads t s) is ∙ eval-Seq m footprint reads txs s ∙ ap (λ l. eval_in m footprint reads l s) (sym same)

-- behind the first of these
module _ {all others : List Tx} {tx : Tx} (here : all ≡ tx ∷ others) where
  pub none_next : (test : Tx → Bool) → count_items test all ≡ 0 → count_items test others ≡ 0
  none_next test h = omega (arith, h, ap (count_items test) here)

  pub within_next : (test : Tx → Bool) (n l m whole : ℕ) → l + count_items test all ≤ m + whole → n ≤ l + count test tx → n + count_items test others ≤ m + whole
  within_next test n l m whole left le = omega (arith, left, le, ap (count_items test) here)

  pub evals_next : (m : StepMeanings) (footprint : List ℕ → List ℕ) (reads : List (ℕ × ℤ)) {f : Flow} (flow : code.Flow) (log : Attempt) (probe : Asked) (s s' : RunState) → flow ≡ Normal → f ≡ eval_in m footprint reads all s
      → flow_at (out_of flow log probe) s' ≡ eval m footprint reads tx s → f ≡ eval_in m footprint reads others s'
  evals_next m footprint reads flow log probe s s' normal left goes =
      left ∙ ap (λ l. eval_in m footprint reads l s) here
      ∙ ap (λ f. then_eval f (eval_in m footprint reads others)) (sym goes ∙ ap (λ k. flow_at (out_of k log probe) s') normal)
