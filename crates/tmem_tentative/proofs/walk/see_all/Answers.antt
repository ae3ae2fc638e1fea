use Rattle.std.proofs.Common.{◌≡◌, ◌+◌, [], ◌∷◌, ◌++◌, Some, ◌∙◌, rules, arith, sym, ap, drop, slice_index}
use Rattle.std.proofs.lemmas.Grind.{common_steps}
use Rattle.tmem_effect.specs.Writes.{value_in}
use Rattle.tmem_tentative.specs.Eval.{footprint_seen, seen_of}
use Rattle.tmem_tentative.specs.Logs.{run_state_of}
use Rattle.tmem_tentative.proofs.EvalSights.{ahead, ahead_seen}
use Rattle.tmem_tentative.proofs.walk.see_all.Goals as goal

pub loop-var-preserved : goal.loop-var-preserved
loop-var-preserved c =
    let reads = c.args.reads.now.entries in
    let vars = c.args.vars.now in
    let i = c.loop-var.var-index in
    let log = c.loop-var.log in
    let var = slice_index vars i in
    let rest : drop i vars ≡ var ∷ drop (i + 1) vars = grind (arith, common_steps) in
    let pushed : c.push.new.self ≡ c.loop-var.into ++ c.in-Some.value ∷ [] = search rules in
    let value : Some c.in-Some.value ≡ seen_of (value_in log.effect.writes var) (value_in reads var) = grind (arith, common_steps) in (
      grind (arith, common_steps),
      grind (arith, common_steps),
      λ left.
          c.loop-var.invariant.2 left ∙ ap (λ vs. ahead c.loop-var.into (footprint_seen reads vs (run_state_of log left))) rest
          ∙ ahead_seen reads var (drop (i + 1) vars) (run_state_of log left) (run_state_of c.see.new.log left) c.in-Some.value c.loop-var.into value (c.in_ok-value.ensures.state left)
          ∙ ap (λ values. ahead values (footprint_seen reads (drop (i + 1) vars) (run_state_of c.see.new.log left))) (sym pushed),
    )
