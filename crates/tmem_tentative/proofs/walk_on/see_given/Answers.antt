use Rattle.std.proofs.Common.{◌≡◌, ℤ, List, length, length-append, ◌∷◌, ◌++◌, [], suc, drop, drop-cons, add-one, sym, ap, ◌∙◌, append-nil, arith, rules}
use Rattle.std.proofs.lemmas.List.{drop_all}
use Rattle.tmem_tentative.specs.Eval.{Found, footprint_seen}
use Rattle.tmem_tentative.specs.Logs.{run_state_of}
use Rattle.tmem_tentative.proofs.EvalSights.{ahead, ahead_seen}
use Rattle.tmem_tentative.proofs.PlaceLeaves.{noted-same, footprint_none}
use Rattle.tmem_tentative.proofs.walk_on.see_given.Goals as goal

pub returns-in-None : goal.returns-in-None
returns-in-None c = λ left.
    let s = run_state_of c.args.log.now left in
    let vars = c.args.vars.now in
    let here = drop-cons vars c.loop-var.var-index 0 c.loop-var-test.true in
    c.loop-var.invariant.seen left
    ∙ ap (λ vs. ahead c.loop-var.into (footprint_seen s.seen.reads vs s)) here
    ∙ ap (ahead c.loop-var.into) (footprint_none s _ (drop (suc c.loop-var.var-index) vars) (sym c.value_seen.ensures ∙ c.in-None.is))

pub loop-var-preserved : goal.loop-var-preserved
loop-var-preserved c =
    let into = c.loop-var.into in
    let pushed : c.push.new.self ≡ into ++ c.in-Some.value ∷ [] = search rules in
    record {
      seen = λ left.
          let s = run_state_of c.args.log.now left in
          let vars = c.args.vars.now in
          let here = drop-cons vars c.loop-var.var-index 0 c.loop-var-test.true in
          let rest = footprint_seen s.seen.reads (drop (suc c.loop-var.var-index) vars) s in
          c.loop-var.invariant.seen left
          ∙ ap (λ vs. ahead into (footprint_seen s.seen.reads vs s)) here
          ∙ ahead_seen s.seen.reads _ (drop (suc c.loop-var.var-index) vars) s s c.in-Some.value into (sym c.in-Some.is ∙ c.value_seen.ensures) (noted-same s _)
          ∙ ap (λ l. ahead l rest) (sym pushed)
          ∙ ap (λ k. ahead c.push.new.self (footprint_seen s.seen.reads (drop k vars) s)) (sym (add-one c.loop-var.var-index));
      short = omega (arith, c.loop-var.invariant.short, ap (λ (l : List ℤ). length l) pushed, length-append into (c.in-Some.value ∷ []));
    }

pub returns : goal.returns
returns c = λ left.
    let s = run_state_of c.args.log.now left in
    c.loop-var.invariant.seen left
    ∙ ap (λ vs. ahead c.loop-var.into (footprint_seen s.seen.reads vs s)) (drop_all c.loop-var.var-index c.args.vars.now c.loop-var-test.false)
    ∙ ap (λ l. Found l s) (append-nil c.loop-var.into)
