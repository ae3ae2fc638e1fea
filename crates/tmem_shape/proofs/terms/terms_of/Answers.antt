use Rattle.std.proofs.lemmas.Grind.{common_steps}
use Rattle.std.proofs.Common.{◌≡◌, ◌<◌, ℕ, List, [], ◌∷◌, ◌++◌, All, map, take, sym, ap, ◌∙◌, subst, arith}
use Rattle.std.proofs.lemmas.List.Elements.{All-push}
use Rattle.serde_json.specs.View.{view}
use Rattle.tmem_tables.specs.declared.weight.Weight.{Weight}
use Rattle.tmem_shape.specs.Shapes.{AreTerms, WeightFits, term_form, terms_form}
use Rattle.tmem_shape.proofs.Arrays.{map-take_more}
use Rattle.tmem_shape.proofs.Refusals.{passed_on}
use Rattle.tmem_shape.proofs.SumTerms.{no_terms_at, terms_more}
use Rattle.tmem_shape.proofs.terms.terms_of.Goals as goal

pub returns-in_err-var-clause-refused : goal.returns-in_err-var-clause-refused
returns-in_err-var-clause-refused c =
    let items = c.args.items.now in
    let item = c.index-items-i.result in
    passed_on ((var : ℕ) (weight : Weight) → var < c.args.vars → WeightFits weight → ¬ (view item ≡ term_form var weight))
    ((footprint : List ℕ) (weights : List Weight) → AreTerms c.args.vars footprint weights → ¬ (map view items ≡ terms_form footprint weights))
    c.from_residual-in_err-var.result c.in_err-var.field-0.0 c.from_residual-in_err-var.ensures.1 c.in_err-var.ensures.refused
    (λ none footprint weights are.
    no_terms_at c.args.vars items c.loop-i.i item c.loop-i-test.true c.index-items-i.is none footprint weights are.below are.fit)

pub loop-i-preserved : goal.loop-i-preserved
loop-i-preserved c =
    let items = c.args.items.now in
    let i = c.loop-i.i in
    let item = c.index-items-i.result in
    let footprint = c.loop-i.footprint.items in
    let weights = c.loop-i.weights.items in
    let before = c.loop-i.invariant in
    let var = c.in_ok-var.var in
    let weight = c.in_ok-var.weight in
    record {
      read = map-take_more view items i item c.loop-i-test.true c.index-items-i.is
          ∙ terms_more footprint weights (map view (take i items)) var weight (view item) before.fits.paired before.read c.in_ok-var.ensures.ok
          ∙ ap (λ (vars : List ℕ). terms_form vars (weights ++ weight ∷ [])) (sym c.in_ok-push.ensures.items)
          ∙ ap (terms_form c.push.new.self.items) (sym c.in_ok-push-2.ensures.items);
      fits = record {
        paired = omega (arith, before.fits.paired, c.in_ok-push.ensures.len, c.in_ok-push-2.ensures.len);
        below = subst (All (λ v. v < c.args.vars)) (sym c.in_ok-push.ensures.items) (All-push (λ v. v < c.args.vars) footprint var before.fits.below c.in_ok-var.ensures.fits.0);
        fit = subst (All WeightFits) (sym c.in_ok-push-2.ensures.items) (All-push WeightFits weights weight before.fits.fit c.in_ok-var.ensures.fits.1);
      };
    }

pub returns-in_err-push-clause-ok : goal.returns-in_err-push-clause-ok
returns-in_err-push-clause-ok c = grind (arith, common_steps)

pub returns-in_err-push-clause-fits : goal.returns-in_err-push-clause-fits
returns-in_err-push-clause-fits c = grind (arith, common_steps)

pub returns-in_err-push-clause-refused : goal.returns-in_err-push-clause-refused
returns-in_err-push-clause-refused c = grind (arith, common_steps)

pub returns-clause-ok : goal.returns-clause-ok
returns-clause-ok c = grind (arith, common_steps)
