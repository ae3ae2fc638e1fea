use Rattle.std.proofs.Common.{◌≡◌, ℕ, List, Some, length, map, sym, ap, ◌∙◌, subst, arith}
use Rattle.std.proofs.lemmas.List.{length-map}
use Rattle.serde_json.specs.View.{view}
use Rattle.tmem_fault.specs.Distinct.{AreDistinct}
use Rattle.tmem_forms.specs.TxForms.{array_of}
use Rattle.tmem_tables.specs.declared.weight.Weight.{Weight}
use Rattle.tmem_shape.specs.Shapes.{AreTerms, HasSum, terms_form}
use Rattle.tmem_shape.proofs.Arrays.{array_found}
use Rattle.tmem_shape.proofs.Refusals.{no_value, passed_on}
use Rattle.tmem_shape.proofs.SumTerms.{length-terms_form, sum_length, sum_terms, terms_same}
use Rattle.tmem_shape.proofs.terms.sum_of.Goals as goal

pub returns-then-len-gt-MAX_FOOTPRINT-clause-refused :
    goal.returns-then-len-gt-MAX_FOOTPRINT-clause-refused
returns-then-len-gt-MAX_FOOTPRINT-clause-refused c = λ footprint weights has.
    let v = view c.in_ok-found.found.now in
    let items = c.in_ok-items.items in
    let found : c.as_array.result ≡ Some items = grind arith in
    let is = array_found v c.as_array.result items c.as_array.ensures found in
    let long = sum_length (view c.args.value.now) v items.now.items c.args.vars footprint weights c.in_ok-found.ensures.ok is has in
    omega (arith, has.is_footprint.short, c.len.ensures, c.if-len-gt-MAX_FOOTPRINT.true)

pub returns-in_err-footprint-clause-refused : goal.returns-in_err-footprint-clause-refused
returns-in_err-footprint-clause-refused c =
    let d = view c.args.value.now in
    let v = view c.in_ok-found.found.now in
    let items = c.in_ok-items.items in
    let found : c.as_array.result ≡ Some items = grind arith in
    let is = array_found v c.as_array.result items c.as_array.ensures found in
    passed_on ((footprint : List ℕ) (weights : List Weight) → AreTerms c.args.vars footprint weights → ¬ (map view c.deref.result.now ≡ terms_form footprint weights))
    ((footprint : List ℕ) (weights : List Weight) → ¬ HasSum c.args.vars footprint weights d)
    c.from_residual-in_err-footprint.result c.in_err-footprint.field-0.0 c.from_residual-in_err-footprint.ensures.1 c.in_err-footprint.ensures.refused
    (λ none footprint weights has.
    none footprint weights has.terms (ap (map view) c.deref.ensures.value ∙ sum_terms d v items.now.items c.args.vars footprint weights c.in_ok-found.ensures.ok is has))

pub returns-in-Some-clause-refused : goal.returns-in-Some-clause-refused
returns-in-Some-clause-refused c = λ footprint weights has.
    let v = view c.in_ok-found.found.now in
    let items = c.in_ok-items.items in
    let found : c.as_array.result ≡ Some items = grind arith in
    let is = array_found v c.as_array.result items c.as_array.ensures found in
    let read = c.in_ok-footprint in
    let terms = sym read.ensures.ok ∙ ap (map view) c.deref.ensures.value ∙ sum_terms (view c.args.value.now) v items.now.items c.args.vars footprint weights c.in_ok-found.ensures.ok is has in
    let same = terms_same read.footprint.items footprint read.weights.items weights read.ensures.fits.paired has.terms.paired terms in
    c.in-Some.ensures.distinct (subst AreDistinct (sym (c.deref-2.ensures.value ∙ same)) has.is_footprint.distinct)

pub returns-clause-ok : goal.returns-clause-ok
returns-clause-ok c =
    let v = view c.in_ok-found.found.now in
    let items = c.in_ok-items.items in
    let found : c.as_array.result ≡ Some items = grind arith in
    let is = array_found v c.as_array.result items c.as_array.ensures found in
    let read = c.in_ok-footprint in
    let terms : map view items.now.items ≡ terms_form read.footprint.items read.weights.items = ap (map view) (sym c.deref.ensures.value) ∙ read.ensures.ok in
    let long : length items.now.items ≡ length read.footprint.items =
    sym (length-map items.now.items view) ∙ ap length terms ∙ length-terms_form read.footprint.items read.weights.items read.ensures.fits.paired in
    record {
      stands = c.in_ok-found.ensures.ok ∙ ap Some (is ∙ ap array_of terms);
      terms = read.ensures.fits;
      is_footprint = record {
        not_empty = grind arith;
        short = omega (arith, c.len.ensures);
        distinct = subst AreDistinct c.deref-2.ensures.value c.in_default.ensures.distinct;
      };
    }

pub returns-in_err-found-clause-ok : goal.returns-in_err-found-clause-ok
returns-in_err-found-clause-ok c = no_value _ _ c.from_residual.result c.from_residual.ensures.1

pub returns-in_err-items-clause-ok : goal.returns-in_err-items-clause-ok
returns-in_err-items-clause-ok c = no_value _ _ c.from_residual-in_err-items.result c.from_residual-in_err-items.ensures.1

pub returns-in_err-footprint-clause-ok : goal.returns-in_err-footprint-clause-ok
returns-in_err-footprint-clause-ok c = no_value _ _ c.from_residual-in_err-footprint.result c.from_residual-in_err-footprint.ensures.1
