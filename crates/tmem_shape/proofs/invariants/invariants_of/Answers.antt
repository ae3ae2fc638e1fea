use Rattle.std.proofs.Common.{◌≡◌, List, Some, map, sym, ap, ◌∙◌, subst, arith}
use Rattle.std.specs.List.{AllZip}
use Rattle.std.proofs.lemmas.List.{length-map}
use Rattle.serde_json.specs.View.{view}
use Rattle.serde_json.specs.declared.value.Value.{Value}
use Rattle.tmem_fault.specs.Distinct.{AreDistinct}
use Rattle.tmem_tables.specs.declared.linear.Linear.{Linear}
use Rattle.tmem_shape.specs.Shapes.{HasInvariants, IsInvariant}
use Rattle.tmem_shape.proofs.Arrays.{array_found, length-AllZip}
use Rattle.tmem_shape.proofs.Linears.{forms_found, names_once}
use Rattle.tmem_shape.proofs.Refusals.{passed_on}
use Rattle.tmem_shape.proofs.invariants.invariants_of.Goals as goal

pub returns-then-len-gt-MAX_INVARIANTS-clause-refused :
    goal.returns-then-len-gt-MAX_INVARIANTS-clause-refused
returns-then-len-gt-MAX_INVARIANTS-clause-refused c = λ linears has.
    let v = view c.in_ok-found.found.now in
    let items = c.in_ok-items.items in
    let found : c.as_array.result ≡ Some items = grind arith in
    let is = array_found v c.as_array.result items c.as_array.ensures found in
    let forms = forms_found (view c.args.value.now) v items.now.items c.args.vars linears c.in_ok-found.ensures.ok is has in
    let long = length-AllZip (IsInvariant c.args.vars) linears (map view items.now.items) forms ∙ length-map items.now.items view in
    omega (arith, has.few, c.len.ensures, c.if-len-gt-MAX_INVARIANTS.true)

pub returns-in_err-invariants-clause-refused : goal.returns-in_err-invariants-clause-refused
returns-in_err-invariants-clause-refused c =
    let d = view c.args.value.now in
    let v = view c.in_ok-found.found.now in
    let items = c.in_ok-items.items in
    let found : c.as_array.result ≡ Some items = grind arith in
    let is = array_found v c.as_array.result items c.as_array.ensures found in
    passed_on ((linears : List Linear) → ¬ AllZip (IsInvariant c.args.vars) linears (map view c.deref.result.now)) ((linears : List Linear) → ¬ HasInvariants c.args.vars linears d)
    c.from_residual-in_err-invariants.result c.in_err-invariants.field-0.0 c.from_residual-in_err-invariants.ensures.1 c.in_err-invariants.ensures.refused
    (λ none linears has.
    none linears (subst (λ (vs : List Value). AllZip (IsInvariant c.args.vars) linears (map view vs)) (sym c.deref.ensures.value) (forms_found d v items.now.items c.args.vars linears c.in_ok-found.ensures.ok is has)))

pub returns-in-Some-clause-refused : goal.returns-in-Some-clause-refused
returns-in-Some-clause-refused c = λ linears has.
    let v = view c.in_ok-found.found.now in
    let items = c.in_ok-items.items in
    let found : c.as_array.result ≡ Some items = grind arith in
    let is = array_found v c.as_array.result items c.as_array.ensures found in
    let read = c.in_ok-invariants.invariants.items in
    let first = subst (λ (vs : List Value). AllZip (IsInvariant c.args.vars) read (map view vs)) c.deref.ensures.value c.in_ok-invariants.ensures.ok in
    let second = forms_found (view c.args.value.now) v items.now.items c.args.vars linears c.in_ok-found.ensures.ok is has in
    let same = ap (map (λ (l : Linear). l.name)) c.deref-2.ensures.value ∙ names_once c.args.vars read linears (map view items.now.items) first second in
    c.in-Some.ensures.repeated (subst AreDistinct (sym same) has.distinct)

pub returns-clause-ok : goal.returns-clause-ok
returns-clause-ok c =
    let v = view c.in_ok-found.found.now in
    let items = c.in_ok-items.items in
    let found : c.as_array.result ≡ Some items = grind arith in
    let is = array_found v c.as_array.result items c.as_array.ensures found in
    let read = c.in_ok-invariants.invariants.items in
    let forms = subst (λ (vs : List Value). AllZip (IsInvariant c.args.vars) read (map view vs)) c.deref.ensures.value c.in_ok-invariants.ensures.ok in
    let long = length-AllZip (IsInvariant c.args.vars) read (map view items.now.items) forms ∙ length-map items.now.items view in
    record {
      values = map view items.now.items;
      stands = c.in_ok-found.ensures.ok ∙ ap Some is;
      forms = forms;
      few = omega (arith, c.len.ensures);
      distinct = subst AreDistinct (ap (map (λ (l : Linear). l.name)) c.deref-2.ensures.value) c.in_default.ensures.repeated;
    }
