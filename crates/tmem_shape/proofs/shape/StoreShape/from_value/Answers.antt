use Rattle.std.proofs.Common.{◌≡◌, ℕ, List, String, Global, Some, codes, sym, ◌∙◌, subst}
use Rattle.serde_json.specs.View.{view}
use Rattle.tmem_forms.specs.TxForms.{natural}
use Rattle.tmem_tables.specs.declared.linear.Linear.{Linear}
use Rattle.tmem_shape.specs.Shapes.{HasInvariants, HasNames, HasNumber, IsShape}
use Rattle.tmem_shape.specs.declared.shape.StoreShape.{StoreShape}
use Rattle.tmem_shape.proofs.Refusals.{no_value, passed_on}
use Rattle.tmem_shape.proofs.shape.StoreShape.from_value.Goals as goal

same_number : (m n : ℕ) → Some (natural m) ≡ Some (natural n) → m ≡ n
same_number m n same = cc

pub returns-in_err-invariants-clause-refused : goal.returns-in_err-invariants-clause-refused
returns-in_err-invariants-clause-refused c =
    let d = view c.args.value.now in
    let vars = c.in_ok-vars.vars in
    passed_on ((linears : List Linear) → ¬ HasInvariants vars linears d) ((shape : StoreShape) → ¬ IsShape shape d)
    c.from_residual-in_err-invariants.result c.in_err-invariants.field-0.0 c.from_residual-in_err-invariants.ensures.1 c.in_err-invariants.ensures.refused
    (λ none shape is.
    let same = same_number shape.vars vars (sym is.vars.stands ∙ c.in_ok-vars.ensures.ok.stands) in
    none shape.invariants.items (subst (λ (n : ℕ). HasInvariants n shape.invariants.items d) same is.invariants))

pub returns-in_err-vars-clause-refused : goal.returns-in_err-vars-clause-refused
returns-in_err-vars-clause-refused c =
    let d = view c.args.value.now in
    passed_on ((n : ℕ) → ¬ HasNumber (codes "vars") 1 1024 n d) ((shape : StoreShape) → ¬ IsShape shape d)
    c.from_residual-in_err-vars.result c.in_err-vars.field-0.0 c.from_residual-in_err-vars.ensures.1 c.in_err-vars.ensures.refused
    (λ none shape is. none shape.vars is.vars)

pub returns-in_err-slots-clause-refused : goal.returns-in_err-slots-clause-refused
returns-in_err-slots-clause-refused c =
    let d = view c.args.value.now in
    passed_on ((n : ℕ) → ¬ HasNumber (codes "slots") 2 64 n d) ((shape : StoreShape) → ¬ IsShape shape d)
    c.from_residual-in_err-slots.result c.in_err-slots.field-0.0 c.from_residual-in_err-slots.ensures.1 c.in_err-slots.ensures.refused
    (λ none shape is. none shape.slots is.slots)

pub returns-in_err-names-clause-refused : goal.returns-in_err-names-clause-refused
returns-in_err-names-clause-refused c =
    let d = view c.args.value.now in
    let vars = c.in_ok-vars.vars in
    passed_on ((names : List (String Global × ℕ)) → ¬ HasNames vars names d) ((shape : StoreShape) → ¬ IsShape shape d)
    c.from_residual-in_err-names.result c.in_err-names.field-0.0 c.from_residual-in_err-names.ensures.1 c.in_err-names.ensures.refused
    (λ none shape is.
    let same = same_number shape.vars vars (sym is.vars.stands ∙ c.in_ok-vars.ensures.ok.stands) in
    none shape.names.items (subst (λ (n : ℕ). HasNames n shape.names.items d) same is.names))

pub returns-clause-ok : goal.returns-clause-ok
returns-clause-ok c = record {
  only = c.in_ok-check_keys.ensures.ok;
  vars = c.in_ok-vars.ensures.ok;
  slots = c.in_ok-slots.ensures.ok;
  invariants = c.in_ok-invariants.ensures.ok;
  names = c.in_ok-names.ensures.ok;
}

pub returns-in_err-vars-clause-ok : goal.returns-in_err-vars-clause-ok
returns-in_err-vars-clause-ok c = no_value _ _ c.from_residual-in_err-vars.result c.from_residual-in_err-vars.ensures.1

pub returns-in_err-slots-clause-ok : goal.returns-in_err-slots-clause-ok
returns-in_err-slots-clause-ok c = no_value _ _ c.from_residual-in_err-slots.result c.from_residual-in_err-slots.ensures.1

pub returns-in_err-invariants-clause-ok : goal.returns-in_err-invariants-clause-ok
returns-in_err-invariants-clause-ok c = no_value _ _ c.from_residual-in_err-invariants.result c.from_residual-in_err-invariants.ensures.1

pub returns-in_err-names-clause-ok : goal.returns-in_err-names-clause-ok
returns-in_err-names-clause-ok c = no_value _ _ c.from_residual-in_err-names.result c.from_residual-in_err-names.ensures.1
