use Rattle.std.proofs.Common.{ℕ, ℤ, Bool, List, Option, codes}
use Rattle.serde_json.specs.View.{view}
use Rattle.tmem_tables.specs.declared.linear.Linear.{Linear}
use Rattle.tmem_tables.specs.declared.weight.Weight.{Weight}
use Rattle.tmem_shape.specs.Shapes.{HasAlways, HasBound, HasName, HasSum, IsInvariant}
use Rattle.tmem_shape.proofs.Refusals.{no_value, passed_on}
use Rattle.tmem_shape.proofs.invariants.linear_of.Goals as goal

pub returns-in_err-name-clause-refused : goal.returns-in_err-name-clause-refused
returns-in_err-name-clause-refused c =
    let d = view c.args.value.now in
    passed_on ((name : List ℕ) → ¬ HasName name d) ((linear : Linear) → ¬ IsInvariant c.args.vars linear d)
    c.from_residual-in_err-name.result c.in_err-name.field-0.0 c.from_residual-in_err-name.ensures.1 c.in_err-name.ensures.refused
    (λ none linear is. none linear.name is.name)

pub returns-in_err-footprint-clause-refused : goal.returns-in_err-footprint-clause-refused
returns-in_err-footprint-clause-refused c =
    let d = view c.args.value.now in
    passed_on ((footprint : List ℕ) (weights : List Weight) → ¬ HasSum c.args.vars footprint weights d) ((linear : Linear) → ¬ IsInvariant c.args.vars linear d)
    c.from_residual-in_err-footprint.result c.in_err-footprint.field-0.0 c.from_residual-in_err-footprint.ensures.1 c.in_err-footprint.ensures.refused
    (λ none linear is. none linear.footprint.items linear.weights.items is.sum)

pub returns-in_err-least-clause-refused : goal.returns-in_err-least-clause-refused
returns-in_err-least-clause-refused c =
    let d = view c.args.value.now in
    passed_on ((bound : Option ℤ) → ¬ HasBound (codes "least") bound d) ((linear : Linear) → ¬ IsInvariant c.args.vars linear d)
    c.from_residual-in_err-least.result c.in_err-least.field-0.0 c.from_residual-in_err-least.ensures.1 c.in_err-least.ensures.refused
    (λ none linear is. none linear.least is.least)

pub returns-in_err-most-clause-refused : goal.returns-in_err-most-clause-refused
returns-in_err-most-clause-refused c =
    let d = view c.args.value.now in
    passed_on ((bound : Option ℤ) → ¬ HasBound (codes "most") bound d) ((linear : Linear) → ¬ IsInvariant c.args.vars linear d)
    c.from_residual-in_err-most.result c.in_err-most.field-0.0 c.from_residual-in_err-most.ensures.1 c.in_err-most.ensures.refused
    (λ none linear is. none linear.most is.most)

pub returns-in_err-always-clause-refused : goal.returns-in_err-always-clause-refused
returns-in_err-always-clause-refused c =
    let d = view c.args.value.now in
    passed_on ((always : Bool) → ¬ HasAlways always d) ((linear : Linear) → ¬ IsInvariant c.args.vars linear d)
    c.from_residual-in_err-always.result c.in_err-always.field-0.0 c.from_residual-in_err-always.ensures.1 c.in_err-always.ensures.refused
    (λ none linear is. none linear.always is.always)

pub returns-in_err-name-clause-ok : goal.returns-in_err-name-clause-ok
returns-in_err-name-clause-ok c = no_value _ _ c.from_residual-in_err-name.result c.from_residual-in_err-name.ensures.1

pub returns-in_err-footprint-clause-ok : goal.returns-in_err-footprint-clause-ok
returns-in_err-footprint-clause-ok c = no_value _ _ c.from_residual-in_err-footprint.result c.from_residual-in_err-footprint.ensures.1

pub returns-in_err-least-clause-ok : goal.returns-in_err-least-clause-ok
returns-in_err-least-clause-ok c = no_value _ _ c.from_residual-in_err-least.result c.from_residual-in_err-least.ensures.1

pub returns-in_err-most-clause-ok : goal.returns-in_err-most-clause-ok
returns-in_err-most-clause-ok c = no_value _ _ c.from_residual-in_err-most.result c.from_residual-in_err-most.ensures.1

pub returns-in_err-always-clause-ok : goal.returns-in_err-always-clause-ok
returns-in_err-always-clause-ok c = no_value _ _ c.from_residual-in_err-always.result c.from_residual-in_err-always.ensures.1

pub new-requires-clause-footprint : goal.new-requires-clause-footprint
new-requires-clause-footprint c = c.in_ok-footprint.ensures.ok.is_footprint

pub new-requires-clause-paired : goal.new-requires-clause-paired
new-requires-clause-paired c = c.in_ok-footprint.ensures.ok.terms.paired
