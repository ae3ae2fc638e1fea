use Rattle.std.proofs.Common.{◌+◌, List, map, take, sym, subst}
use Rattle.std.specs.List.{AllZip}
use Rattle.serde_json.specs.View.{view}
use Rattle.tmem_tables.specs.declared.linear.Linear.{Linear}
use Rattle.tmem_shape.specs.Shapes.{IsInvariant}
use Rattle.tmem_shape.proofs.Arrays.{AllZip-take_more, no_AllZip}
use Rattle.tmem_shape.proofs.Refusals.{passed_on}
use Rattle.tmem_shape.proofs.invariants.linears_of.Goals as goal

pub returns-in_err-linear_of-clause-refused : goal.returns-in_err-linear_of-clause-refused
returns-in_err-linear_of-clause-refused c =
    let items = c.args.items.now in
    let item = c.index-items-i.result in
    passed_on ((linear : Linear) → ¬ IsInvariant c.args.vars linear (view item)) ((linears : List Linear) → ¬ AllZip (IsInvariant c.args.vars) linears (map view items))
    c.from_residual-in_err-linear_of.result c.in_err-linear_of.field-0.0 c.from_residual-in_err-linear_of.ensures.1 c.in_err-linear_of.ensures.refused
    (no_AllZip (IsInvariant c.args.vars) view items c.loop-i.i item c.loop-i-test.true c.index-items-i.is)

pub loop-i-preserved : goal.loop-i-preserved
loop-i-preserved c =
    let items = c.args.items.now in
    subst (λ (linears : List Linear). AllZip (IsInvariant c.args.vars) linears (map view (take (c.loop-i.i + 1) items))) (sym {A = List Linear} c.in_ok-push.ensures.items)
    (AllZip-take_more (IsInvariant c.args.vars) view c.loop-i.invariants.items items c.loop-i.i c.in_ok-linear_of.field-0 c.index-items-i.result c.loop-i-test.true c.index-items-i.is c.loop-i.invariant c.in_ok-linear_of.ensures.ok)
