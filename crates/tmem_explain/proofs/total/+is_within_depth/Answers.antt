use Rattle.std.proofs.Common.{◌≤◌, refl, ap, arith, rules}
use Rattle.std.proofs.lemmas.List.{drop_all}
use Rattle.tmem_tree.proofs.Laws.{depth_items, depth-Seq}
use Rattle.tmem_tree.specs.Limits.{depth}
use Rattle.tmem_tree.specs.declared.tx.Tx.TheFolds as folds
use Rattle.tmem_explain.proofs.Nodes.{deep_here, depth_items-drop_more, shallow_here}
use Rattle.tmem_explain.proofs.total.+is_within_depth.Goals as goal

pub loop-t-init : goal.loop-t-init
loop-t-init t c = grind (arith, depth-Seq c.in-Seq.txs)

pub loop-t-preserved : goal.loop-t-preserved
loop-t-preserved t c =
    let larger = depth_items-drop_more c.deref-t-items.result.now c.loop-t.t-index c.t-item.result c.loop-t-test.true c.t-item.is in
    shallow_here (depth c.args.tx.now ≤ c.args.most) _ _ _ c.args.most c.is_within_depth.result larger c.is_within_depth.ensures c.if-not-is_within_depth.false c.loop-t.invariant

pub returns-then-not-is_within_depth : goal.returns-then-not-is_within_depth
returns-then-not-is_within_depth t c =
    let larger = depth_items-drop_more c.deref-t-items.result.now c.loop-t.t-index c.t-item.result c.loop-t-test.true c.t-item.is in
    deep_here (depth c.args.tx.now ≤ c.args.most) _ _ _ c.args.most c.is_within_depth.result larger c.is_within_depth.ensures c.if-not-is_within_depth.true c.loop-t.invariant

pub returns-after-loop-t : goal.returns-after-loop-t
returns-after-loop-t t c =
    let none = ap depth_items (drop_all c.loop-t.t-index c.deref-t-items.result.now c.loop-t-test.false) in
    (λ yes. c.loop-t.invariant.1 (omega (arith, none, c.if-most-eq0.false)), λ shallow. refl)

pub is_within_depth-requires : goal.is_within_depth-requires
is_within_depth-requires t c =
    let item = c.t-item.is in
    let within = c.loop-t-test.true in
    (grind (arith, folds.the_lemmas, item, within), tt)

pub is_within_depth-requires-in-When : goal.is_within_depth-requires-in-When
is_within_depth-requires-in-When t c = (search (rules, folds.the_lemmas), tt)

pub is_within_depth-requires-then-is_within_depth : goal.is_within_depth-requires-then-is_within_depth
is_within_depth-requires-then-is_within_depth t c = (search (rules, folds.the_lemmas), tt)

pub is_within_depth-requires-in-OrElse : goal.is_within_depth-requires-in-OrElse
is_within_depth-requires-in-OrElse t c = (search (rules, folds.the_lemmas), tt)

pub is_within_depth-requires-then-is_within_depth-2 : goal.is_within_depth-requires-then-is_within_depth-2
is_within_depth-requires-then-is_within_depth-2 t c = (search (rules, folds.the_lemmas), tt)
