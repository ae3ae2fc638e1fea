use Rattle.std.proofs.Common.{refl, ap, arith, rules}
use Rattle.std.proofs.lemmas.List.{drop_all}
use Rattle.tmem_tree.proofs.Laws.{count_items, count-Seq}
use Rattle.tmem_tree.specs.Limits.{count}
use Rattle.tmem_tree.specs.declared.tx.Tx.TheFolds as folds
use Rattle.tmem_requests.specs.Fits.{RetiresNone, retires_one_of}
use Rattle.tmem_requests.proofs.Nodes.{count_items-drop_more, none_here, one_here, retires_nothing}
use Rattle.tmem_requests.proofs.fits.+retires_none.Goals as goal

pub loop-t-init : goal.loop-t-init
loop-t-init t c = grind (arith, count-Seq (retires_one_of c.args.always.now) c.in-Seq.txs)

pub loop-t-preserved : goal.loop-t-preserved
loop-t-preserved t c =
    let test = retires_one_of c.args.always.now in
    let items = c.deref-t-items.result.now in
    let sum = count_items-drop_more test items c.loop-t.t-index c.t-item.result c.loop-t-test.true c.t-item.is in
    none_here (RetiresNone c.args.always.now c.args.tx.now) _ _ _ c.retires_none.result sum c.retires_none.ensures c.if-not-retires_none.false c.loop-t.invariant

pub returns-then-not-retires_none : goal.returns-then-not-retires_none
returns-then-not-retires_none t c =
    let test = retires_one_of c.args.always.now in
    let items = c.deref-t-items.result.now in
    let sum = count_items-drop_more test items c.loop-t.t-index c.t-item.result c.loop-t-test.true c.t-item.is in
    one_here (RetiresNone c.args.always.now c.args.tx.now) _ _ _ c.retires_none.result sum c.retires_none.ensures c.if-not-retires_none.true c.loop-t.invariant

pub returns-after-loop-t : goal.returns-after-loop-t
returns-after-loop-t t c = (
  λ yes. c.loop-t.invariant.1 (ap (count_items (retires_one_of c.args.always.now)) (drop_all c.loop-t.t-index c.deref-t-items.result.now c.loop-t-test.false)),
  λ none. refl,
)

pub returns-in_default : goal.returns-in_default
returns-in_default t c = (
  λ yes. retires_nothing c.args.always.now c.args.tx.now c.in_default.not-Retire c.in_default.not-Seq c.in_default.not-When c.in_default.not-OrElse,
  λ none. refl,
)

pub retires_none-requires : goal.retires_none-requires
retires_none-requires t c =
    let item = c.t-item.is in
    let within = c.loop-t-test.true in
    (grind (arith, folds.the_lemmas, item, within), tt)

pub retires_none-requires-in-When : goal.retires_none-requires-in-When
retires_none-requires-in-When t c = (search (rules, folds.the_lemmas), tt)

pub retires_none-requires-then-retires_none : goal.retires_none-requires-then-retires_none
retires_none-requires-then-retires_none t c = (search (rules, folds.the_lemmas), tt)

pub retires_none-requires-in-OrElse : goal.retires_none-requires-in-OrElse
retires_none-requires-in-OrElse t c = (search (rules, folds.the_lemmas), tt)

pub retires_none-requires-then-retires_none-2 : goal.retires_none-requires-then-retires_none-2
retires_none-requires-then-retires_none-2 t c = (search (rules, folds.the_lemmas), tt)
