use Rattle.std.proofs.Common.{refl, ap, arith, rules}
use Rattle.std.proofs.lemmas.List.{drop_all}
use Rattle.tmem_builtins.specs.Builtins.{builtin_names}
use Rattle.tmem_tree.specs.Plans.{is_counted}
use Rattle.tmem_tree.proofs.Laws.{count_items, count-Seq}
use Rattle.tmem_tree.specs.declared.tx.Tx.TheFolds as folds
use Rattle.tmem_explain.specs.Flaws.{step_arities}
use Rattle.tmem_explain.proofs.Nodes.{count_items-drop_more}
use Rattle.tmem_explain.proofs.total.+spend.Goals as goal

pub loop-t-init : goal.loop-t-init
loop-t-init t c = grind (arith, count-Seq (is_counted c.args.cause step_arities c.args.vars (builtin_names c.args.vars)) c.in-Seq.txs)

pub loop-t-preserved : goal.loop-t-preserved
loop-t-preserved t c =
    let test = is_counted c.args.cause step_arities c.args.vars (builtin_names c.args.vars) in
    let sum = count_items-drop_more test c.deref-t-items.result.now c.loop-t.t-index c.t-item.result c.loop-t-test.true c.t-item.is in
    omega (arith, sum, c.loop-t.invariant, c.in_ok-left-in-Seq.ensures.enough)

pub returns-in_err-left-in-Seq-clause-lacking : goal.returns-in_err-left-in-Seq-clause-lacking
returns-in_err-left-in-Seq-clause-lacking t c = λ none.
    let test = is_counted c.args.cause step_arities c.args.vars (builtin_names c.args.vars) in
    let sum = count_items-drop_more test c.deref-t-items.result.now c.loop-t.t-index c.t-item.result c.loop-t-test.true c.t-item.is in
    omega (arith, sum, c.loop-t.invariant, c.in_err-left-in-Seq.ensures.lacking refl)

pub returns-after-loop-t-clause-enough : goal.returns-after-loop-t-clause-enough
returns-after-loop-t-clause-enough t c =
    let none = ap (count_items (is_counted c.args.cause step_arities c.args.vars (builtin_names c.args.vars))) (drop_all c.loop-t.t-index c.deref-t-items.result.now c.loop-t-test.false) in
    omega (arith, none, c.loop-t.invariant)

pub spend-requires : goal.spend-requires
spend-requires t c =
    let item = c.t-item.is in
    let within = c.loop-t-test.true in
    (grind (arith, folds.the_lemmas, item, within), tt)

pub spend-requires-in-When : goal.spend-requires-in-When
spend-requires-in-When t c = (search (rules, folds.the_lemmas), tt)

pub spend-requires-in-When-2 : goal.spend-requires-in-When-2
spend-requires-in-When-2 t c = (search (rules, folds.the_lemmas), tt)

pub spend-requires-in-OrElse : goal.spend-requires-in-OrElse
spend-requires-in-OrElse t c = (search (rules, folds.the_lemmas), tt)

pub spend-requires-in-OrElse-2 : goal.spend-requires-in-OrElse-2
spend-requires-in-OrElse-2 t c = (search (rules, folds.the_lemmas), tt)
