use Rattle.std.proofs.lemmas.Grind.{common_steps}
use Rattle.std.proofs.Common.{◌≡◌, ◌∙◌, sym, ap, set, refl, length-set, to_z, of_z, w64, rules, arith}
use Rattle.std.proofs.lemmas.Int.{to_z-of_z}
use Rattle.std.proofs.lemmas.List.{drop_more, drop_all}
use Rattle.tmem_tree.specs.declared.tx.Tx.TheViews.{the_lemmas}
use Rattle.tmem_tree.specs.declared.tx.Tx.{Tx}
use Rattle.tmem_tree.specs.Limits.{one_if, is_put}
use Rattle.tmem_tree.proofs.Laws.{count_items}
use Rattle.tmem_tree.proofs.Good.{each_some, when_two, or_else_two}
use Rattle.tmem_tree.proofs.Among.{with_number-Seq, puts-Seq, last_turn, no_turn}
use Rattle.tmem_tree.proofs.numbers.+change_number.Goals as goal

pub returns-in_err-left-in-Seq-clause-tree : goal.returns-in_err-left-in-Seq-clause-tree
returns-in_err-left-in-Seq-clause-tree t c =
    let n = c.args.number in
    let number : to_z w64 (of_z w64 n) ≡ n = to_z-of_z w64 n c.ranges.number in
    let now = c.loop-t.t-items in
    let listed = c.deref_mut-t-items.ensures.value ∙ ap (λ v. v.items) c.in-Seq.txs-is in
    let turn =
    last_turn c.loop-t.left c.loop-t.t-index n _ now c.t-item.result (search rules) (rw number at c.loop-t.invariant.changed) (c.in_err-left-in-Seq.ensures.found refl)
    ∙ ap (set now c.loop-t.t-index) (sym (rw number at c.change_number.ensures.tree)) in
    rw (with_number-Seq c.args.index n c.args.tx.now c.in-Seq.txs _ _ c.in-Seq.is listed (length-set _ _ _ ∙ c.loop-t.invariant.unvisited.0) turn) (search (rules, the_lemmas))

pub returns-in_err-left-in-Seq-clause-found : goal.returns-in_err-left-in-Seq-clause-found
returns-in_err-left-in-Seq-clause-found t c = λ none.
    let listed = c.deref_mut-t-items.ensures.value ∙ ap (λ v. v.items) c.in-Seq.txs-is in
    let rest = ap (count_items is_put) (drop_more c.loop-t.t-items c.loop-t.t-index c.t-item.result (search rules)) in
    omega (arith, puts-Seq c.args.tx.now c.in-Seq.txs _ c.in-Seq.is listed, rest, c.loop-t.invariant.left, c.in_err-left-in-Seq.ensures.found refl)

pub returns-after-loop-t-clause-tree : goal.returns-after-loop-t-clause-tree
returns-after-loop-t-clause-tree t c =
    let n = c.args.number in
    let number : to_z w64 (of_z w64 n) ≡ n = to_z-of_z w64 n c.ranges.number in
    let listed = c.deref_mut-t-items.ensures.value ∙ ap (λ v. v.items) c.in-Seq.txs-is in
    let turn = no_turn c.loop-t.left c.loop-t.t-index n _ c.loop-t.t-items (search rules) (rw number at c.loop-t.invariant.changed) in
    rw (with_number-Seq c.args.index n c.args.tx.now c.in-Seq.txs _ _ c.in-Seq.is listed c.loop-t.invariant.unvisited.0 turn) (search (rules, the_lemmas))

pub returns-after-loop-t-clause-left : goal.returns-after-loop-t-clause-left
returns-after-loop-t-clause-left t c =
    let listed = c.deref_mut-t-items.ensures.value ∙ ap (λ v. v.items) c.in-Seq.txs-is in
    let rest = ap (count_items is_put) (drop_all c.loop-t.t-index c.loop-t.t-items (search rules)) in
    omega (arith, puts-Seq c.args.tx.now c.in-Seq.txs _ c.in-Seq.is listed, rest, c.loop-t.invariant.left)

pub loop-t-preserved : goal.loop-t-preserved
loop-t-preserved t c = grind (arith, common_steps)

pub returns-in_err-left-in-OrElse-clause-tree : goal.returns-in_err-left-in-OrElse-clause-tree
returns-in_err-left-in-OrElse-clause-tree t c = grind (arith, common_steps)

pub returns-in_ok-left-in-OrElse-clause-tree : goal.returns-in_ok-left-in-OrElse-clause-tree
returns-in_ok-left-in-OrElse-clause-tree t c = grind (arith, common_steps)

pub returns-in_err-left-in-When-clause-left : goal.returns-in_err-left-in-When-clause-left
returns-in_err-left-in-When-clause-left t c = rw c.from_residual-in_err-left-in-When.ensures tt

pub returns-in_err-left-in-When-clause-found : goal.returns-in_err-left-in-When-clause-found
returns-in_err-left-in-When-clause-found t c = λ none.
    let two = when_two c.args.tx.now c.in-When.reg c.in-When.then c.in-When.other c.in-When.is in
    let here : one_if (is_put c.args.tx.now) ≡ 0 = ap (λ (t : Tx). one_if (is_put t)) c.in-When.is in
    let first = c.deref_mut.ensures.value ∙ ap (λ v. v.value) c.in-When.then-is in
    omega (arith, two.counts is_put, here, (rw first at c.in_err-left-in-When.ensures.found) refl)

pub returns-in_ok-left-in-When-clause-left : goal.returns-in_ok-left-in-When-clause-left
returns-in_ok-left-in-When-clause-left t c =
    let two = when_two c.args.tx.now c.in-When.reg c.in-When.then c.in-When.other c.in-When.is in
    let here : one_if (is_put c.args.tx.now) ≡ 0 = ap (λ (t : Tx). one_if (is_put t)) c.in-When.is in
    let first = c.deref_mut.ensures.value ∙ ap (λ v. v.value) c.in-When.then-is in
    let second = c.deref_mut-in-When.ensures.value ∙ ap (λ v. v.value) c.in-When.other-is in
    each_some c.change_number-in-When-2.result (λ left so. omega (arith, two.counts is_put, here, rw first at c.in_ok-left-in-When.ensures.left, so)) (rw second at c.change_number-in-When-2.ensures.left)

pub returns-in_ok-left-in-When-clause-found : goal.returns-in_ok-left-in-When-clause-found
returns-in_ok-left-in-When-clause-found t c = λ none.
    let two = when_two c.args.tx.now c.in-When.reg c.in-When.then c.in-When.other c.in-When.is in
    let here : one_if (is_put c.args.tx.now) ≡ 0 = ap (λ (t : Tx). one_if (is_put t)) c.in-When.is in
    let first = c.deref_mut.ensures.value ∙ ap (λ v. v.value) c.in-When.then-is in
    let second = c.deref_mut-in-When.ensures.value ∙ ap (λ v. v.value) c.in-When.other-is in
    omega (arith, two.counts is_put, here, rw first at c.in_ok-left-in-When.ensures.left, (rw second at c.change_number-in-When-2.ensures.found) none)

pub returns-in_err-left-in-OrElse-clause-left : goal.returns-in_err-left-in-OrElse-clause-left
returns-in_err-left-in-OrElse-clause-left t c = rw c.from_residual-in_err-left-in-OrElse.ensures tt

pub returns-in_err-left-in-OrElse-clause-found : goal.returns-in_err-left-in-OrElse-clause-found
returns-in_err-left-in-OrElse-clause-found t c = λ none.
    let two = or_else_two c.args.tx.now c.in-OrElse.first c.in-OrElse.second c.in-OrElse.is in
    let here : one_if (is_put c.args.tx.now) ≡ 0 = ap (λ (t : Tx). one_if (is_put t)) c.in-OrElse.is in
    let first = c.deref_mut-in-OrElse.ensures.value ∙ ap (λ v. v.value) c.in-OrElse.first-is in
    omega (arith, two.counts is_put, here, (rw first at c.in_err-left-in-OrElse.ensures.found) refl)

pub returns-in_ok-left-in-OrElse-clause-left : goal.returns-in_ok-left-in-OrElse-clause-left
returns-in_ok-left-in-OrElse-clause-left t c =
    let two = or_else_two c.args.tx.now c.in-OrElse.first c.in-OrElse.second c.in-OrElse.is in
    let here : one_if (is_put c.args.tx.now) ≡ 0 = ap (λ (t : Tx). one_if (is_put t)) c.in-OrElse.is in
    let first = c.deref_mut-in-OrElse.ensures.value ∙ ap (λ v. v.value) c.in-OrElse.first-is in
    let second = c.deref_mut-in-OrElse-2.ensures.value ∙ ap (λ v. v.value) c.in-OrElse.second-is in
    each_some c.change_number-in-OrElse-2.result (λ left so. omega (arith, two.counts is_put, here, rw first at c.in_ok-left-in-OrElse.ensures.left, so)) (rw second at c.change_number-in-OrElse-2.ensures.left)

pub returns-in_ok-left-in-OrElse-clause-found : goal.returns-in_ok-left-in-OrElse-clause-found
returns-in_ok-left-in-OrElse-clause-found t c = λ none.
    let two = or_else_two c.args.tx.now c.in-OrElse.first c.in-OrElse.second c.in-OrElse.is in
    let here : one_if (is_put c.args.tx.now) ≡ 0 = ap (λ (t : Tx). one_if (is_put t)) c.in-OrElse.is in
    let first = c.deref_mut-in-OrElse.ensures.value ∙ ap (λ v. v.value) c.in-OrElse.first-is in
    let second = c.deref_mut-in-OrElse-2.ensures.value ∙ ap (λ v. v.value) c.in-OrElse.second-is in
    omega (arith, two.counts is_put, here, rw first at c.in_ok-left-in-OrElse.ensures.left, (rw second at c.change_number-in-OrElse-2.ensures.found) none)
