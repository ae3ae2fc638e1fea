use Rattle.std.proofs.Common.{◌≡◌, ◌+◌, drop, sym, ap, refl, arith}
use Rattle.std.proofs.lemmas.Bool.{false≢true}
use Rattle.std.proofs.lemmas.List.{drop_all}
use Rattle.tmem_tree.specs.Limits.{one_if, count}
use Rattle.tmem_tree.specs.Signatures.{names_of}
use Rattle.tmem_tree.specs.Plans.{is_counted}
use Rattle.tmem_tree.proofs.Laws.{count_items}
use Rattle.tmem_tree.proofs.Known.{count_items-drop_more}
use Rattle.tmem_tree.proofs.Whole.{seq_all}
use Rattle.tmem_tree.proofs.Good.{costs, each_some, one_node, or_else_two, when_two}
use Rattle.tmem_tree.proofs.limits.+spend.Goals as goal
use Rattle.tmem_tree.proofs.limits.+spend.Goals.{then-is_counted+in_ok-left, else-is_counted}

pub loop-t-init : goal.loop-t-init
loop-t-init g t c =
    let test = is_counted c.args.cause (g.S.StoredSteps.arities c.args.steps.now) c.args.vars (names_of c.args.signatures.now) in
    let here : c.if-is_counted.left + one_if (test c.args.tx.now) ≡ c.args.budget =
    elim c.if-is_counted.branch [
      | then-is_counted+in_ok-left w ↦ omega (arith, w.left-is, w.in_ok-left.ensures, costs c.is_counted.ensures w.if-is_counted.true)
      | else-is_counted w ↦ omega (arith, w.left-is, costs c.is_counted.ensures w.if-is_counted.false)
    ] in
    let all = seq_all c.args.tx.now c.in-Seq.txs c.deref-t-items.result.now c.in-Seq.is c.deref-t-items.ensures.value in
    let left : c.if-is_counted.left + count test c.args.tx.now ≡ c.args.budget + count_items test c.deref-t-items.result.now = omega (arith, all.counts test, here) in
    left

pub loop-t-preserved : goal.loop-t-preserved
loop-t-preserved g t c =
    let test = is_counted c.args.cause (g.S.StoredSteps.arities c.args.steps.now) c.args.vars (names_of c.args.signatures.now) in
    let items = c.deref-t-items.result.now in
    let at = c.loop-t.t-index in
    let was : c.loop-t.left + count test c.args.tx.now ≡ c.args.budget + count_items test (drop at items) = c.loop-t.invariant in
    let left : c.in_ok-left-in-Seq.left + count test c.args.tx.now ≡ c.args.budget + count_items test (drop (at + 1) items) =
    omega (arith, count_items-drop_more test items at c.t-item.result c.loop-t-test.true c.t-item.is, was, c.in_ok-left-in-Seq.ensures.enough) in
    left

pub returns-in_err-left-in-Seq : goal.returns-in_err-left-in-Seq
returns-in_err-left-in-Seq g t c =
    let test = is_counted c.args.cause (g.S.StoredSteps.arities c.args.steps.now) c.args.vars (names_of c.args.signatures.now) in
    let items = c.deref-t-items.result.now in
    let at = c.loop-t.t-index in
    let was : c.loop-t.left + count test c.args.tx.now ≡ c.args.budget + count_items test (drop at items) = c.loop-t.invariant in
    record {
      enough = rw c.from_residual-in_err-left-in-Seq.ensures tt;
      lacking = λ none. omega (arith, count_items-drop_more test items at c.t-item.result c.loop-t-test.true c.t-item.is, was, c.in_err-left-in-Seq.ensures.lacking refl);
    }

pub returns-after-loop-t : goal.returns-after-loop-t
returns-after-loop-t g t c =
    let test = is_counted c.args.cause (g.S.StoredSteps.arities c.args.steps.now) c.args.vars (names_of c.args.signatures.now) in
    let items = c.deref-t-items.result.now in
    let none = drop_all c.loop-t.t-index items c.loop-t-test.false in
    let was : c.loop-t.left + count test c.args.tx.now ≡ c.args.budget + count_items test (drop c.loop-t.t-index items) = c.loop-t.invariant in
    record {
      enough = omega (arith, ap (count_items test) none, was);
      lacking = λ no. absurd (false≢true (sym no));
    }

pub returns-in_default : goal.returns-in_default
returns-in_default g t c =
    let test = is_counted c.args.cause (g.S.StoredSteps.arities c.args.steps.now) c.args.vars (names_of c.args.signatures.now) in
    let here : c.if-is_counted.left + one_if (test c.args.tx.now) ≡ c.args.budget =
    elim c.if-is_counted.branch [
      | then-is_counted+in_ok-left w ↦ omega (arith, w.left-is, w.in_ok-left.ensures, costs c.is_counted.ensures w.if-is_counted.true)
      | else-is_counted w ↦ omega (arith, w.left-is, costs c.is_counted.ensures w.if-is_counted.false)
    ] in
    let one = one_node c.args.tx.now c.in_default.not-Seq c.in_default.not-When c.in_default.not-OrElse in
    record {
      enough = omega (arith, one.counts test, here);
      lacking = λ no. absurd (false≢true (sym no));
    }

pub returns-in_err-left-in-When : goal.returns-in_err-left-in-When
returns-in_err-left-in-When g t c =
    let test = is_counted c.args.cause (g.S.StoredSteps.arities c.args.steps.now) c.args.vars (names_of c.args.signatures.now) in
    let here : c.if-is_counted.left + one_if (test c.args.tx.now) ≡ c.args.budget =
    elim c.if-is_counted.branch [
      | then-is_counted+in_ok-left w ↦ omega (arith, w.left-is, w.in_ok-left.ensures, costs c.is_counted.ensures w.if-is_counted.true)
      | else-is_counted w ↦ omega (arith, w.left-is, costs c.is_counted.ensures w.if-is_counted.false)
    ] in
    let two = when_two c.args.tx.now c.in-When.reg c.in-When.then c.in-When.other c.in-When.is in
    record {
      enough = rw c.from_residual-in_err-left-in-When.ensures tt;
      lacking = λ none. omega (arith, two.counts test, here, (rw c.deref.ensures at c.in_err-left-in-When.ensures.lacking) refl);
    }

pub returns-in_ok-left-in-When : goal.returns-in_ok-left-in-When
returns-in_ok-left-in-When g t c =
    let test = is_counted c.args.cause (g.S.StoredSteps.arities c.args.steps.now) c.args.vars (names_of c.args.signatures.now) in
    let here : c.if-is_counted.left + one_if (test c.args.tx.now) ≡ c.args.budget =
    elim c.if-is_counted.branch [
      | then-is_counted+in_ok-left w ↦ omega (arith, w.left-is, w.in_ok-left.ensures, costs c.is_counted.ensures w.if-is_counted.true)
      | else-is_counted w ↦ omega (arith, w.left-is, costs c.is_counted.ensures w.if-is_counted.false)
    ] in
    let two = when_two c.args.tx.now c.in-When.reg c.in-When.then c.in-When.other c.in-When.is in
    let first = rw c.deref.ensures at c.in_ok-left-in-When.ensures.enough in
    record {
      enough = each_some c.spend-in-When-2.result (λ left so. omega (arith, two.counts test, here, first, so)) (rw c.deref-in-When.ensures at c.spend-in-When-2.ensures.enough);
      lacking = λ none. omega (arith, two.counts test, here, first, (rw c.deref-in-When.ensures at c.spend-in-When-2.ensures.lacking) none);
    }

pub returns-in_err-left-in-OrElse : goal.returns-in_err-left-in-OrElse
returns-in_err-left-in-OrElse g t c =
    let test = is_counted c.args.cause (g.S.StoredSteps.arities c.args.steps.now) c.args.vars (names_of c.args.signatures.now) in
    let here : c.if-is_counted.left + one_if (test c.args.tx.now) ≡ c.args.budget =
    elim c.if-is_counted.branch [
      | then-is_counted+in_ok-left w ↦ omega (arith, w.left-is, w.in_ok-left.ensures, costs c.is_counted.ensures w.if-is_counted.true)
      | else-is_counted w ↦ omega (arith, w.left-is, costs c.is_counted.ensures w.if-is_counted.false)
    ] in
    let two = or_else_two c.args.tx.now c.in-OrElse.first c.in-OrElse.second c.in-OrElse.is in
    record {
      enough = rw c.from_residual-in_err-left-in-OrElse.ensures tt;
      lacking = λ none. omega (arith, two.counts test, here, (rw c.deref-in-OrElse.ensures at c.in_err-left-in-OrElse.ensures.lacking) refl);
    }

pub returns-in_ok-left-in-OrElse : goal.returns-in_ok-left-in-OrElse
returns-in_ok-left-in-OrElse g t c =
    let test = is_counted c.args.cause (g.S.StoredSteps.arities c.args.steps.now) c.args.vars (names_of c.args.signatures.now) in
    let here : c.if-is_counted.left + one_if (test c.args.tx.now) ≡ c.args.budget =
    elim c.if-is_counted.branch [
      | then-is_counted+in_ok-left w ↦ omega (arith, w.left-is, w.in_ok-left.ensures, costs c.is_counted.ensures w.if-is_counted.true)
      | else-is_counted w ↦ omega (arith, w.left-is, costs c.is_counted.ensures w.if-is_counted.false)
    ] in
    let two = or_else_two c.args.tx.now c.in-OrElse.first c.in-OrElse.second c.in-OrElse.is in
    let first = rw c.deref-in-OrElse.ensures at c.in_ok-left-in-OrElse.ensures.enough in
    record {
      enough = each_some c.spend-in-OrElse-2.result (λ left so. omega (arith, two.counts test, here, first, so)) (rw c.deref-in-OrElse-2.ensures at c.spend-in-OrElse-2.ensures.enough);
      lacking = λ none. omega (arith, two.counts test, here, first, (rw c.deref-in-OrElse-2.ensures at c.spend-in-OrElse-2.ensures.lacking) none);
    }
