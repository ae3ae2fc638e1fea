use Rattle.std.proofs.lemmas.Grind.{common_steps}
use Rattle.std.proofs.Common.{◌≡◌, ◌+◌, false, refl, sym, ap, ◌∙◌, arith}
use Rattle.std.proofs.lemmas.Bool.{false≢true}
use Rattle.std.proofs.lemmas.List.{drop_all}
use Rattle.tmem_tree.specs.Limits.{one_if, count, is_node, is_write, is_check, is_retire, is_step}
use Rattle.tmem_tree.specs.Signatures.{names_of}
use Rattle.tmem_tree.specs.Plans.{is_bad}
use Rattle.tmem_tree.proofs.Laws.{depth_items, count_items}
use Rattle.tmem_tree.proofs.Known.{count_items-drop_more}
use Rattle.tmem_tree.proofs.Whole.{seq_all, depth_items-drop_more}
use Rattle.tmem_tree.proofs.Good.{said, each_some, if_both, one_node, or_else_good, or_else_two, when_good, when_two}
use Rattle.tmem_tree.proofs.budget.+pay.Goals as goal

pub loop-t-init : goal.loop-t-init
loop-t-init g t c =
    let tx = c.args.tx.now in
    let bad = is_bad (g.S.StoredSteps.arities c.args.steps.now) c.args.vars (names_of c.args.signatures.now) in
    let fine : bad tx ≡ false = said c.has_bad_part.ensures c.if-has_bad_part.false in
    let all = seq_all tx c.in-Seq.txs c.deref-t-items.result.now c.in-Seq.is c.deref-t-items.ensures.value in
    let left = c.in_ok-left.ensures in
    record {
      shallow = (λ deep. omega (arith, all.levels, deep), λ deep. omega (arith, all.levels, deep));
      nodes = omega (arith, all.counts is_node, left.nodes);
      writes = omega (arith, all.counts is_write, left.writes);
      checks = omega (arith, all.counts is_check, left.checks);
      retires = omega (arith, all.counts is_retire, left.retires);
      steps = omega (arith, all.counts is_step, left.steps);
      good = omega (arith, all.counts bad, ap one_if fine);
    }

pub loop-t-preserved : goal.loop-t-preserved
loop-t-preserved g t c =
    let bad = is_bad (g.S.StoredSteps.arities c.args.steps.now) c.args.vars (names_of c.args.signatures.now) in
    let items = c.deref-t-items.result.now in
    let at = c.loop-t.t-index in
    let tx = c.t-item.result in
    let was = c.loop-t.invariant in
    let more = c.in_ok-left-in-Seq.ensures in
    let levels = depth_items-drop_more items at tx c.loop-t-test.true c.t-item.is in
    record {
      shallow = (λ deep. omega (arith, levels, was.shallow.0 deep), λ deep. was.shallow.1 (omega (arith, levels, more.shallow, deep)));
      nodes = omega (arith, count_items-drop_more is_node items at tx c.loop-t-test.true c.t-item.is, was.nodes, more.nodes);
      writes = omega (arith, count_items-drop_more is_write items at tx c.loop-t-test.true c.t-item.is, was.writes, more.writes);
      checks = omega (arith, count_items-drop_more is_check items at tx c.loop-t-test.true c.t-item.is, was.checks, more.checks);
      retires = omega (arith, count_items-drop_more is_retire items at tx c.loop-t-test.true c.t-item.is, was.retires, more.retires);
      steps = omega (arith, count_items-drop_more is_step items at tx c.loop-t-test.true c.t-item.is, was.steps, more.steps);
      good = omega (arith, count_items-drop_more bad items at tx c.loop-t-test.true c.t-item.is, was.good, more.good);
    }

pub returns-in_err-left-in-Seq-clause-lacking : goal.returns-in_err-left-in-Seq-clause-lacking
returns-in_err-left-in-Seq-clause-lacking g t c = λ none deep nodes writes checks retires steps good.
    let bad = is_bad (g.S.StoredSteps.arities c.args.steps.now) c.args.vars (names_of c.args.signatures.now) in
    let items = c.deref-t-items.result.now in
    let at = c.loop-t.t-index in
    let tx = c.t-item.result in
    let was = c.loop-t.invariant in
    let levels = depth_items-drop_more items at tx c.loop-t-test.true c.t-item.is in
    c.in_err-left-in-Seq.ensures.lacking refl (omega (arith, levels, was.shallow.0 deep)) (omega (arith, count_items-drop_more is_node items at tx c.loop-t-test.true c.t-item.is, was.nodes, nodes)) (omega (arith, count_items-drop_more is_write items at tx c.loop-t-test.true c.t-item.is, was.writes, writes)) (omega (arith, count_items-drop_more is_check items at tx c.loop-t-test.true c.t-item.is, was.checks, checks)) (omega (arith, count_items-drop_more is_retire items at tx c.loop-t-test.true c.t-item.is, was.retires, retires)) (omega (arith, count_items-drop_more is_step items at tx c.loop-t-test.true c.t-item.is, was.steps, steps)) (omega (arith, count_items-drop_more bad items at tx c.loop-t-test.true c.t-item.is, was.good, good))

pub returns-after-loop-t-clause-shallow : goal.returns-after-loop-t-clause-shallow
returns-after-loop-t-clause-shallow g t c =
    let none = drop_all c.loop-t.t-index c.deref-t-items.result.now (omega (arith, c.loop-t-test.false)) in
    c.loop-t.invariant.shallow.1 (omega (arith, ap depth_items none, c.if-most-eq0.false))

pub returns-after-loop-t-clause-nodes : goal.returns-after-loop-t-clause-nodes
returns-after-loop-t-clause-nodes g t c =
    let none = drop_all c.loop-t.t-index c.deref-t-items.result.now (omega (arith, c.loop-t-test.false)) in
    let left : c.loop-t.left.nodes + count is_node c.args.tx.now ≡ c.args.budget.nodes = omega (arith, ap (count_items is_node) none, c.loop-t.invariant.nodes) in
    left

pub returns-after-loop-t-clause-writes : goal.returns-after-loop-t-clause-writes
returns-after-loop-t-clause-writes g t c =
    let none = drop_all c.loop-t.t-index c.deref-t-items.result.now (omega (arith, c.loop-t-test.false)) in
    let left : c.loop-t.left.writes + count is_write c.args.tx.now ≡ c.args.budget.writes = omega (arith, ap (count_items is_write) none, c.loop-t.invariant.writes) in
    left

pub returns-after-loop-t-clause-checks : goal.returns-after-loop-t-clause-checks
returns-after-loop-t-clause-checks g t c =
    let none = drop_all c.loop-t.t-index c.deref-t-items.result.now (omega (arith, c.loop-t-test.false)) in
    let left : c.loop-t.left.checks + count is_check c.args.tx.now ≡ c.args.budget.checks = omega (arith, ap (count_items is_check) none, c.loop-t.invariant.checks) in
    left

pub returns-after-loop-t-clause-retires : goal.returns-after-loop-t-clause-retires
returns-after-loop-t-clause-retires g t c =
    let none = drop_all c.loop-t.t-index c.deref-t-items.result.now (omega (arith, c.loop-t-test.false)) in
    let left : c.loop-t.left.retires + count is_retire c.args.tx.now ≡ c.args.budget.retires = omega (arith, ap (count_items is_retire) none, c.loop-t.invariant.retires) in
    left

pub returns-after-loop-t-clause-steps : goal.returns-after-loop-t-clause-steps
returns-after-loop-t-clause-steps g t c =
    let none = drop_all c.loop-t.t-index c.deref-t-items.result.now (omega (arith, c.loop-t-test.false)) in
    let left : c.loop-t.left.steps + count is_step c.args.tx.now ≡ c.args.budget.steps = omega (arith, ap (count_items is_step) none, c.loop-t.invariant.steps) in
    left

pub returns-after-loop-t-clause-good : goal.returns-after-loop-t-clause-good
returns-after-loop-t-clause-good g t c =
    let none = drop_all c.loop-t.t-index c.deref-t-items.result.now (omega (arith, c.loop-t-test.false)) in
    c.loop-t.invariant.good ∙ ap (count_items (is_bad (g.S.StoredSteps.arities c.args.steps.now) c.args.vars (names_of c.args.signatures.now))) none

pub returns-in_err-left-clause-shallow : goal.returns-in_err-left-clause-shallow
returns-in_err-left-clause-shallow g t c = rw c.from_residual.ensures tt

pub returns-in_err-left-clause-nodes : goal.returns-in_err-left-clause-nodes
returns-in_err-left-clause-nodes g t c = rw c.from_residual.ensures tt

pub returns-in_err-left-clause-writes : goal.returns-in_err-left-clause-writes
returns-in_err-left-clause-writes g t c = rw c.from_residual.ensures tt

pub returns-in_err-left-clause-checks : goal.returns-in_err-left-clause-checks
returns-in_err-left-clause-checks g t c = rw c.from_residual.ensures tt

pub returns-in_err-left-clause-retires : goal.returns-in_err-left-clause-retires
returns-in_err-left-clause-retires g t c = rw c.from_residual.ensures tt

pub returns-in_err-left-clause-steps : goal.returns-in_err-left-clause-steps
returns-in_err-left-clause-steps g t c = rw c.from_residual.ensures tt

pub returns-in_err-left-clause-good : goal.returns-in_err-left-clause-good
returns-in_err-left-clause-good g t c = rw c.from_residual.ensures tt

pub returns-in_err-left-in-Seq-clause-shallow : goal.returns-in_err-left-in-Seq-clause-shallow
returns-in_err-left-in-Seq-clause-shallow g t c = rw c.from_residual-in_err-left-in-Seq.ensures tt

pub returns-in_err-left-in-Seq-clause-nodes : goal.returns-in_err-left-in-Seq-clause-nodes
returns-in_err-left-in-Seq-clause-nodes g t c = rw c.from_residual-in_err-left-in-Seq.ensures tt

pub returns-in_err-left-in-Seq-clause-writes : goal.returns-in_err-left-in-Seq-clause-writes
returns-in_err-left-in-Seq-clause-writes g t c = rw c.from_residual-in_err-left-in-Seq.ensures tt

pub returns-in_err-left-in-Seq-clause-checks : goal.returns-in_err-left-in-Seq-clause-checks
returns-in_err-left-in-Seq-clause-checks g t c = rw c.from_residual-in_err-left-in-Seq.ensures tt

pub returns-in_err-left-in-Seq-clause-retires : goal.returns-in_err-left-in-Seq-clause-retires
returns-in_err-left-in-Seq-clause-retires g t c = rw c.from_residual-in_err-left-in-Seq.ensures tt

pub returns-in_err-left-in-Seq-clause-steps : goal.returns-in_err-left-in-Seq-clause-steps
returns-in_err-left-in-Seq-clause-steps g t c = rw c.from_residual-in_err-left-in-Seq.ensures tt

pub returns-in_err-left-in-Seq-clause-good : goal.returns-in_err-left-in-Seq-clause-good
returns-in_err-left-in-Seq-clause-good g t c = rw c.from_residual-in_err-left-in-Seq.ensures tt

pub returns-in_err-left-in-When-clause-shallow : goal.returns-in_err-left-in-When-clause-shallow
returns-in_err-left-in-When-clause-shallow g t c = rw c.from_residual-in_err-left-in-When.ensures tt

pub returns-in_err-left-in-When-clause-nodes : goal.returns-in_err-left-in-When-clause-nodes
returns-in_err-left-in-When-clause-nodes g t c = rw c.from_residual-in_err-left-in-When.ensures tt

pub returns-in_err-left-in-When-clause-writes : goal.returns-in_err-left-in-When-clause-writes
returns-in_err-left-in-When-clause-writes g t c = rw c.from_residual-in_err-left-in-When.ensures tt

pub returns-in_err-left-in-When-clause-checks : goal.returns-in_err-left-in-When-clause-checks
returns-in_err-left-in-When-clause-checks g t c = rw c.from_residual-in_err-left-in-When.ensures tt

pub returns-in_err-left-in-When-clause-retires : goal.returns-in_err-left-in-When-clause-retires
returns-in_err-left-in-When-clause-retires g t c = rw c.from_residual-in_err-left-in-When.ensures tt

pub returns-in_err-left-in-When-clause-steps : goal.returns-in_err-left-in-When-clause-steps
returns-in_err-left-in-When-clause-steps g t c = rw c.from_residual-in_err-left-in-When.ensures tt

pub returns-in_err-left-in-When-clause-good : goal.returns-in_err-left-in-When-clause-good
returns-in_err-left-in-When-clause-good g t c = rw c.from_residual-in_err-left-in-When.ensures tt

pub returns-in_err-left-in-OrElse-clause-shallow : goal.returns-in_err-left-in-OrElse-clause-shallow
returns-in_err-left-in-OrElse-clause-shallow g t c = rw c.from_residual-in_err-left-in-OrElse.ensures tt

pub returns-in_err-left-in-OrElse-clause-nodes : goal.returns-in_err-left-in-OrElse-clause-nodes
returns-in_err-left-in-OrElse-clause-nodes g t c = rw c.from_residual-in_err-left-in-OrElse.ensures tt

pub returns-in_err-left-in-OrElse-clause-writes : goal.returns-in_err-left-in-OrElse-clause-writes
returns-in_err-left-in-OrElse-clause-writes g t c = rw c.from_residual-in_err-left-in-OrElse.ensures tt

pub returns-in_err-left-in-OrElse-clause-checks : goal.returns-in_err-left-in-OrElse-clause-checks
returns-in_err-left-in-OrElse-clause-checks g t c = rw c.from_residual-in_err-left-in-OrElse.ensures tt

pub returns-in_err-left-in-OrElse-clause-retires : goal.returns-in_err-left-in-OrElse-clause-retires
returns-in_err-left-in-OrElse-clause-retires g t c = rw c.from_residual-in_err-left-in-OrElse.ensures tt

pub returns-in_err-left-in-OrElse-clause-steps : goal.returns-in_err-left-in-OrElse-clause-steps
returns-in_err-left-in-OrElse-clause-steps g t c = rw c.from_residual-in_err-left-in-OrElse.ensures tt

pub returns-in_err-left-in-OrElse-clause-good : goal.returns-in_err-left-in-OrElse-clause-good
returns-in_err-left-in-OrElse-clause-good g t c = rw c.from_residual-in_err-left-in-OrElse.ensures tt

pub returns-in_ok-left-in-When-clause-good : goal.returns-in_ok-left-in-When-clause-good
returns-in_ok-left-in-When-clause-good g t c =
    let bad = is_bad (g.S.StoredSteps.arities c.args.steps.now) c.args.vars (names_of c.args.signatures.now) in
    let fine : bad c.args.tx.now ≡ false = said c.has_bad_part.ensures c.if-has_bad_part.false in
    let first : count bad c.in-When.then.value ≡ 0 = rw c.deref.ensures at c.in_ok-left-in-When.ensures.good in
    if_both c.pay-in-When-2.result (λ second. when_good bad c.args.tx.now c.in-When.reg c.in-When.then c.in-When.other c.in-When.is fine first second) (rw c.deref-in-When.ensures at c.pay-in-When-2.ensures.good)

pub returns-in_ok-left-in-OrElse-clause-good : goal.returns-in_ok-left-in-OrElse-clause-good
returns-in_ok-left-in-OrElse-clause-good g t c =
    let bad = is_bad (g.S.StoredSteps.arities c.args.steps.now) c.args.vars (names_of c.args.signatures.now) in
    let fine : bad c.args.tx.now ≡ false = said c.has_bad_part.ensures c.if-has_bad_part.false in
    let first : count bad c.in-OrElse.first.value ≡ 0 = rw c.deref-in-OrElse.ensures at c.in_ok-left-in-OrElse.ensures.good in
    if_both c.pay-in-OrElse-2.result (λ second. or_else_good bad c.args.tx.now c.in-OrElse.first c.in-OrElse.second c.in-OrElse.is fine first second) (rw c.deref-in-OrElse-2.ensures at c.pay-in-OrElse-2.ensures.good)

pub returns-in_default : goal.returns-in_default
returns-in_default g t c =
    let tx = c.args.tx.now in
    let bad = is_bad (g.S.StoredSteps.arities c.args.steps.now) c.args.vars (names_of c.args.signatures.now) in
    let fine : bad tx ≡ false = said c.has_bad_part.ensures c.if-has_bad_part.false in
    let one = one_node tx c.in_default.not-Seq c.in_default.not-When c.in_default.not-OrElse in
    let left = c.in_ok-left.ensures in
    record {
      shallow = omega (arith, c.if-most-eq0.false, one.levels);
      nodes = omega (arith, one.counts is_node, left.nodes);
      writes = omega (arith, one.counts is_write, left.writes);
      checks = omega (arith, one.counts is_check, left.checks);
      retires = omega (arith, one.counts is_retire, left.retires);
      steps = omega (arith, one.counts is_step, left.steps);
      good = one.counts bad ∙ ap one_if fine;
      lacking = λ no. absurd (false≢true (sym no));
    }

pub returns-in_ok-left-in-When-clause-shallow : goal.returns-in_ok-left-in-When-clause-shallow
returns-in_ok-left-in-When-clause-shallow g t c =
    let two = when_two c.args.tx.now c.in-When.reg c.in-When.then c.in-When.other c.in-When.is in
    each_some c.pay-in-When-2.result (λ left so. two.shallow c.args.most (omega (arith, c.if-most-eq0.false)) (rw c.deref.ensures at c.in_ok-left-in-When.ensures.shallow) so) (rw c.deref-in-When.ensures at c.pay-in-When-2.ensures.shallow)

pub returns-in_ok-left-in-When-clause-nodes : goal.returns-in_ok-left-in-When-clause-nodes
returns-in_ok-left-in-When-clause-nodes g t c =
    let two = when_two c.args.tx.now c.in-When.reg c.in-When.then c.in-When.other c.in-When.is in
    let one = rw c.deref.ensures at c.in_ok-left-in-When.ensures.nodes in
    each_some c.pay-in-When-2.result (λ left so. omega (arith, two.counts is_node, c.in_ok-left.ensures.nodes, one, so)) (rw c.deref-in-When.ensures at c.pay-in-When-2.ensures.nodes)

pub returns-in_ok-left-in-When-clause-writes : goal.returns-in_ok-left-in-When-clause-writes
returns-in_ok-left-in-When-clause-writes g t c =
    let two = when_two c.args.tx.now c.in-When.reg c.in-When.then c.in-When.other c.in-When.is in
    let one = rw c.deref.ensures at c.in_ok-left-in-When.ensures.writes in
    each_some c.pay-in-When-2.result (λ left so. omega (arith, two.counts is_write, c.in_ok-left.ensures.writes, one, so)) (rw c.deref-in-When.ensures at c.pay-in-When-2.ensures.writes)

pub returns-in_ok-left-in-When-clause-checks : goal.returns-in_ok-left-in-When-clause-checks
returns-in_ok-left-in-When-clause-checks g t c =
    let two = when_two c.args.tx.now c.in-When.reg c.in-When.then c.in-When.other c.in-When.is in
    let one = rw c.deref.ensures at c.in_ok-left-in-When.ensures.checks in
    each_some c.pay-in-When-2.result (λ left so. omega (arith, two.counts is_check, c.in_ok-left.ensures.checks, one, so)) (rw c.deref-in-When.ensures at c.pay-in-When-2.ensures.checks)

pub returns-in_ok-left-in-When-clause-retires : goal.returns-in_ok-left-in-When-clause-retires
returns-in_ok-left-in-When-clause-retires g t c =
    let two = when_two c.args.tx.now c.in-When.reg c.in-When.then c.in-When.other c.in-When.is in
    let one = rw c.deref.ensures at c.in_ok-left-in-When.ensures.retires in
    each_some c.pay-in-When-2.result (λ left so. omega (arith, two.counts is_retire, c.in_ok-left.ensures.retires, one, so)) (rw c.deref-in-When.ensures at c.pay-in-When-2.ensures.retires)

pub returns-in_ok-left-in-When-clause-steps : goal.returns-in_ok-left-in-When-clause-steps
returns-in_ok-left-in-When-clause-steps g t c =
    let two = when_two c.args.tx.now c.in-When.reg c.in-When.then c.in-When.other c.in-When.is in
    let one = rw c.deref.ensures at c.in_ok-left-in-When.ensures.steps in
    each_some c.pay-in-When-2.result (λ left so. omega (arith, two.counts is_step, c.in_ok-left.ensures.steps, one, so)) (rw c.deref-in-When.ensures at c.pay-in-When-2.ensures.steps)

pub returns-in_ok-left-in-OrElse-clause-shallow : goal.returns-in_ok-left-in-OrElse-clause-shallow
returns-in_ok-left-in-OrElse-clause-shallow g t c =
    let two = or_else_two c.args.tx.now c.in-OrElse.first c.in-OrElse.second c.in-OrElse.is in
    each_some c.pay-in-OrElse-2.result (λ left so. two.shallow c.args.most (omega (arith, c.if-most-eq0.false)) (rw c.deref-in-OrElse.ensures at c.in_ok-left-in-OrElse.ensures.shallow) so) (rw c.deref-in-OrElse-2.ensures at c.pay-in-OrElse-2.ensures.shallow)

pub returns-in_ok-left-in-OrElse-clause-nodes : goal.returns-in_ok-left-in-OrElse-clause-nodes
returns-in_ok-left-in-OrElse-clause-nodes g t c =
    let two = or_else_two c.args.tx.now c.in-OrElse.first c.in-OrElse.second c.in-OrElse.is in
    let one = rw c.deref-in-OrElse.ensures at c.in_ok-left-in-OrElse.ensures.nodes in
    each_some c.pay-in-OrElse-2.result (λ left so. omega (arith, two.counts is_node, c.in_ok-left.ensures.nodes, one, so)) (rw c.deref-in-OrElse-2.ensures at c.pay-in-OrElse-2.ensures.nodes)

pub returns-in_ok-left-in-OrElse-clause-writes : goal.returns-in_ok-left-in-OrElse-clause-writes
returns-in_ok-left-in-OrElse-clause-writes g t c =
    let two = or_else_two c.args.tx.now c.in-OrElse.first c.in-OrElse.second c.in-OrElse.is in
    let one = rw c.deref-in-OrElse.ensures at c.in_ok-left-in-OrElse.ensures.writes in
    each_some c.pay-in-OrElse-2.result (λ left so. omega (arith, two.counts is_write, c.in_ok-left.ensures.writes, one, so)) (rw c.deref-in-OrElse-2.ensures at c.pay-in-OrElse-2.ensures.writes)

pub returns-in_ok-left-in-OrElse-clause-checks : goal.returns-in_ok-left-in-OrElse-clause-checks
returns-in_ok-left-in-OrElse-clause-checks g t c =
    let two = or_else_two c.args.tx.now c.in-OrElse.first c.in-OrElse.second c.in-OrElse.is in
    let one = rw c.deref-in-OrElse.ensures at c.in_ok-left-in-OrElse.ensures.checks in
    each_some c.pay-in-OrElse-2.result (λ left so. omega (arith, two.counts is_check, c.in_ok-left.ensures.checks, one, so)) (rw c.deref-in-OrElse-2.ensures at c.pay-in-OrElse-2.ensures.checks)

pub returns-in_ok-left-in-OrElse-clause-retires : goal.returns-in_ok-left-in-OrElse-clause-retires
returns-in_ok-left-in-OrElse-clause-retires g t c =
    let two = or_else_two c.args.tx.now c.in-OrElse.first c.in-OrElse.second c.in-OrElse.is in
    let one = rw c.deref-in-OrElse.ensures at c.in_ok-left-in-OrElse.ensures.retires in
    each_some c.pay-in-OrElse-2.result (λ left so. omega (arith, two.counts is_retire, c.in_ok-left.ensures.retires, one, so)) (rw c.deref-in-OrElse-2.ensures at c.pay-in-OrElse-2.ensures.retires)

pub returns-in_ok-left-in-OrElse-clause-steps : goal.returns-in_ok-left-in-OrElse-clause-steps
returns-in_ok-left-in-OrElse-clause-steps g t c =
    let two = or_else_two c.args.tx.now c.in-OrElse.first c.in-OrElse.second c.in-OrElse.is in
    let one = rw c.deref-in-OrElse.ensures at c.in_ok-left-in-OrElse.ensures.steps in
    each_some c.pay-in-OrElse-2.result (λ left so. omega (arith, two.counts is_step, c.in_ok-left.ensures.steps, one, so)) (rw c.deref-in-OrElse-2.ensures at c.pay-in-OrElse-2.ensures.steps)

pub returns-in_err-left-in-When-clause-lacking : goal.returns-in_err-left-in-When-clause-lacking
returns-in_err-left-in-When-clause-lacking g t c = λ none deep nodes writes checks retires steps good.
    let two = when_two c.args.tx.now c.in-When.reg c.in-When.then c.in-When.other c.in-When.is in
    let bad = is_bad (g.S.StoredSteps.arities c.args.steps.now) c.args.vars (names_of c.args.signatures.now) in
    (rw c.deref.ensures at c.in_err-left-in-When.ensures.lacking) refl (two.first_shallow c.args.most deep) (omega (arith, two.counts is_node, c.in_ok-left.ensures.nodes, nodes)) (omega (arith, two.counts is_write, c.in_ok-left.ensures.writes, writes)) (omega (arith, two.counts is_check, c.in_ok-left.ensures.checks, checks)) (omega (arith, two.counts is_retire, c.in_ok-left.ensures.retires, retires)) (omega (arith, two.counts is_step, c.in_ok-left.ensures.steps, steps)) (omega (arith, two.counts bad, good))

pub returns-in_ok-left-in-When-clause-lacking : goal.returns-in_ok-left-in-When-clause-lacking
returns-in_ok-left-in-When-clause-lacking g t c = λ none deep nodes writes checks retires steps good.
    let two = when_two c.args.tx.now c.in-When.reg c.in-When.then c.in-When.other c.in-When.is in
    let bad = is_bad (g.S.StoredSteps.arities c.args.steps.now) c.args.vars (names_of c.args.signatures.now) in
    (rw c.deref-in-When.ensures at c.pay-in-When-2.ensures.lacking) none (two.second_shallow c.args.most deep) (omega (arith, two.counts is_node, c.in_ok-left.ensures.nodes, rw c.deref.ensures at c.in_ok-left-in-When.ensures.nodes, nodes)) (omega (arith, two.counts is_write, c.in_ok-left.ensures.writes, rw c.deref.ensures at c.in_ok-left-in-When.ensures.writes, writes)) (omega (arith, two.counts is_check, c.in_ok-left.ensures.checks, rw c.deref.ensures at c.in_ok-left-in-When.ensures.checks, checks)) (omega (arith, two.counts is_retire, c.in_ok-left.ensures.retires, rw c.deref.ensures at c.in_ok-left-in-When.ensures.retires, retires)) (omega (arith, two.counts is_step, c.in_ok-left.ensures.steps, rw c.deref.ensures at c.in_ok-left-in-When.ensures.steps, steps)) (omega (arith, two.counts bad, good))

pub returns-in_err-left-in-OrElse-clause-lacking : goal.returns-in_err-left-in-OrElse-clause-lacking
returns-in_err-left-in-OrElse-clause-lacking g t c = λ none deep nodes writes checks retires steps good.
    let two = or_else_two c.args.tx.now c.in-OrElse.first c.in-OrElse.second c.in-OrElse.is in
    let bad = is_bad (g.S.StoredSteps.arities c.args.steps.now) c.args.vars (names_of c.args.signatures.now) in
    (rw c.deref-in-OrElse.ensures at c.in_err-left-in-OrElse.ensures.lacking) refl (two.first_shallow c.args.most deep) (omega (arith, two.counts is_node, c.in_ok-left.ensures.nodes, nodes)) (omega (arith, two.counts is_write, c.in_ok-left.ensures.writes, writes)) (omega (arith, two.counts is_check, c.in_ok-left.ensures.checks, checks)) (omega (arith, two.counts is_retire, c.in_ok-left.ensures.retires, retires)) (omega (arith, two.counts is_step, c.in_ok-left.ensures.steps, steps)) (omega (arith, two.counts bad, good))

pub returns-in_ok-left-in-OrElse-clause-lacking : goal.returns-in_ok-left-in-OrElse-clause-lacking
returns-in_ok-left-in-OrElse-clause-lacking g t c = λ none deep nodes writes checks retires steps good.
    let two = or_else_two c.args.tx.now c.in-OrElse.first c.in-OrElse.second c.in-OrElse.is in
    let bad = is_bad (g.S.StoredSteps.arities c.args.steps.now) c.args.vars (names_of c.args.signatures.now) in
    (rw c.deref-in-OrElse-2.ensures at c.pay-in-OrElse-2.ensures.lacking) none (two.second_shallow c.args.most deep) (omega (arith, two.counts is_node, c.in_ok-left.ensures.nodes, rw c.deref-in-OrElse.ensures at c.in_ok-left-in-OrElse.ensures.nodes, nodes)) (omega (arith, two.counts is_write, c.in_ok-left.ensures.writes, rw c.deref-in-OrElse.ensures at c.in_ok-left-in-OrElse.ensures.writes, writes)) (omega (arith, two.counts is_check, c.in_ok-left.ensures.checks, rw c.deref-in-OrElse.ensures at c.in_ok-left-in-OrElse.ensures.checks, checks)) (omega (arith, two.counts is_retire, c.in_ok-left.ensures.retires, rw c.deref-in-OrElse.ensures at c.in_ok-left-in-OrElse.ensures.retires, retires)) (omega (arith, two.counts is_step, c.in_ok-left.ensures.steps, rw c.deref-in-OrElse.ensures at c.in_ok-left-in-OrElse.ensures.steps, steps)) (omega (arith, two.counts bad, good))

pub returns-in_err-left-clause-lacking : goal.returns-in_err-left-clause-lacking
returns-in_err-left-clause-lacking g t c = grind (arith, common_steps)
