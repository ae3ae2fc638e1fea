use Rattle.std.proofs.lemmas.Grind.{common_steps}
use Rattle.std.proofs.Common.{◌≡◌, ℕ, ◌+◌, ◌≤◌, length, arith, rules, drop}
use Rattle.tmem_tree.specs.Limits.{is_write, is_check, is_retire, has_bad_register, has_bad_step, has_bad_arguments, lacks_signature}
use Rattle.tmem_tree.specs.Signatures.{names_of}
use Rattle.tmem_tentative.specs.Logs.{run_state_of}
use Rattle.tmem_tentative.specs.declared.flow.Flow.TheVariants.{Normal}
use Rattle.tmem_tentative.proofs.EvalParts.{none_at_start, within_at_start, evals_at_start, none_next, within_next, evals_next}
use Rattle.tmem_tentative.proofs.PlaceRoom.{when_register}
use Rattle.tmem_tentative.proofs.PlaceSeq.{here_is}
use Rattle.tmem_tentative.proofs.walk.+walk.Goals as goal

pub walk-loop-t-init : goal.walk-loop-t-init
walk-loop-t-init g t c =
    let arities = g.S.StoredSteps.arities c.args.steps.now in
    let given = c.args.given.now in
    let log = c.args.log.now in record {
      registers = none_at_start c.in-Seq.txs c.in-Seq.is c.deref-t-items.ensures.value has_bad_register c.requires.registers;
      steps = none_at_start c.in-Seq.txs c.in-Seq.is c.deref-t-items.ensures.value (has_bad_step arities) c.requires.steps.there;
      arguments = none_at_start c.in-Seq.txs c.in-Seq.is c.deref-t-items.ensures.value (has_bad_arguments arities) c.requires.steps.given;
      known = none_at_start c.in-Seq.txs c.in-Seq.is c.deref-t-items.ensures.value (lacks_signature (names_of given.signatures.now)) c.requires.known;
      flow = λ m footprint stated of. evals_at_start c.in-Seq.txs c.in-Seq.is c.deref-t-items.ensures.value m footprint given.reads.now.entries (run_state_of log (drop c.args.tests.now.used given.answers.now));
      writes = within_at_start c.in-Seq.txs c.in-Seq.is c.deref-t-items.ensures.value is_write (length log.effect.writes);
      checks = within_at_start c.in-Seq.txs c.in-Seq.is c.deref-t-items.ensures.value is_check (length log.effect.names);
      retires = within_at_start c.in-Seq.txs c.in-Seq.is c.deref-t-items.ensures.value is_retire (length log.effect.retired);
    }

-- what one part, or two, may add
in_first : (n m z a b : ℕ) → n ≤ m + a → n ≤ m + (z + (a + b))
in_first n m z a b le = omega (arith, le)

in_second : (n m z a b : ℕ) → n ≤ m + b → n ≤ m + (z + (a + b))
in_second n m z a b le = omega (arith, le)

in_both : (n l m z a b : ℕ) → l ≤ m + a → n ≤ l + b → n ≤ m + (z + (a + b))
in_both n l m z a b first second = omega (arith, first, second)

in_item : (n l m a b all : ℕ) → l + (a + b) ≤ m + all → n ≤ l + a → n ≤ m + all
in_item n l m a b all left le = omega (arith, left, le)

in_none : (l m a all : ℕ) → l + a ≤ m + all → l ≤ m + all
in_none l m a all left = omega (arith, left)

pub walk-returns-in_err-flow-in-Seq-clause-room : goal.walk-returns-in_err-flow-in-Seq-clause-room
walk-returns-in_err-flow-in-Seq-clause-room g t c =
    in_item _ _ _ _ _ _ (rw (here_is c.deref-t-items.result.now c.loop-t.t-index c.t-item.result c.loop-t-test.true c.t-item.is) at c.loop-t.invariant.writes) c.walk.ensures.room

pub walk-returns-then-ne-clause-room : goal.walk-returns-then-ne-clause-room
walk-returns-then-ne-clause-room g t c =
    in_item _ _ _ _ _ _ (rw (here_is c.deref-t-items.result.now c.loop-t.t-index c.t-item.result c.loop-t-test.true c.t-item.is) at c.loop-t.invariant.writes) c.walk.ensures.room

pub walk-returns-after-loop-t-clause-room : goal.walk-returns-after-loop-t-clause-room
walk-returns-after-loop-t-clause-room g t c =
    in_none _ _ _ _ c.loop-t.invariant.writes

pub walk-returns-then-log-reg-eq0-clause-room : goal.walk-returns-then-log-reg-eq0-clause-room
walk-returns-then-log-reg-eq0-clause-room g t c =
    rw c.in-When.is (in_second _ _ _ _ _ (rw c.deref.ensures at c.walk-then-log-reg-eq0.ensures.room))

pub walk-returns-else-log-reg-eq0-clause-room : goal.walk-returns-else-log-reg-eq0-clause-room
walk-returns-else-log-reg-eq0-clause-room g t c =
    rw c.in-When.is (in_first _ _ _ _ _ (rw c.deref-else-log-reg-eq0.ensures at c.walk-else-log-reg-eq0.ensures.room))

pub walk-returns-in_err-flow-in-OrElse-clause-room : goal.walk-returns-in_err-flow-in-OrElse-clause-room
walk-returns-in_err-flow-in-OrElse-clause-room g t c =
    rw c.in-OrElse.is (in_first _ _ _ _ _ (rw c.deref-in-OrElse.ensures at c.walk_first.ensures.room))

pub walk-returns-in-Retry-clause-room : goal.walk-returns-in-Retry-clause-room
walk-returns-in-Retry-clause-room g t c =
    rw c.in-OrElse.is (in_both _ _ _ _ _ _ (rw c.deref-in-OrElse.ensures at c.walk_first.ensures.room) (rw c.deref-in-Retry.ensures at c.walk-in-Retry.ensures.room))

pub walk-returns-in_err-flow-in-Seq-clause-names : goal.walk-returns-in_err-flow-in-Seq-clause-names
walk-returns-in_err-flow-in-Seq-clause-names g t c =
    in_item _ _ _ _ _ _ (rw (here_is c.deref-t-items.result.now c.loop-t.t-index c.t-item.result c.loop-t-test.true c.t-item.is) at c.loop-t.invariant.checks) c.walk.ensures.names

pub walk-returns-then-ne-clause-names : goal.walk-returns-then-ne-clause-names
walk-returns-then-ne-clause-names g t c =
    in_item _ _ _ _ _ _ (rw (here_is c.deref-t-items.result.now c.loop-t.t-index c.t-item.result c.loop-t-test.true c.t-item.is) at c.loop-t.invariant.checks) c.walk.ensures.names

pub walk-returns-after-loop-t-clause-names : goal.walk-returns-after-loop-t-clause-names
walk-returns-after-loop-t-clause-names g t c =
    in_none _ _ _ _ c.loop-t.invariant.checks

pub walk-returns-then-log-reg-eq0-clause-names : goal.walk-returns-then-log-reg-eq0-clause-names
walk-returns-then-log-reg-eq0-clause-names g t c =
    rw c.in-When.is (in_second _ _ _ _ _ (rw c.deref.ensures at c.walk-then-log-reg-eq0.ensures.names))

pub walk-returns-else-log-reg-eq0-clause-names : goal.walk-returns-else-log-reg-eq0-clause-names
walk-returns-else-log-reg-eq0-clause-names g t c =
    rw c.in-When.is (in_first _ _ _ _ _ (rw c.deref-else-log-reg-eq0.ensures at c.walk-else-log-reg-eq0.ensures.names))

pub walk-returns-in_err-flow-in-OrElse-clause-names : goal.walk-returns-in_err-flow-in-OrElse-clause-names
walk-returns-in_err-flow-in-OrElse-clause-names g t c =
    rw c.in-OrElse.is (in_first _ _ _ _ _ (rw c.deref-in-OrElse.ensures at c.walk_first.ensures.names))

pub walk-returns-in-Retry-clause-names : goal.walk-returns-in-Retry-clause-names
walk-returns-in-Retry-clause-names g t c =
    rw c.in-OrElse.is (in_both _ _ _ _ _ _ (rw c.deref-in-OrElse.ensures at c.walk_first.ensures.names) (rw c.deref-in-Retry.ensures at c.walk-in-Retry.ensures.names))

pub walk-returns-in_err-flow-in-Seq-clause-retired : goal.walk-returns-in_err-flow-in-Seq-clause-retired
walk-returns-in_err-flow-in-Seq-clause-retired g t c =
    in_item _ _ _ _ _ _ (rw (here_is c.deref-t-items.result.now c.loop-t.t-index c.t-item.result c.loop-t-test.true c.t-item.is) at c.loop-t.invariant.retires) c.walk.ensures.retired

pub walk-returns-then-ne-clause-retired : goal.walk-returns-then-ne-clause-retired
walk-returns-then-ne-clause-retired g t c =
    in_item _ _ _ _ _ _ (rw (here_is c.deref-t-items.result.now c.loop-t.t-index c.t-item.result c.loop-t-test.true c.t-item.is) at c.loop-t.invariant.retires) c.walk.ensures.retired

pub walk-returns-after-loop-t-clause-retired : goal.walk-returns-after-loop-t-clause-retired
walk-returns-after-loop-t-clause-retired g t c =
    in_none _ _ _ _ c.loop-t.invariant.retires

pub walk-returns-then-log-reg-eq0-clause-retired : goal.walk-returns-then-log-reg-eq0-clause-retired
walk-returns-then-log-reg-eq0-clause-retired g t c =
    rw c.in-When.is (in_second _ _ _ _ _ (rw c.deref.ensures at c.walk-then-log-reg-eq0.ensures.retired))

pub walk-returns-else-log-reg-eq0-clause-retired : goal.walk-returns-else-log-reg-eq0-clause-retired
walk-returns-else-log-reg-eq0-clause-retired g t c =
    rw c.in-When.is (in_first _ _ _ _ _ (rw c.deref-else-log-reg-eq0.ensures at c.walk-else-log-reg-eq0.ensures.retired))

pub walk-returns-in_err-flow-in-OrElse-clause-retired : goal.walk-returns-in_err-flow-in-OrElse-clause-retired
walk-returns-in_err-flow-in-OrElse-clause-retired g t c =
    rw c.in-OrElse.is (in_first _ _ _ _ _ (rw c.deref-in-OrElse.ensures at c.walk_first.ensures.retired))

pub walk-returns-in-Retry-clause-retired : goal.walk-returns-in-Retry-clause-retired
walk-returns-in-Retry-clause-retired g t c =
    rw c.in-OrElse.is (in_both _ _ _ _ _ _ (rw c.deref-in-OrElse.ensures at c.walk_first.ensures.retired) (rw c.deref-in-Retry.ensures at c.walk-in-Retry.ensures.retired))

pub walk-loop-t-preserved : goal.walk-loop-t-preserved
walk-loop-t-preserved g t c =
    let arities = g.S.StoredSteps.arities c.args.steps.now in
    let given = c.args.given.now in
    let before = c.loop-t.invariant in
    let log = c.walk.new.log in
    let tests = c.walk.new.tests in
    let here = here_is c.deref-t-items.result.now c.loop-t.t-index c.t-item.result c.loop-t-test.true c.t-item.is in
    let normal : c.in_ok-flow-in-Seq.flow ≡ Normal = search rules in record {
      registers = none_next here has_bad_register before.registers;
      steps = none_next here (has_bad_step arities) before.steps;
      arguments = none_next here (has_bad_arguments arities) before.arguments;
      known = none_next here (lacks_signature (names_of given.signatures.now)) before.known;
      flow = λ m footprint stated of. evals_next here m footprint given.reads.now.entries c.in_ok-flow-in-Seq.flow log tests.probe _ (run_state_of log (drop tests.used given.answers.now)) normal (before.flow m footprint stated of) (c.in_ok-flow-in-Seq.ensures.flow m footprint stated of);
      writes = within_next here is_write _ _ _ _ before.writes c.walk.ensures.room;
      checks = within_next here is_check _ _ _ _ before.checks c.walk.ensures.names;
      retires = within_next here is_retire _ _ _ _ before.retires c.walk.ensures.retired;
    }

pub walk-returns-then-log-reg-eq0-clause-flow : goal.walk-returns-then-log-reg-eq0-clause-flow
walk-returns-then-log-reg-eq0-clause-flow g t c = grind (arith, common_steps)

pub walk-bounds-log-reg : goal.walk-bounds-log-reg
walk-bounds-log-reg g t c = when_register c.in-When.reg c.in-When.then c.in-When.other (rw c.in-When.is at c.requires.registers)

pub walk-loop-t-smaller : goal.walk-loop-t-smaller
walk-loop-t-smaller g t c = omega (arith, c.loop-t-test.true)

pub walk-bounds-t-items-t-index : goal.walk-bounds-t-items-t-index
walk-bounds-t-items-t-index g t c = c.loop-t-test.true

pub walk-returns-then-ne-clause-leaves : goal.walk-returns-then-ne-clause-leaves
walk-returns-then-ne-clause-leaves g t c = c.in_ok-flow-in-Seq.ensures.leaves

pub walk-returns-then-log-reg-eq0-clause-leaves : goal.walk-returns-then-log-reg-eq0-clause-leaves
walk-returns-then-log-reg-eq0-clause-leaves g t c = c.walk-then-log-reg-eq0.ensures.leaves

pub walk-returns-then-log-reg-eq0-clause-fault : goal.walk-returns-then-log-reg-eq0-clause-fault
walk-returns-then-log-reg-eq0-clause-fault g t c = c.walk-then-log-reg-eq0.ensures.fault

pub walk-returns-else-log-reg-eq0-clause-leaves : goal.walk-returns-else-log-reg-eq0-clause-leaves
walk-returns-else-log-reg-eq0-clause-leaves g t c = c.walk-else-log-reg-eq0.ensures.leaves

pub walk-returns-else-log-reg-eq0-clause-fault : goal.walk-returns-else-log-reg-eq0-clause-fault
walk-returns-else-log-reg-eq0-clause-fault g t c = c.walk-else-log-reg-eq0.ensures.fault

pub walk-returns-in-Retry-clause-leaves : goal.walk-returns-in-Retry-clause-leaves
walk-returns-in-Retry-clause-leaves g t c = c.walk-in-Retry.ensures.leaves

pub walk-returns-in-Retry-clause-fault : goal.walk-returns-in-Retry-clause-fault
walk-returns-in-Retry-clause-fault g t c = c.walk-in-Retry.ensures.fault
