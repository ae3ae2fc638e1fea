use Rattle.std.proofs.lemmas.Grind.{common_steps}
use Rattle.std.proofs.Common.{◌≡◌, ◌+◌, ◌<◌, List, [], drop, get_or, length, length-drop, refl, sym, ap, ◌∙◌, arith, rules}
use Rattle.std.proofs.lemmas.List.{drop_all, drop-drop, get_or-drop}
use Rattle.tmem_effect.specs.declared.effect.Effect.{Effect}
use Rattle.tmem_tree.specs.declared.tx.Tx.{Tx}
use Rattle.tmem_tree.specs.declared.tx.Tx.TheFolds as folds
use Rattle.tmem_tree.specs.Limits.{is_write}
use Rattle.tmem_tentative.specs.declared.flow.Flow.TheVariants.{Normal, Retry}
use Rattle.tmem_tentative.specs.Logs.{Went}
use Rattle.tmem_tentative.specs.Places.{place_at, taken_at, out_at}
use Rattle.tmem_tentative.proofs.PlaceCalls.{enters_as, called_may, called_runs, first_called_may, first_called_runs, retried_called, given_before}
use Rattle.tmem_tentative.proofs.PlaceChildren.{then_child, other_child, second_child, enters_choice, leaf_may, leaf_runs}
use Rattle.tmem_tentative.proofs.PlaceLeaves.{out_is_went}
use Rattle.tmem_tentative.proofs.PlaceRoom.{path_within, within_then, within_other, within_first, within_second, choice_saved, when_register, seq_from}
use Rattle.tmem_tentative.proofs.PlaceSeq.{enter_seq, first_may, all_run, next_left, part_runs, here_is}
use Rattle.tmem_tentative.proofs.walk_on.+walk_on.Goals as goal

pub walk_on-rest_of-t-items-requires : goal.walk_on-rest_of-t-items-requires
walk_on-rest_of-t-items-requires g t c =
    let may = rw c.in-Seq.is at c.requires in
    rw c.deref.ensures.value (seq_from is_write 64 (λ (e : Effect). length e.writes) may.writes.0 c.in-Seq.txs c.args.course.now.path c.enter-from.result c.enter-from.new.path c.args.saves.now (length c.args.course.now.attempt.effect.writes) c.enter-from.ensures may.writes.1)

pub walk_on-loop-i-init : goal.walk_on-loop-i-init
walk_on-loop-i-init g t c = record {
  reads = refl;
  left = rw (c.rest_of-t-items.ensures, c.deref.ensures.value, c.in-Seq.is) (enter_seq _ _ _ c.in-Seq.txs c.enter-from.result c.enter-from.ensures (rw c.in-Seq.is at c.requires));
}

pub walk_on-loop-i-preserved : goal.walk_on-loop-i-preserved
walk_on-loop-i-preserved g t c =
    let here = here_is c.rest_of-t-items.result.now c.loop-i.i c.t-item.result c.loop-i-test.true c.t-item.is in
    let normal : c.walk_part-flow.result ≡ Normal = search rules in
    record {
      reads = c.walk_part-flow.ensures.reads ∙ c.loop-i.invariant.reads;
      left = next_left _ _ _ c.walk_part-flow.auto.saves (rw here at c.loop-i.invariant.left) (rw (c.loop-i.invariant.reads, normal) at c.walk_part-flow.ensures.runs);
    }

pub walk_on-returns-then-ne-clause-runs : goal.walk_on-returns-then-ne-clause-runs
walk_on-returns-then-ne-clause-runs g t c =
    let txs = c.in-Seq.txs in
    let here = here_is c.rest_of-t-items.result.now c.loop-i.i c.t-item.result c.loop-i-test.true c.t-item.is in
    let all : c.rest_of-t-items.result.now ≡ drop c.enter-from.result txs.items = cc in
    let others : c.walk_part-flow.result ≡ Normal → ⊥ = search rules in
    let some = λ (is : out_at c.walk_part-flow.result c.walk_part-flow.new.course ≡ Went). others (out_is_went c.walk_part-flow.result c.walk_part-flow.new.course.attempt c.walk_part-flow.new.course.probe is) in
    rw (c.note.ensures, c.in-Seq.is) (part_runs _ _ _ txs (c.enter-from.result + c.loop-i.i) (sym (drop-drop c.loop-i.i c.enter-from.result txs.items) ∙ ap (drop c.loop-i.i) (sym all) ∙ here) some (rw (c.in-Seq.is, here) at c.loop-i.invariant.left) (rw c.loop-i.invariant.reads at c.walk_part-flow.ensures.runs))

pub walk_on-returns-after-loop-i-clause-runs : goal.walk_on-returns-after-loop-i-clause-runs
walk_on-returns-after-loop-i-clause-runs g t c =
    let none : drop c.loop-i.i c.rest_of-t-items.result.now ≡ [] = drop_all c.loop-i.i c.rest_of-t-items.result.now c.loop-i-test.false in
    all_run _ _ _ c.requires (rw none at c.loop-i.invariant.left)

pub walk_on-walk_part-flow-requires : goal.walk_on-walk_part-flow-requires
walk_on-walk_part-flow-requires g t c =
    let txs = c.in-Seq.txs in
    let from = c.enter-from.result in
    let here = here_is c.rest_of-t-items.result.now c.loop-i.i c.t-item.result c.loop-i-test.true c.t-item.is in
    let all : c.rest_of-t-items.result.now ≡ drop from txs.items = cc in
    let within : from + c.loop-i.i < length txs.items = omega (arith, c.loop-i-test.true, ap (λ (l : List Tx). length l) all, length-drop from txs.items) in
    let item : c.t-item.result ≡ get_or txs.items (from + c.loop-i.i) c.t-item.result = c.t-item.is ∙ ap (λ (l : List Tx). get_or l c.loop-i.i c.t-item.result) all ∙ get_or-drop from txs.items c.loop-i.i c.t-item.result in
    λ κs le. (grind (arith, folds.the_lemmas, item, within), (le, first_may _ _ _ c.requires (rw here at c.loop-i.invariant.left)))

pub walk_on-walk_on-flow-requires : goal.walk_on-walk_on-flow-requires
walk_on-walk_on-flow-requires g t c =
    let child = then_child (g.S.StoredSteps.is_stated c.args.steps.now) c.args.plan.now.signatures (taken_at c.args.course.now) (enters_as c.args.course.now.path c.enter.new.path c.enter.ensures c.branch_of.ensures c.if-enter-eq0.true) in
    λ κs le. (search (rules, folds.the_lemmas), (le, called_may _ _ _ c.in-When.is c.deref-then-enter-eq0.ensures child c.requires))

pub walk_on-returns-then-enter-eq0-clause-runs : goal.walk_on-returns-then-enter-eq0-clause-runs
walk_on-returns-then-enter-eq0-clause-runs g t c =
    let child = then_child (g.S.StoredSteps.is_stated c.args.steps.now) c.args.plan.now.signatures (taken_at c.args.course.now) (enters_as c.args.course.now.path c.enter.new.path c.enter.ensures c.branch_of.ensures c.if-enter-eq0.true) in
    called_runs _ _ _ c.in-When.is c.deref-then-enter-eq0.ensures child c.walk_on-flow.result c.walk_on-flow.new.course c.note-then-enter-eq0.ensures c.walk_on-flow.ensures.runs

pub walk_on-walk_on-flow-requires-else-enter-eq0 : goal.walk_on-walk_on-flow-requires-else-enter-eq0
walk_on-walk_on-flow-requires-else-enter-eq0 g t c =
    let child = other_child (g.S.StoredSteps.is_stated c.args.steps.now) c.args.plan.now.signatures (taken_at c.args.course.now) (enters_as c.args.course.now.path c.enter.new.path c.enter.ensures c.branch_of.ensures refl) (λ is. c.if-enter-eq0.false is) in
    λ κs le. (search (rules, folds.the_lemmas), (le, called_may _ _ _ c.in-When.is c.deref-else-enter-eq0.ensures child c.requires))

pub walk_on-returns-else-enter-eq0-clause-runs : goal.walk_on-returns-else-enter-eq0-clause-runs
walk_on-returns-else-enter-eq0-clause-runs g t c =
    let child = other_child (g.S.StoredSteps.is_stated c.args.steps.now) c.args.plan.now.signatures (taken_at c.args.course.now) (enters_as c.args.course.now.path c.enter.new.path c.enter.ensures c.branch_of.ensures refl) (λ is. c.if-enter-eq0.false is) in
    called_runs _ _ _ c.in-When.is c.deref-else-enter-eq0.ensures child c.walk_on-flow-else-enter-eq0.result c.walk_on-flow-else-enter-eq0.new.course c.note-else-enter-eq0.ensures c.walk_on-flow-else-enter-eq0.ensures.runs

pub walk_on-walk_on-flow-requires-then-not-enter_choice : goal.walk_on-walk_on-flow-requires-then-not-enter_choice
walk_on-walk_on-flow-requires-then-not-enter_choice g t c =
    let child = second_child (g.S.StoredSteps.is_stated c.args.steps.now) c.args.plan.now.signatures (taken_at c.args.course.now) c.enter_choice.auto.saves c.if-not-enter_choice.ensures in
    λ κs le. (search (rules, folds.the_lemmas), (le, called_may _ _ _ c.in-OrElse.is c.deref-then-not-enter_choice.ensures child c.requires))

pub walk_on-returns-then-not-enter_choice-clause-runs : goal.walk_on-returns-then-not-enter_choice-clause-runs
walk_on-returns-then-not-enter_choice-clause-runs g t c =
    let child = second_child (g.S.StoredSteps.is_stated c.args.steps.now) c.args.plan.now.signatures (taken_at c.args.course.now) c.enter_choice.auto.saves c.if-not-enter_choice.ensures in
    called_runs _ _ _ c.in-OrElse.is c.deref-then-not-enter_choice.ensures child c.walk_on-flow-then-not-enter_choice.result c.walk_on-flow-then-not-enter_choice.new.course c.note-then-not-enter_choice.ensures c.walk_on-flow-then-not-enter_choice.ensures.runs

pub walk_on-walk_on-flow-requires-in-OrElse : goal.walk_on-walk_on-flow-requires-in-OrElse
walk_on-walk_on-flow-requires-in-OrElse g t c =
    let first = enters_choice c.in-OrElse.first c.in-OrElse.second (place_at c.args.course.now c.args.saves.now) c.enter_choice.new.path c.enter_choice.new.saves c.in-OrElse.is c.requires c.enter_choice.auto.saves c.if-not-enter_choice.ensures in
    λ κs le. (search (rules, folds.the_lemmas), (le, first_called_may (g.S.StoredSteps.is_stated c.args.steps.now) c.args.plan.now.signatures (taken_at c.args.course.now) c.in-OrElse.first c.in-OrElse.second first c.deref-in-OrElse.ensures c.in-OrElse.is c.requires))

pub walk_on-returns-then-ne-2-clause-runs : goal.walk_on-returns-then-ne-2-clause-runs
walk_on-returns-then-ne-2-clause-runs g t c =
    let first = enters_choice c.in-OrElse.first c.in-OrElse.second (place_at c.args.course.now c.args.saves.now) c.enter_choice.new.path c.enter_choice.new.saves c.in-OrElse.is c.requires c.enter_choice.auto.saves c.if-not-enter_choice.ensures in
    let others : c.walk_on-flow-in-OrElse.result ≡ Retry → ⊥ = search rules in
    first_called_runs (g.S.StoredSteps.is_stated c.args.steps.now) c.args.plan.now.signatures (taken_at c.args.course.now) c.in-OrElse.first c.in-OrElse.second first c.deref-in-OrElse.ensures c.walk_on-flow-in-OrElse.result c.walk_on-flow-in-OrElse.new.course c.in-OrElse.is others c.note-then-ne-2.ensures c.walk_on-flow-in-OrElse.ensures.runs

pub walk_on-walk_on-flow-requires-in-OrElse-2 : goal.walk_on-walk_on-flow-requires-in-OrElse-2
walk_on-walk_on-flow-requires-in-OrElse-2 g t c =
    let first = enters_choice c.in-OrElse.first c.in-OrElse.second (place_at c.args.course.now c.args.saves.now) c.enter_choice.new.path c.enter_choice.new.saves c.in-OrElse.is c.requires c.enter_choice.auto.saves c.if-not-enter_choice.ensures in
    let retried : c.walk_on-flow-in-OrElse.result ≡ Retry = search rules in
    let child = retried_called (g.S.StoredSteps.is_stated c.args.steps.now) c.args.plan.now.signatures (taken_at c.args.course.now) c.in-OrElse.first c.in-OrElse.second first c.deref-in-OrElse.ensures c.walk_on-flow-in-OrElse.result c.walk_on-flow-in-OrElse.new.course c.index-saves-0.result retried c.walk_on-flow-in-OrElse.auto.saves c.walk_on-flow-in-OrElse.ensures.runs c.go_back.ensures.registers c.go_back.ensures.effect in
    λ κs le. (search (rules, folds.the_lemmas), (le, called_may _ _ _ c.in-OrElse.is c.deref-in-OrElse-2.ensures child c.requires))

pub walk_on-returns-else-ne-2-clause-runs : goal.walk_on-returns-else-ne-2-clause-runs
walk_on-returns-else-ne-2-clause-runs g t c =
    let first = enters_choice c.in-OrElse.first c.in-OrElse.second (place_at c.args.course.now c.args.saves.now) c.enter_choice.new.path c.enter_choice.new.saves c.in-OrElse.is c.requires c.enter_choice.auto.saves c.if-not-enter_choice.ensures in
    let retried : c.walk_on-flow-in-OrElse.result ≡ Retry = search rules in
    let child = retried_called (g.S.StoredSteps.is_stated c.args.steps.now) c.args.plan.now.signatures (taken_at c.args.course.now) c.in-OrElse.first c.in-OrElse.second first c.deref-in-OrElse.ensures c.walk_on-flow-in-OrElse.result c.walk_on-flow-in-OrElse.new.course c.index-saves-0.result retried c.walk_on-flow-in-OrElse.auto.saves c.walk_on-flow-in-OrElse.ensures.runs c.go_back.ensures.registers c.go_back.ensures.effect in
    let reads : c.go_back.new.log.reads ≡ c.args.course.now.attempt.reads = c.go_back.ensures.reads ∙ c.walk_on-flow-in-OrElse.ensures.reads in
    called_runs _ _ _ c.in-OrElse.is c.deref-in-OrElse-2.ensures child c.walk_on-flow-in-OrElse-2.result c.walk_on-flow-in-OrElse-2.new.course c.note-in-OrElse.ensures (given_before c.args.course.now.attempt c.go_back.new.log reads c.walk_on-flow-in-OrElse-2.ensures.runs)

pub walk_on-returns-in_default-clause-runs : goal.walk_on-returns-in_default-clause-runs
walk_on-returns-in_default-clause-runs g t c =
    leaf_runs c.args.course.now.attempt c.act.new.course.attempt c.requires c.act.ensures.leaf c.act.ensures.path c.act.ensures.room c.act.ensures.names c.act.ensures.retired c.act.ensures.stays c.act.ensures.leads

pub walk_part-returns-then-is_leaf-clause-runs : goal.walk_part-returns-then-is_leaf-clause-runs
walk_part-returns-then-is_leaf-clause-runs g t c =
    leaf_runs c.args.course.now.attempt c.act.new.course.attempt c.requires c.act.ensures.leaf c.act.ensures.path c.act.ensures.room c.act.ensures.names c.act.ensures.retired c.act.ensures.stays c.act.ensures.leads

pub walk_on-overflow_add-from : goal.walk_on-overflow_add-from
walk_on-overflow_add-from g t c = grind (arith, common_steps)

pub walk_on-branch_of-requires : goal.walk_on-branch_of-requires
walk_on-branch_of-requires g t c = when_register c.in-When.reg c.in-When.then c.in-When.other (rw c.in-When.is at c.requires.registers)

pub walk_on-note-requires : goal.walk_on-note-requires
walk_on-note-requires g t c =
    let here = here_is c.rest_of-t-items.result.now c.loop-i.i c.t-item.result c.loop-i-test.true c.t-item.is in
    path_within _ _ _ _ c.walk_part-flow.ensures.runs.path (first_may _ _ _ c.requires (rw here at c.loop-i.invariant.left)).deep

pub walk_on-note-requires-then-enter-eq0 : goal.walk_on-note-requires-then-enter-eq0
walk_on-note-requires-then-enter-eq0 g t c =
    path_within _ _ _ _ c.walk_on-flow.ensures.runs.path (rw c.deref-then-enter-eq0.ensures (within_then c.in-When.reg c.in-When.then c.in-When.other (rw c.in-When.is at c.requires.deep)))

pub walk_on-note-requires-else-enter-eq0 : goal.walk_on-note-requires-else-enter-eq0
walk_on-note-requires-else-enter-eq0 g t c =
    path_within _ _ _ _ c.walk_on-flow-else-enter-eq0.ensures.runs.path (rw c.deref-else-enter-eq0.ensures (within_other c.in-When.reg c.in-When.then c.in-When.other (rw c.in-When.is at c.requires.deep)))

pub walk_on-note-requires-then-not-enter_choice : goal.walk_on-note-requires-then-not-enter_choice
walk_on-note-requires-then-not-enter_choice g t c =
    path_within _ _ _ _ c.walk_on-flow-then-not-enter_choice.ensures.runs.path (rw c.deref-then-not-enter_choice.ensures (within_second c.in-OrElse.first c.in-OrElse.second (rw c.in-OrElse.is at c.requires.deep)))

pub walk_on-note-requires-then-ne-2 : goal.walk_on-note-requires-then-ne-2
walk_on-note-requires-then-ne-2 g t c =
    path_within _ _ _ _ c.walk_on-flow-in-OrElse.ensures.runs.path (rw c.deref-in-OrElse.ensures (within_first c.in-OrElse.first c.in-OrElse.second (rw c.in-OrElse.is at c.requires.deep)))

pub walk_on-note-requires-in-OrElse : goal.walk_on-note-requires-in-OrElse
walk_on-note-requires-in-OrElse g t c =
    path_within _ _ _ _ c.walk_on-flow-in-OrElse-2.ensures.runs.path (rw c.deref-in-OrElse-2.ensures (within_second c.in-OrElse.first c.in-OrElse.second (rw c.in-OrElse.is at c.requires.deep)))

pub walk_part-act-requires : goal.walk_part-act-requires
walk_part-act-requires g t c = record { leaf = c.is_leaf.ensures.0 c.if-is_leaf.true; may = leaf_may c.args.course.now.attempt c.requires (c.is_leaf.ensures.0 c.if-is_leaf.true) }

pub walk_on-loop-i-smaller : goal.walk_on-loop-i-smaller
walk_on-loop-i-smaller g t c = omega (arith, c.loop-i-test.true)

pub walk_on-bounds-t-items-i : goal.walk_on-bounds-t-items-i
walk_on-bounds-t-items-i g t c = c.loop-i-test.true

pub walk_on-enter_choice-requires : goal.walk_on-enter_choice-requires
walk_on-enter_choice-requires g t c = choice_saved c.in-OrElse.first c.in-OrElse.second (rw c.in-OrElse.is at c.requires.enough)

pub walk_on-slice_bounds-walk_on-count : goal.walk_on-slice_bounds-walk_on-count
walk_on-slice_bounds-walk_on-count g t c = rw c.enter_choice.auto.saves (choice_saved c.in-OrElse.first c.in-OrElse.second (rw c.in-OrElse.is at c.requires.enough))
