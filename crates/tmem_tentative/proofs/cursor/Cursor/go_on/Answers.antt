use Rattle.std.proofs.Common.{◌≡◌, ℤ, List, [], length, nat_eq, option_to_list, sym, ap, ◌∙◌, subst}
use Rattle.std.proofs.lemmas.List.{with_items_is}
use Rattle.std.specs.Vec.{with_items}
use Rattle.indexmap.specs.IndexMap.{insert_entry}
use Rattle.tmem_tree.specs.Visited.{Visit, Probe}
use Rattle.tmem_tentative.specs.declared.attempt.Ending.TheVariants.{Normal, Retry}
use Rattle.tmem_tentative.specs.declared.save.Save.{Save}
use Rattle.tmem_tentative.specs.Answers.{answers_of}
use Rattle.tmem_tentative.specs.Cursors.{MayGoOn, EvaluationStandsAt, AsksFor, answers}
use Rattle.tmem_tentative.specs.Places.{place_at}
use Rattle.tmem_tentative.proofs.CursorStands.{may_run, waits_at, tests_at, ended_at, leaving_out}
use Rattle.tmem_tentative.proofs.cursor.Cursor.go_on.Goals as goal

pub walk_on-flow-requires : goal.walk_on-flow-requires
walk_on-flow-requires g c =
    rw (c.as_mut_slice.ensures.value, c.requires.tree) (may_run c.args.plan.now c.args.self.now (g.met.S.StoredSteps.has_meanings c.args.steps.now) c.requires.limits c.requires.steps c.requires.known c.requires.going c.requires.stands)

pub returns-in-Need-clause-stands : goal.returns-in-Need-clause-stands
returns-in-Need-clause-stands g c = λ m footprint stated of at.
    let old = c.args.self.now in
    let plan = c.args.plan.now.tree in
    let course = c.walk_on-flow.new.course in
    let reads = course.attempt.reads.entries in
    let var = c.in-Need.var in
    let saves = c.walk_on-flow.new.saves in
    let long : length saves ≡ length old.saves.items = c.walk_on-flow.auto.saves ∙ ap (λ (l : List Save). length l) c.as_mut_slice.ensures.value in
    let is : (with_items old.saves saves).items ≡ saves = with_items_is old.saves saves (long ∙ sym old.saves.ok.0) in
    subst (λ l. MayGoOn plan (place_at course l) × AsksFor m footprint plan reads (answers old) (Visit var) × ((n : ℤ) → EvaluationStandsAt m footprint plan (answers old) (place_at course l) reads (record { reads = insert_entry nat_eq reads var n; left = option_to_list course.pending }))) (sym is)
    (waits_at m footprint plan old course c.requires.going at c.walk_on-flow.ensures.reads stated of long (rw (c.as_mut_slice.ensures.value, c.requires.tree, c.in-Need.is) at c.walk_on-flow.ensures.runs))

pub returns-in-Test-clause-stands : goal.returns-in-Test-clause-stands
returns-in-Test-clause-stands g c = λ m footprint stated of at.
    let old = c.args.self.now in
    let plan = c.args.plan.now.tree in
    let course = c.walk_on-flow.new.course in
    let reads = course.attempt.reads.entries in
    let left = option_to_list course.pending in
    let saves = c.walk_on-flow.new.saves in
    let long : length saves ≡ length old.saves.items = c.walk_on-flow.auto.saves ∙ ap (λ (l : List Save). length l) c.as_mut_slice.ensures.value in
    let is : (with_items old.saves saves).items ≡ saves = with_items_is old.saves saves (long ∙ sym old.saves.ok.0) in
    subst (λ l. MayGoOn plan (place_at course l) × AsksFor m footprint plan reads (answers old) (Probe course.probe.name course.probe.values) × EvaluationStandsAt m footprint plan (answers old) (place_at course l) reads (record { reads = reads; left = left }) × (left ≡ [])) (sym is)
    (tests_at m footprint plan old course c.requires.going at c.walk_on-flow.ensures.reads stated of long (rw (c.as_mut_slice.ensures.value, c.requires.tree, c.in-Test.is) at c.walk_on-flow.ensures.runs))

pub returns-in-Normal-clause-stands : goal.returns-in-Normal-clause-stands
returns-in-Normal-clause-stands g c = λ m footprint stated of at.
    let run = rw (c.as_mut_slice.ensures.value, c.requires.tree, c.in-Normal.is) at c.walk_on-flow.ensures.runs in
    ended_at m footprint c.args.plan.now.tree c.args.self.now c.walk_on-flow.new.course c.requires.going at c.walk_on-flow.ensures.reads Normal c.finish.new.self (run.leads m footprint stated of) c.finish.ensures.attempt
    (ap (λ a. answers_of a.value) c.finish.ensures.answers) (ap option_to_list c.finish.ensures.pending) c.finish.ensures.ended

pub returns-in-Retry-clause-stands : goal.returns-in-Retry-clause-stands
returns-in-Retry-clause-stands g c = λ m footprint stated of at.
    let run = rw (c.as_mut_slice.ensures.value, c.requires.tree, c.in-Retry.is) at c.walk_on-flow.ensures.runs in
    ended_at m footprint c.args.plan.now.tree c.args.self.now c.walk_on-flow.new.course c.requires.going at c.walk_on-flow.ensures.reads Retry c.finish-in-Retry.new.self (run.leads m footprint stated of) c.finish-in-Retry.ensures.attempt
    (ap (λ a. answers_of a.value) c.finish-in-Retry.ensures.answers) (ap option_to_list c.finish-in-Retry.ensures.pending) c.finish-in-Retry.ensures.ended

pub returns-in-Leave-clause-stands : goal.returns-in-Leave-clause-stands
returns-in-Leave-clause-stands g c = λ m footprint stated of at.
    let course = c.walk_on-flow.new.course in
    let end = course.attempt.ending in
    let run = rw (c.as_mut_slice.ensures.value, c.requires.tree, c.in-Leave.is, leaving_out end (c.walk_on-flow.ensures.leaves c.in-Leave.is)) at c.walk_on-flow.ensures.runs in
    ended_at m footprint c.args.plan.now.tree c.args.self.now course c.requires.going at c.walk_on-flow.ensures.reads end c.finish-in-Leave.new.self (run.leads m footprint stated of) c.finish-in-Leave.ensures.attempt
    (ap (λ a. answers_of a.value) c.finish-in-Leave.ensures.answers) (ap option_to_list c.finish-in-Leave.ensures.pending) c.finish-in-Leave.ensures.ended
