use Rattle.std.proofs.Common.{◌≡◌, nat_eq, sym, subst, rules}
use Rattle.indexmap.specs.IndexMap.{insert_entry}
use Rattle.tmem_tree.specs.Signatures.{footprint_in}
use Rattle.tmem_tentative.specs.Cursors.{EvaluationStandsAt, IsAtStage, given, answers, unused, place}
use Rattle.tmem_tentative.specs.Right.{HaveAnswered}
use Rattle.tmem_tentative.proofs.CursorGave.{answered_given}
use Rattle.tmem_tentative.proofs.CursorStands.{given_covers, given_stands}
use Rattle.tmem_tentative.proofs.cursor.Cursor.give.Goals as goal

pub returns-clause-stands : goal.returns-clause-stands
returns-clause-stands c = λ m plan stands.
    let old = c.args.self.now in
    let footprint = footprint_in plan.signatures in
    let h = subst (λ s. IsAtStage m footprint plan.tree s old) c.requires stands in
    let e : c.insert-added.new.self.entries ≡ insert_entry nat_eq (given old) c.args.var c.args.value = search rules in
    (h.0, subst (λ es. EvaluationStandsAt m footprint plan.tree (answers old) (place old) es (record { reads = es; left = unused old })) (sym e) (given_stands m footprint plan.tree (answers old) (place old) (given old) c.args.var c.args.value (unused old) h.1 (h.2 c.args.value)))

pub returns-clause-at : goal.returns-clause-at
returns-clause-at c = λ m tests plan at.
    let old = c.args.self.now in
    let h = subst (λ s. IsAtStage m tests.footprint plan s old) c.requires at.stands in
    let e : c.insert-added.new.self.entries ≡ insert_entry nat_eq (given old) c.args.var c.args.value = search rules in
    record {
      stands = (h.0, subst (λ es. EvaluationStandsAt m tests.footprint plan (answers old) (place old) es (record { reads = es; left = unused old })) (sym e) (given_stands m tests.footprint plan (answers old) (place old) (given old) c.args.var c.args.value (unused old) h.1 (h.2 c.args.value)));
      answered = subst (λ es. HaveAnswered m tests plan es (answers old)) (sym e) (answered_given m tests plan (given old) _ (answers old) (given_covers m tests.footprint plan (answers old) (place old) (given old) c.args.var c.args.value h.1) at.answered);
    }
