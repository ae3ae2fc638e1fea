use Rattle.std.proofs.Common.{subst}
use Rattle.tmem_tree.specs.Signatures.{footprint_in}
use Rattle.tmem_tentative.specs.declared.attempt.Progress.TheVariants.{Probe}
use Rattle.tmem_tentative.specs.Cursors.{IsAtStage, given, answers, unused, place, probe_of}
use Rattle.tmem_tentative.proofs.CursorGave.{answered_more}
use Rattle.tmem_tentative.proofs.CursorStands.{answered_stands, at_right}
use Rattle.tmem_tentative.proofs.cursor.Cursor.answer.Goals as goal

pub returns-clause-stands : goal.returns-clause-stands
returns-clause-stands c = λ m plan stands.
    let old = c.args.self.now in
    let footprint = footprint_in plan.signatures in
    let h = subst (λ s. IsAtStage m footprint plan.tree s old) c.requires stands in
    (h.0, rw c.add.ensures (answered_stands m footprint plan.tree (answers old) (place old) (given old) (unused old) c.args.held h.3 h.2))

pub returns-clause-at : goal.returns-clause-at
returns-clause-at c = λ m tests plan at is.
    let old = c.args.self.now in
    let h = subst (λ s. IsAtStage m tests.footprint plan s old) c.requires at.stands in
    record {
      stands = (h.0, rw c.add.ensures (answered_stands m tests.footprint plan (answers old) (place old) (given old) (unused old) c.args.held h.3 h.2));
      answered = rw c.add.ensures (answered_more m tests plan (given old) (answers old) (probe_of old) c.args.held is (at_right m tests plan old Probe at c.requires) at.answered);
    }
