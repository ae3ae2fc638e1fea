use Rattle.std.proofs.Common.{sym, ◌∙◌, refl}
use Rattle.tmem_tentative.specs.declared.attempt.Attempt.{Attempt}
use Rattle.tmem_tentative.proofs.HandedOutcomes.{handed_right, handed_fits, handed_within, handed_named, handed_filled}
use Rattle.tmem_tentative.proofs.cursor.Cursor.resume.Goals as goal

pub returns-clause-right : goal.returns-clause-right
returns-clause-right g c = λ m tests stated fits at.
    let copy : Attempt = record c.advance.new.self.course.attempt { reads = c.in_ok-reads.reads } in
    rw c.outcome.ensures (handed_right c.advance.new.self copy (c.in_ok-reads.ensures ∙ sym c.advance.ensures.given) refl refl refl m tests c.args.plan.now.tree c.in_ok-progress.progress (c.advance.ensures.at m tests stated fits at) c.in_ok-progress.ensures.answered)

pub returns-clause-fits : goal.returns-clause-fits
returns-clause-fits g c =
    let copy : Attempt = record c.advance.new.self.course.attempt { reads = c.in_ok-reads.reads } in
    rw c.outcome.ensures (handed_fits c.advance.new.self copy (c.in_ok-reads.ensures ∙ sym c.advance.ensures.given) refl refl refl c.in_ok-progress.progress c.in_ok-progress.ensures.fits)

pub returns-clause-within : goal.returns-clause-within
returns-clause-within g c = λ vars fits.
    let copy : Attempt = record c.advance.new.self.course.attempt { reads = c.in_ok-reads.reads } in
    rw c.outcome.ensures (handed_within c.advance.new.self copy (c.in_ok-reads.ensures ∙ sym c.advance.ensures.given) refl refl refl vars c.in_ok-progress.progress (c.in_ok-progress.ensures.within vars fits))

pub returns-clause-named : goal.returns-clause-named
returns-clause-named g c = λ names fits.
    let copy : Attempt = record c.advance.new.self.course.attempt { reads = c.in_ok-reads.reads } in
    rw c.outcome.ensures (handed_named c.advance.new.self copy (c.in_ok-reads.ensures ∙ sym c.advance.ensures.given) refl refl refl names c.in_ok-progress.progress (c.in_ok-progress.ensures.named names fits))

pub returns-clause-filled : goal.returns-clause-filled
returns-clause-filled g c =
    let copy : Attempt = record c.advance.new.self.course.attempt { reads = c.in_ok-reads.reads } in
    rw c.outcome.ensures (handed_filled c.advance.new.self copy (c.in_ok-reads.ensures ∙ sym c.advance.ensures.given) refl refl refl c.args.plan.now.signatures c.in_ok-progress.progress c.in_ok-progress.ensures.filled)
