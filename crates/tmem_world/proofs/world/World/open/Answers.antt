use Rattle.std.proofs.Common.{refl, sym, ◌∙◌, ap, subst}
use Rattle.std.specs.Prelude.{Ok, Err}
use Rattle.tmem_disk.specs.Disk.{AtEachMoment}
use Rattle.tmem_fault.specs.declared.fault.Fault.TheVariants.{Memory}
use Rattle.tmem_gate.specs.Calls.{Uses}
use Rattle.tmem_core.specs.Program.{IsProgramOf}
use Rattle.tmem_journal.specs.Held as journal
use Rattle.tmem_opening.specs.Held.{found_of, opening_position, opening_device}
use Rattle.tmem_opening.specs.Opening.{FindsState, Mending}
use Rattle.tmem_opening.proofs.Laws.{only_failed, spent_content, handed_back}
use Rattle.tmem_world.specs.Chain.{IsSafe, state_at}
use Rattle.tmem_world.proofs.Chains.{state_is, sound_is, not_refused, opening_moments, refused_back, given_back, begins}
use Rattle.tmem_world.proofs.Laws.{opens_chain}
use Rattle.tmem_world.proofs.OpenedPoints.{opens}
use Rattle.tmem_world.proofs.world.World.open.Goals as goal

pub returns-in-Err-clause-chain : goal.returns-in-Err-clause-chain
returns-in-Err-clause-chain g c = λ program h means store keeps.
    let old = g.D.Disk.view c.args.disk in
    let so = c.in-Err.ensures.refused in
    let safe = store.device.each (so.uses.model keeps) old.seen ((g.met.D.Disk.is_device c.args.disk).seen_may_stay (so.uses.model keeps)) in
    refused_back _ c.in-Err.fault c.in-Err.disk refl program c.args.vars c.args.slots h old store
    (only_failed so
    (λ f other by. not_refused c.represents_one.ensures program c.args.vars c.args.slots store.fits.layout h old store safe c.refused_represents_none.ensures f other (by keeps store.fits))
    (λ un. (un.3 program means.invariants).1 (sound_is c.represents_one.ensures program c.args.vars c.args.slots store.fits.layout h old store safe (un.2 keeps).was.position un.1 (un.2 keeps).was.stands)))
    (λ is. spent_content so is keeps store.fits) so.uses.capacity so.uses.model so.mends

-- of a world that is given up
pub returns-in-Err-empty_attempts-clause-mends : goal.returns-in-Err-empty_attempts-clause-mends
returns-in-Err-empty_attempts-clause-mends g c =
    let so = c.in-Ok.ensures.opened in
    let x = c.in-Ok.opening in
    (handed_back g.T.Invariants c.args.table _ _ (g.D.Disk.view c.args.disk) g.D.Disk.view c.into_disk.result _ c.into_disk.ensures so.uses so.fits.2 so.mends (opening_position x) (found_of x) so.found so.sound).0

pub returns-in-Err-empty_attempts-clause-refused : goal.returns-in-Err-empty_attempts-clause-refused
returns-in-Err-empty_attempts-clause-refused g c =
    let so = c.in-Ok.ensures.opened in
    let x = c.in-Ok.opening in
    (handed_back g.T.Invariants c.args.table _ _ (g.D.Disk.view c.args.disk) g.D.Disk.view c.into_disk.result _ c.into_disk.ensures so.uses so.fits.2 so.mends (opening_position x) (found_of x) so.found so.sound).1

pub returns-in-Err-empty_attempts-clause-chain : goal.returns-in-Err-empty_attempts-clause-chain
returns-in-Err-empty_attempts-clause-chain g c = λ program h means store keeps.
    let so = c.in-Ok.ensures.opened in
    given_back _ Memory c.into_disk.result refl program c.args.vars c.args.slots h (g.D.Disk.view c.args.disk) store c.in-Ok.opening.journal c.into_disk.ensures refl so.uses so.mends

pub returns-clause-found : goal.returns-clause-found
returns-clause-found g c =
    let x = c.in-Ok.opening in
    let so = c.in-Ok.ensures.opened in
    let begun = c.of-both.ensures in (
      found_of x,
      opening_position x,
      λ program means.
          opens program x c.of-both.result.0 begun.core begun.journal _ refl c.in-Ok-empty_attempts.ensures.len c.in-Ok-empty_attempts.ensures.emptied (g.D.Disk.view c.args.disk).failures so.uses.failures
          c.args.table so.sound (subst (λ k. IsProgramOf g.T.Invariants k program) (ap (λ k. k.table) begun.core ∙ so.holds) means.invariants),
      λ k. subst (λ j. FindsState c.args.vars c.args.slots (g.D.Disk.view c.args.disk) (journal.journal_device j) (opening_position x) (found_of x)) (sym begun.journal) (so.found (subst (λ j. (journal.journal_device j).keeps_model) begun.journal k)),
    )

pub returns-clause-recovers : goal.returns-clause-recovers
returns-clause-recovers g c = λ program a b means sound_a sound_b fits left keeps.
    let x = c.in-Ok.opening in
    let so = c.in-Ok.ensures.opened in
    let begun = c.of-both.ensures in (
      found_of x,
      opening_position x,
      c.in-Ok.ensures.recovers program a b means.invariants sound_a sound_b fits left (subst (λ j. (journal.journal_device j).keeps_model) begun.journal keeps),
      opens program x c.of-both.result.0 begun.core begun.journal _ refl c.in-Ok-empty_attempts.ensures.len c.in-Ok-empty_attempts.ensures.emptied (g.D.Disk.view c.args.disk).failures so.uses.failures
          c.args.table so.sound means.invariants,
    )

pub returns-clause-mends : goal.returns-clause-mends
returns-clause-mends g c =
    subst (λ j. Mending c.args.vars c.args.slots (g.D.Disk.view c.args.disk) (journal.journal_device j)) (sym c.of-both.ensures.journal) c.in-Ok.ensures.opened.mends

pub returns-clause-chain : goal.returns-clause-chain
returns-clause-chain g c = λ program h means store keeps.
    let old = g.D.Disk.view c.args.disk in
    let x = c.in-Ok.opening in
    let so = c.in-Ok.ensures.opened in
    let begun = c.of-both.ensures in
    let keeps' = subst (λ j. (journal.journal_device j).keeps_model) begun.journal keeps in
    let safe = store.device.each (so.uses.model keeps') old.seen ((g.met.D.Disk.is_device c.args.disk).seen_may_stay (so.uses.model keeps')) in
    let was = (so.found keeps').was in
    let is = state_is c.represents_one.ensures program c.args.vars c.args.slots store.fits.layout h old store safe was.position (found_of x) was.stands in
    let point = opens program x c.of-both.result.0 begun.core begun.journal _ refl c.in-Ok-empty_attempts.ensures.len c.in-Ok-empty_attempts.ensures.emptied old.failures so.uses.failures c.args.table so.sound means.invariants in
    let same = ap (λ l. l.vars) c.layout.ensures ∙ ap (λ j. (journal.journal_layout j).vars) begun.journal ∙ so.fits.0 in
    let log = ap (λ l. l.slots) c.layout.ensures ∙ ap (λ j. (journal.journal_layout j).slots) begun.journal ∙ so.fits.1 in
    let stands = subst (λ s. FindsState c.args.vars c.args.slots old (opening_device x) (opening_position x) s) is.1 (so.found keeps') in
    record {
      any_moment = subst (λ j. AtEachMoment old (journal.journal_device j) (IsSafe program c.args.vars c.args.slots h)) (sym begun.journal)
          (opening_moments program c.args.vars c.args.slots h old (opening_device x) store so.uses.model so.mends.recovers.any_moment);
      found = (
        (found_of x).count,
        opening_position x,
        is.0,
        begins _ program h c.args.vars same (found_of x) (opening_position x) old.failures is.0 is.1 point,
        subst (λ j. FindsState c.args.vars c.args.slots old (journal.journal_device j) (opening_position x) (state_at program c.args.vars h (found_of x).count)) (sym begun.journal) stands,
        opens_chain (record { vars = c.layout.result.vars; slots = c.layout.result.slots; arities = g.S.StoredSteps.arities c.args.steps; program = program }) h c.args.vars c.args.slots same log (found_of x).count (opening_position x) old.seen old.failures is.0 stands.was
            (g.met.D.Disk.is_device c.args.disk).failures_fit,
      );
    }

pub returns-in-Err-clause-refused : goal.returns-in-Err-clause-refused
returns-in-Err-clause-refused g c = c.in-Err.ensures.refused

pub returns-in-Err-empty_attempts-clause-uses : goal.returns-in-Err-empty_attempts-clause-uses
returns-in-Err-empty_attempts-clause-uses g c =
    let so = c.in-Ok.ensures.opened.uses in
    subst (λ x. Uses {T = Unit {0}} (g.D.Disk.view c.args.disk) (g.D.Disk.view x) (Err Memory)) (sym c.into_disk.ensures) (record { capacity = so.capacity; model = so.model; failures = so.failures })

pub returns-in-Err-clause-uses : goal.returns-in-Err-clause-uses
returns-in-Err-clause-uses g c = c.in-Err.ensures.refused.uses

pub returns-in-Err-clause-mends : goal.returns-in-Err-clause-mends
returns-in-Err-clause-mends g c = c.in-Err.ensures.refused.mends

pub returns-in-Err-clause-untouched : goal.returns-in-Err-clause-untouched
returns-in-Err-clause-untouched g c = c.in-Err.ensures.untouched

pub returns-in-Err-clause-recovers : goal.returns-in-Err-clause-recovers
returns-in-Err-clause-recovers g c = λ program a b means sound_a sound_b fits left keeps. c.in-Err.ensures.recovers program a b means.invariants sound_a sound_b fits left keeps

pub returns-in-Err-empty_attempts-clause-untouched : goal.returns-in-Err-empty_attempts-clause-untouched
returns-in-Err-empty_attempts-clause-untouched g c = λ unfit. absurd (unfit c.in-Ok.ensures.opened.fits.2)

pub returns-clause-table : goal.returns-clause-table
returns-clause-table g c = ap (λ k. k.table) c.of-both.ensures.core ∙ c.in-Ok.ensures.opened.holds

pub returns-clause-uses : goal.returns-clause-uses
returns-clause-uses g c =
    subst (λ j. Uses {T = Unit {0}} (g.D.Disk.view c.args.disk) (journal.journal_device j) (Ok tt)) (sym c.of-both.ensures.journal) c.in-Ok.ensures.opened.uses

pub returns-clause-fits : goal.returns-clause-fits
returns-clause-fits g c =
    let so = c.in-Ok.ensures.opened.fits in
    let begun = c.of-both.ensures.journal in (
      ap (λ l. l.vars) c.layout.ensures ∙ ap (λ j. (journal.journal_layout j).vars) begun ∙ so.0,
      ap (λ l. l.slots) c.layout.ensures ∙ ap (λ j. (journal.journal_layout j).slots) begun ∙ so.1,
      tt,
      so.2,
    )
