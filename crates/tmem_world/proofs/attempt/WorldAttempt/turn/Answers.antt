use Rattle.std.proofs.Common.{◌≡◌, ◌∙◌, sym, ap, length, rules, FitsSigned, to_z, of_z, w64, pos, subst, List, [], ◌∷◌, ◌++◌, ℤ, ℕ, Bool, true, Some, nat_eq}
use Rattle.std.specs.Prelude.{slice_get, slice_index_or}
use Rattle.std.proofs.lemmas.Bool.{false≢true}
use Rattle.std.proofs.lemmas.Int.{to_z-of_z}
use Rattle.std.proofs.lemmas.Option.{get_or_from_slice_get}
use Rattle.indexmap.specs.IndexMap.{insert_entry}
use Rattle.tmem_effect.specs.Names.{has_name}
use Rattle.tmem_effect.specs.Writes.{value_in}
use Rattle.tmem_tree.specs.Signatures.{AreMeant, names_of}
use Rattle.tmem_tentative.specs.Cursors.{attempt_of, probe_of}
use Rattle.tmem_tentative.specs.declared.attempt.Outcome.TheVariants as outcome
use Rattle.tmem_tentative.specs.declared.attempt.Probe.{Probe as Asked}
use Rattle.tmem_core.specs.Held.{core_state, core_table}
use Rattle.tmem_world.proofs.HeldAttempts.{not_none, plan_fits, with_plan_fits}
use Rattle.tmem_world.proofs.TurnedPoints.{comes_to, filled_in, stays_at}
use Rattle.tmem_world.proofs.attempt.WorldAttempt.turn.Goals as goal

pub peek-value-requires : goal.peek-value-requires
peek-value-requires g c =
    let fits = plan_fits _ _ _ _ _ c.args.self.now c.in-Some.plan c.in-Some.is c.requires in
    rw c.in-Ok-Need.field-0-is at (c.in-Ok-Need.ensures.within (length (core_state c.args.core.now).values) fits.variables)

pub probe-held-requires-clause-named : goal.probe-held-requires-clause-named
probe-held-requires-clause-named g c =
    let names = g.T.Invariants.names (core_table c.args.core.now) in
    let fits = plan_fits _ _ _ _ _ c.args.self.now c.in-Some.plan c.in-Some.is c.requires in
    subst (λ (p : Asked). has_name names p.name ≡ true) (sym c.probe-probe.ensures) (rw c.in-Ok-Probe.field-0-is at (c.in-Ok-Probe.ensures.named names fits.names))

pub probe-held-requires-clause-filled : goal.probe-held-requires-clause-filled
probe-held-requires-clause-filled g c =
    let t = g.T.Invariants in
    let table = core_table c.args.core.now in
    let plan = c.in-Some.plan in
    let probe = probe_of c.advance.new.self in
    let fits = plan_fits _ _ _ _ _ c.args.self.now plan c.in-Some.is c.requires in
    let filled = rw c.in-Ok-Probe.field-0-is at c.in-Ok-Probe.ensures.filled in
    subst (λ (p : Asked). (index : ℕ) → slice_get (t.names table) index ≡ Some p.name → length p.values ≡ length (slice_index_or (t.footprints table) index [])) (sym c.probe-probe.ensures)
    (filled_in (t.names table) (t.footprints table) (t.is_stated table) (g.met.T.Invariants.has_meanings table) (g.met.T.Invariants.over table) plan.signatures fits.signatures probe.name probe.values filled.0 filled.1)

pub returns-in-Ok-Need-clause-begun : goal.returns-in-Ok-Need-clause-begun
returns-in-Ok-Need-clause-begun g c = λ plan is going.
    let core = c.args.core.now in
    let var = c.in-Ok-Need.var in
    let so = c.advance.ensures in
    let fits = plan_fits _ _ _ _ _ c.args.self.now c.in-Some.plan c.in-Some.is c.requires in
    let signed : FitsSigned w64 c.peek-value.result = search rules in
    let value = to_z w64 (of_z w64 c.peek-value.result) in
    let lacks = rw c.in-Ok-Need.field-0-is at c.in-Ok-Need.ensures.fits in (
      comes_to (g.S.StoredSteps.is_stated c.args.steps.now) (g.T.Invariants.is_stated (core_table core)) c.args.self.now.plan plan c.in-Some.plan is c.in-Some.is fits.signatures c.args.self.now.cursor c.advance.new.self
          so.given so.answers (outcome.Need var) (rw c.in-Ok-Need.field-0-is at c.in-Ok-Need.ensures.right),
      ap (λ (rs : List (ℕ × ℤ)). value_in rs var) (sym so.given) ∙ lacks,
      to_z-of_z w64 c.peek-value.result signed ∙ sym (get_or_from_slice_get (core_state core).values var c.peek-value.result (pos 0) c.peek-value.ensures),
      c.give.ensures.given ∙ ap (λ (rs : List (ℕ × ℤ)). insert_entry nat_eq rs var value) so.given,
      c.give.ensures.answers ∙ so.answers,
      c.give.ensures.going,
    )

pub returns-in-Ok-Probe-clause-begun : goal.returns-in-Ok-Probe-clause-begun
returns-in-Ok-Probe-clause-begun g c = λ plan is going.
    let probe = probe_of c.advance.new.self in
    let so = c.advance.ensures in
    let fits = plan_fits _ _ _ _ _ c.args.self.now c.in-Some.plan c.in-Some.is c.requires in (
      probe,
      comes_to (g.S.StoredSteps.is_stated c.args.steps.now) (g.T.Invariants.is_stated (core_table c.args.core.now)) c.args.self.now.plan plan c.in-Some.plan is c.in-Some.is fits.signatures c.args.self.now.cursor c.advance.new.self
          so.given so.answers (outcome.Probe probe) (rw c.in-Ok-Probe.field-0-is at c.in-Ok-Probe.ensures.right),
      ap (λ (p : Asked). p.name) c.probe-probe.ensures,
      λ tests asked. c.probe-held.ensures tests asked ∙ ap (λ (p : Asked). tests.test p.name p.values) c.probe-probe.ensures,
      c.answer.ensures.given ∙ so.given,
      c.answer.ensures.answers ∙ ap (λ (bs : List Bool). bs ++ c.probe-held.result ∷ []) so.answers,
      c.answer.ensures.going,
    )

pub returns-in-Ok-Ended-clause-fits : goal.returns-in-Ok-Ended-clause-fits
returns-in-Ok-Ended-clause-fits g c = λ signatures held.
    let vars = length (core_state c.args.core.now).values in
    let names = names_of signatures in
    let fits = plan_fits _ _ _ _ _ c.args.self.now c.in-Some.plan c.in-Some.is held in
    let within = rw c.in-Ok-Ended.field-0-is at (c.in-Ok-Ended.ensures.within vars fits.variables) in
    let named = rw c.in-Ok-Ended.field-0-is at (c.in-Ok-Ended.ensures.named names fits.names) in
    with_plan_fits vars (g.S.StoredSteps.arities c.args.steps.now) (g.S.StoredSteps.is_stated c.args.steps.now) names (λ tests. AreMeant tests signatures) _ c.in-Some.plan c.in-Some.is
    (record { variables = fits.variables; steps = fits.steps; names = fits.names; signatures = fits.signatures; stands = c.advance.ensures.stands; ended = λ ended. (within, named) })

pub returns-in-Ok-Ended-clause-begun : goal.returns-in-Ok-Ended-clause-begun
returns-in-Ok-Ended-clause-begun g c = λ plan is going.
    let so = c.advance.ensures in
    let fits = plan_fits _ _ _ _ _ c.args.self.now c.in-Some.plan c.in-Some.is c.requires in (
      comes_to (g.S.StoredSteps.is_stated c.args.steps.now) (g.T.Invariants.is_stated (core_table c.args.core.now)) c.args.self.now.plan plan c.in-Some.plan is c.in-Some.is fits.signatures c.args.self.now.cursor c.advance.new.self
          so.given so.answers (outcome.Ended (attempt_of c.advance.new.self)) (rw c.in-Ok-Ended.field-0-is at c.in-Ok-Ended.ensures.right),
      so.given,
      rw c.in-Ok-Ended.field-0-is at c.in-Ok-Ended.ensures.answered,
    )

pub returns-in-Err-clause-begun : goal.returns-in-Err-clause-begun
returns-in-Err-clause-begun g c = λ plan is going. (c.in-Err.ensures.fault, c.in-Err.ensures.same)

pub returns-in-Ok-Need-clause-fits : goal.returns-in-Ok-Need-clause-fits
returns-in-Ok-Need-clause-fits g c = λ signatures held.
    let plan = c.in-Some.plan in
    let fits = plan_fits _ _ _ _ _ c.args.self.now plan c.in-Some.is held in
    with_plan_fits (length (core_state c.args.core.now).values) (g.S.StoredSteps.arities c.args.steps.now) (g.S.StoredSteps.is_stated c.args.steps.now) (names_of signatures) (λ tests. AreMeant tests signatures) _ plan c.in-Some.is
    (record { variables = fits.variables; steps = fits.steps; names = fits.names; signatures = fits.signatures; stands = λ m is. c.give.ensures.stands m plan (c.advance.ensures.stands m is); ended = λ ended. absurd (c.give.ensures.going ended) })

pub returns-in-Ok-Probe-clause-fits : goal.returns-in-Ok-Probe-clause-fits
returns-in-Ok-Probe-clause-fits g c = λ signatures held.
    let plan = c.in-Some.plan in
    let fits = plan_fits _ _ _ _ _ c.args.self.now plan c.in-Some.is held in
    with_plan_fits (length (core_state c.args.core.now).values) (g.S.StoredSteps.arities c.args.steps.now) (g.S.StoredSteps.is_stated c.args.steps.now) (names_of signatures) (λ tests. AreMeant tests signatures) _ plan c.in-Some.is
    (record { variables = fits.variables; steps = fits.steps; names = fits.names; signatures = fits.signatures; stands = λ m is. c.answer.ensures.stands m plan (c.advance.ensures.stands m is); ended = λ ended. absurd (c.answer.ensures.going ended) })

pub returns-in-Ok-Need-clause-at : goal.returns-in-Ok-Need-clause-at
returns-in-Ok-Need-clause-at g c = λ plan m tests is means asked at.
    let fits = plan_fits _ _ _ _ _ c.args.self.now c.in-Some.plan c.in-Some.is c.requires in
    c.give.ensures.at m tests plan.tree (stays_at (g.S.StoredSteps.is_stated c.args.steps.now) (g.T.Invariants.is_stated (core_table c.args.core.now)) c.args.self.now.plan plan c.in-Some.plan is c.in-Some.is fits.signatures c.args.self.now.cursor c.advance.new.self c.advance.ensures.at m tests means asked at)

pub returns-in-Ok-Ended-clause-at : goal.returns-in-Ok-Ended-clause-at
returns-in-Ok-Ended-clause-at g c = λ plan m tests is means asked at.
    let fits = plan_fits _ _ _ _ _ c.args.self.now c.in-Some.plan c.in-Some.is c.requires in
    stays_at (g.S.StoredSteps.is_stated c.args.steps.now) (g.T.Invariants.is_stated (core_table c.args.core.now)) c.args.self.now.plan plan c.in-Some.plan is c.in-Some.is fits.signatures c.args.self.now.cursor c.advance.new.self c.advance.ensures.at m tests means asked at

pub returns-in-Err-clause-at : goal.returns-in-Err-clause-at
returns-in-Err-clause-at g c = λ plan m tests is means asked at.
    let fits = plan_fits _ _ _ _ _ c.args.self.now c.in-Some.plan c.in-Some.is c.requires in
    stays_at (g.S.StoredSteps.is_stated c.args.steps.now) (g.T.Invariants.is_stated (core_table c.args.core.now)) c.args.self.now.plan plan c.in-Some.plan is c.in-Some.is fits.signatures c.args.self.now.cursor c.advance.new.self c.advance.ensures.at m tests means asked at

pub returns-in-Ok-Probe-clause-at : goal.returns-in-Ok-Probe-clause-at
returns-in-Ok-Probe-clause-at g c = λ plan m tests is means asked at.
    let fits = plan_fits _ _ _ _ _ c.args.self.now c.in-Some.plan c.in-Some.is c.requires in
    c.answer.ensures.at m tests plan.tree (stays_at (g.S.StoredSteps.is_stated c.args.steps.now) (g.T.Invariants.is_stated (core_table c.args.core.now)) c.args.self.now.plan plan c.in-Some.plan is c.in-Some.is fits.signatures c.args.self.now.cursor c.advance.new.self c.advance.ensures.at m tests means asked at) (c.probe-held.ensures tests asked ∙ ap (λ (p : Asked). tests.test p.name p.values) c.probe-probe.ensures)

pub advance-requires-clause-stands : goal.advance-requires-clause-stands
advance-requires-clause-stands g c = (plan_fits _ _ _ _ _ c.args.self.now c.in-Some.plan c.in-Some.is c.requires).stands

pub advance-requires-clause-steps : goal.advance-requires-clause-steps
advance-requires-clause-steps g c = (plan_fits _ _ _ _ _ c.args.self.now c.in-Some.plan c.in-Some.is c.requires).steps

pub returns-in-Err-clause-fits : goal.returns-in-Err-clause-fits
returns-in-Err-clause-fits g c = λ signatures held.
    let plan = c.in-Some.plan in
    let fits = plan_fits _ _ _ _ _ c.args.self.now plan c.in-Some.is held in
    with_plan_fits (length (core_state c.args.core.now).values) (g.S.StoredSteps.arities c.args.steps.now) (g.S.StoredSteps.is_stated c.args.steps.now) (names_of signatures) (λ tests. AreMeant tests signatures) _ plan c.in-Some.is
    (record { variables = fits.variables; steps = fits.steps; names = fits.names; signatures = fits.signatures; stands = c.advance.ensures.stands; ended = λ ended. absurd (false≢true (sym c.if-is_ended.false ∙ c.is_ended.ensures.1 (sym c.in-Err.ensures.same.stage ∙ ended))) })

pub returns-then-is_ended-clause-begun : goal.returns-then-is_ended-clause-begun
returns-then-is_ended-clause-begun g c = λ plan is going. absurd (going (c.is_ended.ensures.0 c.if-is_ended.true))

pub returns-in-Ok-Need-clause-ended : goal.returns-in-Ok-Need-clause-ended
returns-in-Ok-Need-clause-ended g c = λ held. absurd (false≢true (sym c.if-is_ended.false ∙ c.is_ended.ensures.1 held.1))

pub returns-in-Ok-Probe-clause-ended : goal.returns-in-Ok-Probe-clause-ended
returns-in-Ok-Probe-clause-ended g c = λ held. absurd (false≢true (sym c.if-is_ended.false ∙ c.is_ended.ensures.1 held.1))

pub returns-in-Ok-Ended-clause-ended : goal.returns-in-Ok-Ended-clause-ended
returns-in-Ok-Ended-clause-ended g c = λ held. absurd (false≢true (sym c.if-is_ended.false ∙ c.is_ended.ensures.1 held.1))

pub returns-in-Ok-Need-clause-idle : goal.returns-in-Ok-Need-clause-idle
returns-in-Ok-Need-clause-idle g c = λ none. absurd (not_none c.args.self.now.plan c.in-Some.plan c.in-Some.is none)
