use Rattle.std.proofs.Common.{rules, ◌≡◌, refl, sym, ◌∙◌, ap, subst, length-set}
use Rattle.std.specs.Prelude.{Some}
use Rattle.std.proofs.lemmas.List.Elements.{All-set}
use Rattle.tmem_journal.specs.Held as journal
use Rattle.tmem_tree.specs.Signatures.{AreMeant, names_of}
use Rattle.tmem_world.specs.declared.held.Held.TheVariants.{With}
use Rattle.tmem_world.specs.Parts.{held_disk, table_in}
use Rattle.tmem_world.specs.WorldModel.{attempt_at}
use Rattle.tmem_world.specs.Attempts.{FitsAttempt}
use Rattle.tmem_world.specs.Represents.{world_disk, held_of}
use Rattle.tmem_world.proofs.HeldAttempts.{settles_fit, ended_fits, slot_there, slot_within, slot_fits, fits_table}
use Rattle.tmem_world.proofs.Points.{still_answered, held_is, is_with, with_core, attempt_holds, core_means, settles_without, both_of_it, held_as}
use Rattle.tmem_world.proofs.SettledPoints.{settles}
use Rattle.tmem_world.proofs.world.World.settle.Goals.{in_default-via-in-Some+in-Without-1, in_default-via-in-None-1}
use Rattle.tmem_world.proofs.world.World.settle.Goals as goal

pub invariant_of-self-clause-fit : goal.invariant_of-self-clause-fit
invariant_of-self-clause-fit g c =
    let w = c.args.self.now in
    let Fits = FitsAttempt w.layout.vars (g.S.StoredSteps.arities w.steps) (g.S.StoredSteps.is_stated w.steps) (names_of w.signatures.items) (λ tests. AreMeant tests w.signatures.items) in
    All-set Fits w.attempts.items c.args.attempt c.settle_attempt.new.held (settles_fit _ _ _ _ _ _ _ _ _ _ c.settle_attempt.ensures.settled (slot_fits w c.args.attempt c.index_mut.result.now c.requires c.index_mut.ensures.value)) w.fit

pub invariant_of-self-clause-meant : goal.invariant_of-self-clause-meant
invariant_of-self-clause-meant g c = λ tests is.
    let w = c.args.self.now in
    let o = c.in-Some-With.both in
    let before : held_of w ≡ With o = held_is w.held w.here (With o) (c.in-Some-With.is ∙ ap Some c.in-Some-With.field-0-is) in
    w.meant tests (subst (λ table. g.T.Invariants.is_stated table tests) (c.settle_attempt.ensures.table ∙ sym (ap (λ h. table_in h) before)) is)

pub returns-in_default : goal.returns-in_default
returns-in_default g c =
    let w = c.args.self.now in
    let new = c.in_default.self in
    elim c.in_default.branch [
      | in_default-via-in-Some+in-Without-1 v ↦
          let same : new.held ≡ w.held = search rules in
          settles_without w new c.args.attempt (λ it. let o = both_of_it (held_of w) it in let there : w.held ≡ Some (With o.0) = held_as w.held w.here (With o.0) o.1 in cc) (ap (λ x. x.layout) v.self-is) (ap (λ x. x.steps) v.self-is) same (ap (λ x. x.attempts.items) v.self-is) (g.met.D.Disk.is_device (world_disk w))
      | in_default-via-in-None-1 v ↦ absurd (search rules)
    ]

pub returns-in-Some-With : goal.returns-in-Some-With
returns-in-Some-With g c =
    let w = c.args.self.now in
    let o = c.in-Some-With.both in
    let before : held_of w ≡ With o = held_is w.held w.here (With o) (c.in-Some-With.is ∙ ap Some c.in-Some-With.field-0-is) in
    let below = slot_there w c.args.attempt c.requires in
    let so = c.settle_attempt.ensures in
    let same = ap (λ j. journal.disk_of j) so.journal ∙ sym (ap (λ h. held_disk h) before) in
    still_answered w _ _ _ refl refl (so.table ∙ sym (ap (λ h. table_in h) before)) same (g.met.D.Disk.is_device (world_disk w))
    (λ program means m r keeps.
    let holds = attempt_holds program _ m c.args.attempt c.index_mut.result.now r below c.index_mut.ensures.value in
    let done = settles program w _ m c.args.attempt o c.settle_attempt.new.self (core_means program w o before means) so.journal r before refl _ c.settle_attempt.new.held (attempt_at m c.args.attempt) c.settle_attempt.result c.index_mut.ensures.value refl holds so.settled in
    (done.0, with_core program (held_of w) m _ _ _ r.held (is_with (held_of w) o before) done.1, done.2)) tt so.failures tt

pub settle_attempt-requires : goal.settle_attempt-requires
settle_attempt-requires g c =
    let w = c.args.self.now in
    let o = c.in-Some-With.both in
    let before : held_of w ≡ With o = held_is w.held w.here (With o) (c.in-Some-With.is ∙ ap Some c.in-Some-With.field-0-is) in
    let x = c.index_mut.result.now in
    ended_fits _ _ _ _ _ x (fits_table w o before x (slot_fits w c.args.attempt x c.requires c.index_mut.ensures.value))

pub index_mut-requires : goal.index_mut-requires
index_mut-requires g c = slot_within c.args.self.now c.args.attempt c.requires

pub invariant_of-self-clause-within : goal.invariant_of-self-clause-within
invariant_of-self-clause-within g c = c.args.self.now.within

pub invariant_of-self-clause-sized : goal.invariant_of-self-clause-sized
invariant_of-self-clause-sized g c =
    let w = c.args.self.now in
    length-set w.attempts.items c.args.attempt c.settle_attempt.new.held ∙ w.sized
