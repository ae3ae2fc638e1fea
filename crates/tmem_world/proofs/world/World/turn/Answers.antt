use Rattle.std.proofs.Common.{◌≡◌, refl, ◌∙◌, ap, rules, length-set}
use Rattle.std.specs.Prelude.{Some}
use Rattle.std.proofs.lemmas.List.Elements.{All-set}
use Rattle.tmem_core.specs.Held.{core_state, core_table}
use Rattle.tmem_invariants.specs.Meanings.{Meanings}
use Rattle.tmem_tree.specs.Signatures.{AreMeant, names_of}
use Rattle.tmem_world.specs.declared.held.Held.TheVariants.{With}
use Rattle.tmem_world.specs.Attempts.{FitsAttempt}
use Rattle.tmem_world.specs.WorldModel.{holding, attempt_at}
use Rattle.tmem_world.specs.Represents.{world_disk, held_of}
use Rattle.tmem_world.proofs.Points.{attempts_answered, given, held_is, is_with, with_core, with_attempt, attempt_holds, both_at, core_means, turns_without, both_of_it, held_as}
use Rattle.tmem_world.proofs.HeldAttempts.{slot_there, slot_within, slot_fits, fits_after, fits_table}
use Rattle.tmem_world.proofs.TurnedPoints.{turns}
use Rattle.tmem_world.proofs.world.World.turn.Goals.{in_default-via-in-Some+in-Without-1, in_default-via-in-None-1}
use Rattle.tmem_world.proofs.world.World.turn.Goals as goal

pub turn-requires : goal.turn-requires
turn-requires g c =
    let w = c.args.self.now in
    let o = c.in-Some-With.both in
    let before : held_of w ≡ With o = held_is w.held w.here (With o) (search rules) in
    fits_table w o before c.index_mut.result.now (slot_fits w c.args.attempt c.index_mut.result.now c.requires c.index_mut.ensures.value)

pub invariant_of-self : goal.invariant_of-self
invariant_of-self g c =
    let w = c.args.self.now in
    let o = c.in-Some-With.both in
    let before : held_of w ≡ With o = held_is w.held w.here (With o) (search rules) in
    let known = names_of w.signatures.items in
    let tested : Meanings → Type 0 = λ tests. AreMeant tests w.signatures.items in
    let Fits = FitsAttempt w.layout.vars (g.S.StoredSteps.arities w.steps) (g.S.StoredSteps.is_stated w.steps) known tested in
    record {
      sized = length-set w.attempts.items c.args.attempt c.turn.new.self ∙ w.sized;
      here = w.here;
      same_vars = w.same_vars;
      same_slots = w.same_slots;
      named = w.named;
      meant = w.meant;
      within = w.within;
      fit = All-set Fits w.attempts.items c.args.attempt c.turn.new.self (fits_after w o before c.index_mut.result.now c.turn.new.self (slot_fits w c.args.attempt c.index_mut.result.now c.requires c.index_mut.ensures.value) (c.turn.ensures.fits w.signatures.items)) w.fit;
    }

pub returns-in-Some-With : goal.returns-in-Some-With
returns-in-Some-With g c =
    let w = c.args.self.now in
    let o = c.in-Some-With.both in
    given {A = held_of w ≡ With o} (held_is w.held w.here (With o) (search rules)) (λ before.
    let below = slot_there w c.args.attempt c.requires in
    let old = c.index_mut.result.now in
    let new = c.turn.new.self in
    let so = c.turn.ensures in
    attempts_answered w _ _ _ refl refl refl (g.met.D.Disk.is_device (world_disk w))
    (λ program means m r keeps.
    let holds = attempt_holds program _ m c.args.attempt old r below c.index_mut.ensures.value in
    let tests = (core_means program w o before means).tests in
    let done = turns program m c.args.attempt old new (core_state o.core) (both_at program w m o before r).state (g.S.StoredSteps.is_stated w.steps) means.steps (g.T.Invariants.is_stated (core_table o.core)) tests
    (attempt_at m c.args.attempt) c.turn.result refl holds so.idle so.ended so.begun (λ plan is. so.at plan program.steps program.tests is means.steps tests) so.plan in
    (holding m c.args.attempt done.0, with_core program (held_of w) m _ _ _ r.held (is_with (held_of w) o before) done.1, with_attempt program w _ m c.args.attempt new done.0 r done.2 refl refl refl)) tt so.failures tt)

pub returns-in_default : goal.returns-in_default
returns-in_default g c =
    let w = c.args.self.now in
    let new = c.in_default.self in
    elim c.in_default.branch [
      | in_default-via-in-Some+in-Without-1 v ↦
          let same : new.held ≡ w.held = search rules in
          turns_without w new c.args.attempt (λ it. let o = both_of_it (held_of w) it in let there : w.held ≡ Some (With o.0) = held_as w.held w.here (With o.0) o.1 in search rules) (ap (λ x. x.layout) v.self-is) (ap (λ x. x.steps) v.self-is) same (ap (λ x. x.attempts.items) v.self-is) (g.met.D.Disk.is_device (world_disk w))
      | in_default-via-in-None-1 v ↦ absurd (search rules)
    ]

pub index_mut-requires : goal.index_mut-requires
index_mut-requires g c = slot_within c.args.self.now c.args.attempt c.requires
