use Rattle.std.proofs.Common.{◌<◌, length, rules, refl, [], List, ℕ, sym, ◌∙◌, ap, subst, length-set, arith}
use Rattle.std.specs.Prelude.{Some, option_map}
use Rattle.std.proofs.lemmas.List.Elements.{All-set}
use Rattle.tmem_fault.specs.declared.fault.Fault.{Fault}
use Rattle.tmem_invariants.specs.Meanings.{Meanings}
use Rattle.tmem_tree.specs.declared.tx.Tx.{Tx}
use Rattle.tmem_tree.specs.Plans.{PlanView, BreaksNone, IsLeastBroken, FitsSteps, FitsNames}
use Rattle.tmem_tree.specs.Signatures.{AreMeant, AreWithin, names_of}
use Rattle.tmem_tentative.specs.Cursors.{IsAt}
use Rattle.tmem_world.specs.Attempts.{FitsAttempt}
use Rattle.tmem_world.specs.WorldModel.{holding, attempt_at, Begun, IsPlanFault}
use Rattle.tmem_event.specs.declared.event.Reply.TheVariants as reply
use Rattle.tmem_world.specs.Replies.{failures_by}
use Rattle.tmem_world.specs.Represents.{world_disk, held_of, setting_of}
use Rattle.tmem_world.proofs.Points.{attempts_answered, with_core, with_attempt, same_point, attempt_holds, same_attempt}
use Rattle.tmem_world.proofs.HeldAttempts.{begun_fits, held_again}
use Rattle.tmem_world.proofs.world.World.begin.Goals as goal

pub returns-in-Ok-begin : goal.returns-in-Ok-begin
returns-in-Ok-begin g c =
    let w = c.args.self.now in
    let new = c.begin.new.self in
    let so = c.in-Ok-begin.ensures in
    let is = c.in-Ok.ensures.plan in
    attempts_answered w _ _ _ refl refl refl (g.met.D.Disk.is_device (world_disk w))
    (λ program means m r keeps. (
      holding m c.args.attempt (Begun c.args.tx [] 0),
      with_core program (held_of w) m _ _ _ r.held (search rules) (subst (λ (ns : List (List ℕ)). BreaksNone (g.S.StoredSteps.arities w.steps) w.layout.vars ns c.args.tx) (ap names_of c.deref.ensures.value ∙ w.named ∙ sym means.invariants.names) c.in-Ok.ensures.fine, refl),
      with_attempt program w _ m c.args.attempt new (Begun c.args.tx [] 0) r
          (record { plan = ap (option_map (λ (p : PlanView). p.tree)) so.plan ∙ ap Some is; at = subst (λ (p : Tx). IsAt program.steps program.tests p new.cursor) is (so.at program.steps program.tests); given = so.given }, ap length so.answers, so.going) refl refl refl,
    )) tt (λ n. refl) tt

pub returns-in-Err-begin : goal.returns-in-Err-begin
returns-in-Err-begin g c =
    let w = c.args.self.now in
    let below : c.args.attempt < length w.attempts.items = omega (arith, w.sized) in
    let old = c.index_mut.result.now in
    let new = c.begin.new.self in
    let so = c.in-Err-begin.ensures in
    attempts_answered w _ _ _ refl refl refl (g.met.D.Disk.is_device (world_disk w))
    (λ program means m r keeps.
    let fine = subst (λ (ns : List (List ℕ)). BreaksNone (g.S.StoredSteps.arities w.steps) w.layout.vars ns c.args.tx) (ap names_of c.deref.ensures.value ∙ w.named ∙ sym means.invariants.names) c.in-Ok.ensures.fine in
    let may : IsPlanFault (setting_of w program) c.args.tx c.in-Err-begin.fault = subst (λ (f : Fault). IsPlanFault (setting_of w program) c.args.tx f) (sym so.same.0) fine in (
      holding m c.args.attempt (attempt_at m c.args.attempt),
      with_core program (held_of w) m _ _ _ r.held (search rules) (may, same_attempt m c.args.attempt),
      with_attempt program w _ m c.args.attempt new (attempt_at m c.args.attempt) r (held_again program (attempt_at m c.args.attempt) old new so.same.1 so.same.2 so.stays_at (attempt_holds program _ m c.args.attempt old r below c.index_mut.ensures.value)) refl refl refl,
    )) tt (λ n. ap (λ (f : Fault). failures_by (reply.Fault f) n) so.same.0) tt

pub returns-in-Err : goal.returns-in-Err
returns-in-Err g c =
    let w = c.args.self.now in
    let least = c.in-Err.ensures.least in
    attempts_answered w _ _ _ refl refl refl (g.met.D.Disk.is_device (world_disk w))
    (λ program means m r keeps.
    let so = subst (λ (ns : List (List ℕ)). IsLeastBroken (g.S.StoredSteps.arities w.steps) w.layout.vars ns c.args.tx least.0) (ap names_of c.deref.ensures.value ∙ w.named ∙ sym means.invariants.names) least.2 in
    (m, with_core program (held_of w) m _ _ _ r.held (search rules) (rw least.1 so, refl), same_point _ _ refl program m r refl refl)) tt (λ n. ap (λ (f : Fault). failures_by (reply.Fault f) n) least.1) tt

pub invariant_of-self-2 : goal.invariant_of-self-2
invariant_of-self-2 g c =
    let w = c.args.self.now in
    let arities = g.S.StoredSteps.arities w.steps in
    let stated = g.S.StoredSteps.is_stated w.steps in
    let known = names_of w.signatures.items in
    let tested : Meanings → Type 0 = λ tests. AreMeant tests w.signatures.items in
    let so = c.in-Ok.ensures in
    let is = so.plan in
    let now = c.begin.ensures in
    let named = subst (λ (ns : List (List ℕ)). FitsNames ns c.args.tx) (ap names_of c.deref.ensures.value) so.names in
    let signatures = λ (tests : Meanings) (asked : tested tests). so.signatures tests (subst (AreMeant tests) (sym c.deref.ensures.value) asked) in
    let variables = so.variables (subst (AreWithin w.layout.vars) (sym c.deref.ensures.value) w.within) in
    let held : FitsAttempt w.layout.vars arities stated known tested c.index_mut.result.now = subst (FitsAttempt w.layout.vars arities stated known tested) (sym c.index_mut.ensures.value) (w.fit c.args.attempt c.index_mut.result.now (omega (arith, w.sized))) in
    let fits = begun_fits w.layout.vars arities stated known tested c.in-Ok.plan c.index_mut.result.now c.begin.new.self c.begin.result variables (subst (FitsSteps arities) (sym is) so.steps) (subst (FitsNames known) (sym is) named) signatures now.plan now.stands now.going now.same now.stays held in
    record {
      sized = length-set w.attempts.items c.args.attempt c.begin.new.self ∙ w.sized;
      here = w.here;
      same_vars = w.same_vars;
      same_slots = w.same_slots;
      named = w.named;
      meant = w.meant;
      within = w.within;
      fit = All-set (FitsAttempt w.layout.vars arities stated known tested) w.attempts.items c.args.attempt c.begin.new.self fits w.fit;
    }
