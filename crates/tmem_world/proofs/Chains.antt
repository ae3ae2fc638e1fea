-- How a world that carries a history goes on, and how a store is opened.
use Rattle.std.proofs.Common.{◌≡◌, ◌≢◌, ⊎_elim, inl, inr, ℕ, ◌≤◌, ◌^◌, List, [], ◌∷◌, refl, sym, ◌∙◌, ap, subst, arith}
use Rattle.std.proofs.Math.Logic.{∥∥₁_elim, ∥∥₁_map}
use Rattle.std.proofs.Props.{props}
use Rattle.std.specs.Prelude.{Result, Ok, Err}
use Rattle.tmem_disk.specs.Disk.{DeviceView, LeavesOnly, AtEachMoment}
use Rattle.tmem_fault.specs.declared.fault.Fault.{Fault}
use Rattle.tmem_fault.specs.declared.fault.Fault.TheVariants as fault
use Rattle.tmem_effect.specs.State.{State, first_state}
use Rattle.tmem_record.specs.Layout.{IsLayout}
use Rattle.tmem_record.specs.declared.layout.Layout.{Layout}
use Rattle.tmem_invariants.specs.Meanings.{IsSound}
use Rattle.tmem_core.specs.Program.{Program}
use Rattle.tmem_gate.specs.Calls.{Uses}
use Rattle.tmem_journal.specs.Calls.{FitsOn}
use Rattle.tmem_journal.specs.Held as journal
use Rattle.tmem_journal.specs.declared.journal.Journal as owner
use Rattle.tmem_journal.specs.Journals.{IsOpeningFailure}
use Rattle.tmem_journal.specs.Laws.{RepresentsOne, RefusedRepresentsNone}
use Rattle.tmem_journal.specs.Mended.{RecoveredBy, IsFoundAt}
use Rattle.tmem_journal.specs.Refusals.{IsRefusedBy}
use Rattle.tmem_journal.specs.Contents.{Position, ContentRepresents}
use Rattle.tmem_opening.specs.Opening.{Mending}
use Rattle.tmem_event.specs.declared.event.Event.{Event}
use Rattle.tmem_event.specs.declared.event.Event.TheVariants as event
use Rattle.tmem_event.specs.declared.event.Reply.{Reply}
use Rattle.tmem_event.specs.declared.event.Reply.TheVariants as reply
use Rattle.tmem_world.specs.declared.held.Held.{Held}
use Rattle.tmem_world.specs.declared.held.Held.TheVariants.{With, Without}
use Rattle.tmem_world.specs.declared.world.World.{World}
use Rattle.tmem_world.specs.AnyDevice.{Reopens}
use Rattle.tmem_world.specs.WorldModel.{WorldModel, Open, Gone, opening, present}
use Rattle.tmem_world.specs.EachPlayed.{IsAnswered}
use Rattle.tmem_world.specs.Represents.{Represents, Means, HeldIs, KeepsSetting, IsStep, EachMoment, RepresentsCut, setting_of, held_of, world_view}
use Rattle.tmem_world.specs.Chain.{ChainHistory, IsSafePrefix, IsSafe, IsStore, GoesOn, Carries, no_history, state_at, history_after, history_found, OpensStore, FindsIn, StepsOn}
use Rattle.tmem_world.proofs.Laws.{means_stay, rests_on, runs_on-one, grows, count_at}
use Rattle.tmem_world.proofs.Prefixes.{safe-prop, goes_on_from, mended_safe, point_safe, carries}
use Rattle.tmem_world.proofs.Histories.{moves, goes_on_next}

-- a core and a journal are at one position, with one present state
same_place : {D T : Type 0} {d t : _} (program : Program) (h : Held D T d t) (m x : WorldModel) → HeldIs program h m → HeldIs program h x → x.status ≡ Open → (x.position ≡ m.position) × (present program x ≡ present program m)
same_place program (With o) m x at now is = (sym now.position ∙ at.position, sym now.state ∙ at.state)
same_place program (Without left) m x at now is = absurd (not_open (sym now ∙ is))
  where
    not_open : Gone ≡ Open → ⊥
    not_open e = cc

module _ {D T S : Type 0} {d t s : _} (w w' : World D T S d t s) (kept : KeepsSetting w w') (program : Program) (m : WorldModel) (at : Represents program w' m) (means : Means w' program) (keeps : (world_view w').keeps_model) where
  -- what a Reopen found is at the position of what a read gave
  finds_in : (e : Event) (r : Reply) → Reopens w e r w' → FindsIn (setting_of w program) (world_view w).seen e r m
  finds_in event.Reopen (reply.Opened n) it =
      let same = same_place program (held_of w') m (opening it.0 it.1 (world_view w).failures) at.held (it.3 program means).held refl in
      subst (λ (p : Position). IsFoundAt w.layout.vars w.layout.slots (world_view w).seen (present program m) p) same.0
      (subst (λ (x : State). IsFoundAt w.layout.vars w.layout.slots (world_view w).seen x it.1) same.1
      (subst (λ (l : Layout). IsFoundAt l.vars l.slots (world_view w).seen it.0 it.1) kept.numbers (it.4 keeps).was))
  finds_in event.Reopen _ it = tt
  finds_in _ r it = tt

module _ {D T S : Type 0} {d t s : _} (w w' : World D T S d t s) (e : Event) (r : Reply) (kept : KeepsSetting w w') where
  -- by what an event is answered, and what a crash leaves in it
  steps_on : IsStep w e r w' → Reopens w e r w' → EachMoment w w' → StepsOn w e r w'
  steps_on step again during = λ program stated h m has keeps.
      let now = step program stated m has.point (rests_on _ e keeps) in
      let m' = now.0 in
      let h' = history_after m e r m' h in
      let vars = w.layout.vars in
      let slots = w.layout.slots in
      let goes = goes_on_next program m e r m' (moves (setting_of w program) m has.point.numbers e r m' now.1) vars h has.history in (
        m',
        now.1,
        carries w' program h' m' now.2 (subst (λ (l : Layout). GoesOn program l.vars h' m') (sym kept.numbers) goes),
        record {
          each = λ k c left. ∥∥₁_map ((during program m m' has.point now.2).each k c left) (⊎_elim
              (λ (it : RepresentsCut program vars slots m c). inl (point_safe program vars h m has.history has.point.numbers slots c it))
              (λ (it : RepresentsCut program vars slots m' c). inr (point_safe program vars h' m' goes now.2.numbers slots c it)));
        },
        grows (setting_of w program) m h (e ∷ []) (r ∷ []) m' h' (runs_on-one (setting_of w program) m h e r m' now.1),
        finds_in w w' kept program m' now.2 (means_stay w w' program kept stated) keeps e r again,
      )

-- so the history goes on by an event that was answered so
pub answered_on : {D T S : Type 0} {d t s : _} (w w' : World D T S d t s) (e e' : Event) (r : Reply) → e ≡ e' → IsAnswered w e' r w' → StepsOn w e r w'
answered_on w w' e e' r is it = subst (λ (x : Event). StepsOn w x r w') (sym is) (steps_on w w' e' r it.kept it.step it.reopened it.any_moment)

-- A store is opened.
module _ (one : RepresentsOne) (program : Program) (vars slots : ℕ) (layout : IsLayout vars slots) (h : ChainHistory) (old : DeviceView) (store : IsStore program vars slots h old) (safe : IsSafe program vars slots h old.seen) where
  small : vars ≤ 2 ^ 16
  small = omega (arith, layout.vars_fit)

  -- a state that a read's content represents is that after a safe prefix, as long as its count
  pub state_is : (p : Position) (s : State) → ContentRepresents vars slots p s old.seen → IsSafePrefix program vars h s.count × (s ≡ state_at program vars h s.count)
  state_is p s stands = ∥∥₁_elim safe (hlevel (props, safe-prop program vars h))
      (λ (x : (n : ℕ) × IsSafePrefix program vars h n × ((q : Position) × ContentRepresents vars slots q (state_at program vars h n) old.seen)).
      let same : s ≡ state_at program vars h x.0 = (one vars slots p x.2.0 s (state_at program vars h x.0) old.seen small stands x.2.1).1 in
      let counted : x.0 ≡ s.count = sym (ap (λ (y : State). y.count) same ∙ count_at program vars h x.0 x.1) in
      (subst (IsSafePrefix program vars h) counted x.1, subst (λ (n : ℕ). s ≡ state_at program vars h n) counted same))

  -- so it is sound
  pub sound_is : (p : Position) (s : State) → ContentRepresents vars slots p s old.seen → IsSound program.tests program.names s.names s.values
  sound_is p s stands =
      let is = state_is p s stands in
      subst (λ (x : State). IsSound program.tests program.names x.names x.values) (sym is.1) is.0.sound

  -- and the content is not refused, unless no image can follow
  pub not_refused : RefusedRepresentsNone → (f : Fault) → f ≢ fault.Spent → IsRefusedBy vars slots old.seen f → ⊥
  not_refused none f other refused = ∥∥₁_elim safe (hlevel props)
      (λ (x : (n : ℕ) × IsSafePrefix program vars h n × ((p : Position) × ContentRepresents vars slots p (state_at program vars h n) old.seen)).
      none vars slots x.2.0 (state_at program vars h x.0) old.seen f other layout refused x.2.1)

-- a device that was handed back is still a store
pub store_back : (program : Program) (vars slots : ℕ) (h : ChainHistory) (old new : DeviceView) → IsStore program vars slots h old → new.capacity ≡ old.capacity → (new.keeps_model → old.keeps_model) → LeavesOnly new (RecoveredBy vars slots old) → IsStore program vars slots h new
store_back program vars slots h old new store capacity model crash = record {
  fits = subst (FitsOn vars slots) (sym capacity) store.fits;
  device = record { each = λ k c left. mended_safe program vars h slots old store (model k) c (crash.each k c left) };
}

-- at each moment of the opening a crash leaves a safe content
pub opening_moments : (program : Program) (vars slots : ℕ) (h : ChainHistory) (old new : DeviceView) → IsStore program vars slots h old → (new.keeps_model → old.keeps_model) → AtEachMoment old new (RecoveredBy vars slots old) → AtEachMoment old new (IsSafe program vars slots h)
opening_moments program vars slots h old new store model during = record { each = λ k c left. mended_safe program vars h slots old store (model k) c (during.each k c left) }

module _ {D T S : Type 0} {d t s : _} (result : Result (World D T S d t s) (Fault × D)) (f : Fault) (back : D) (is : result ≡ Err (f, back)) (program : Program) (vars slots : ℕ) (h : ChainHistory) (old : DeviceView) (store : IsStore program vars slots h old) where
  -- an opening was refused, and the device handed back
  pub refused_back : IsOpeningFailure f → (f ≡ fault.Spent → IsRefusedBy vars slots old.seen fault.Spent) → (d.view back).capacity ≡ old.capacity → ((d.view back).keeps_model → old.keeps_model) → Mending vars slots old (d.view back) → OpensStore program vars slots h old result
  refused_back which spent capacity model mends = subst (OpensStore program vars slots h old) (sym is) (record {
    any_moment = opening_moments program vars slots h old (d.view back) store model mends.recovers.any_moment;
    found = (which, spent, store_back program vars slots h old (d.view back) store capacity model mends.crash);
  })

  -- so it is for want of memory, where a journal was opened on it
  pub given_back : (j : owner.Journal D d) → back ≡ journal.disk_of j → f ≡ fault.Memory → Uses {T = Unit {0}} old (journal.journal_device j) (Ok tt) → Mending vars slots old (journal.journal_device j) → OpensStore program vars slots h old result
  given_back j same memory uses mends =
      refused_back (inl memory) (λ is. cc) (ap (λ (x : D). (d.view x).capacity) same ∙ uses.capacity) (λ k. uses.model (subst (λ (x : D). (d.view x).keeps_model) same k)) (subst (λ (x : D). Mending vars slots old (d.view x)) (sym same) mends)

module _ {D T S : Type 0} {d t s : _} (w : World D T S d t s) (program : Program) (h : ChainHistory) (vars : ℕ) (same : w.layout.vars ≡ vars) where
  -- a world that begins at a state after a safe prefix carries the history that was found
  pub begins : (x : State) (position : Position) (failures : ℕ) → IsSafePrefix program vars h x.count → x ≡ state_at program vars h x.count → Represents program w (opening x position failures) → Carries program w (history_found x.count h) (opening (state_at program vars h x.count) position failures)
  begins x position failures safe is point =
      let n = x.count in
      carries w program (history_found n h) (opening (state_at program vars h n) position failures)
      (subst (λ (y : State). Represents program w (opening y position failures)) is point)
      (subst (λ (v : ℕ). GoesOn program v (history_found n h) (opening (state_at program vars h n) position failures)) (sym same) (goes_on_from program vars h n position failures safe))

-- a content that represents the state of a new store is safe where nothing was committed
pub fresh_safe : (program : Program) (vars slots : ℕ) (p : Position) (c : List ℕ) → ContentRepresents vars slots p (first_state vars) c → IsSafe program vars slots no_history c
fresh_safe program vars slots p c stands = ∣ (
  0,
  record {
    cut = ∣ inl refl ∣₁;
    acknowledged = omega arith;
    committed = omega arith;
    each = tt;
    sound = record { there = λ i name below. absurd (omega (arith, below)); hold = λ i name below. absurd (omega (arith, below)) };
  },
  (p, stands),
) ∣₁
