-- The point of a run after the device was opened again.
use Rattle.std.proofs.Common.{◌≡◌, ◌⊎◌, inl, inr, ⊎_elim, ℕ, ◌+◌, ◌-◌, ◌≤◌, ◌^◌, Bool, true, false, List, length, take, refl, sym, ◌∙◌, ap, subst, arith}
use Rattle.std.specs.Prelude.{All, Result, Ok, Err, None}
use Rattle.std.proofs.Math.Logic.{∥∥₁_elim}
use Rattle.std.proofs.Props.{props}
use Rattle.std.proofs.lemmas.Bool.{cases_eq}
use Rattle.std.proofs.lemmas.List.{length-take-le, take-take}
use Rattle.tmem_disk.specs.Disk.{DeviceView, IsDevice, LeavesOnly}
use Rattle.tmem_fault.specs.declared.fault.Fault.{Fault}
use Rattle.tmem_fault.specs.declared.fault.Fault.TheVariants as fault
use Rattle.tmem_event.specs.declared.event.Event.TheVariants as event
use Rattle.tmem_event.specs.declared.event.Reply.TheVariants as reply
use Rattle.tmem_world.specs.declared.attempt.WorldAttempt.{WorldAttempt}
use Rattle.tmem_world.specs.declared.core_and_journal.CoreAndJournal as core
use Rattle.tmem_world.specs.declared.held.Held.{Held}
use Rattle.tmem_world.specs.declared.held.Held.TheVariants.{With, Without}
use Rattle.tmem_world.specs.declared.world.World.{World}
use Rattle.tmem_effect.specs.State.{State}
use Rattle.tmem_invariants.specs.Meanings.{IsSound}
use Rattle.tmem_core.specs.Program.{Program, IsProgramOf}
use Rattle.tmem_core.specs.Held.{core_state, is_shut_of}
use Rattle.tmem_core.specs.declared.core_state.Core.{Core}
use Rattle.tmem_core.specs.Verdict.{serial_state}
use Rattle.tmem_gate.specs.Calls.{failures_after}
use Rattle.tmem_journal.specs.Journals.{IsOpeningFailure}
use Rattle.tmem_journal.specs.Mended.{IsFoundAt}
use Rattle.tmem_journal.specs.Contents.{Position, ContentRepresents, IsCurrent, migrated}
use Rattle.tmem_journal.specs.Laws.{RepresentsOne, SpentIsAtLast}
use Rattle.tmem_journal.specs.Held as journal
use Rattle.tmem_journal.specs.declared.journal.Journal as owner
use Rattle.tmem_opening.specs.Held.{found_of, opening_position, opening_device}
use Rattle.tmem_opening.specs.Opening.{FindsState, Mending, OpeningRefused, IsOpened, FoundIs, OpensAtEither, RecoversEither}
use Rattle.tmem_opening.proofs.Laws.{spent_content}
use Rattle.tmem_opening.specs.declared.opening.Opening.{Opening}
use Rattle.tmem_record.specs.declared.layout.Layout.{Layout}
use Rattle.tmem_world.specs.Parts.{held_disk, layout_in, table_in, IsWith}
use Rattle.tmem_world.specs.AnyDevice.{dropped_by}
use Rattle.tmem_world.specs.EachPlayed.{IsAnswered}
use Rattle.tmem_world.specs.WorldModel.{Setting, WorldModel, CoreStatus, no_transactions, Open, cut, AllowsReopen, KeepsPosition}
use Rattle.tmem_world.specs.Represents.{Represents, Means, KeepsSetting, HeldIs, held_of, held_table, world_disk, world_view, core_status, setting_of}
use Rattle.tmem_world.proofs.DroppedPoints.{no_attempts_held, gone}
use Rattle.tmem_world.proofs.Mending.{current_after, current_not_spent, world_current}
use Rattle.tmem_world.proofs.Points.{in_point, mending_moments}
use Rattle.tmem_world.proofs.OpenedPoints.{begun, opens}
use Rattle.tmem_world.proofs.Prefixes.{fits_in}
use Rattle.tmem_world.proofs.Serial.{committed-take, count-cut, none_waits}

-- the point of the run where n transactions were found, at that position
abbrev found_at : WorldModel → ℕ → Position → WorldModel
found_at m n position = record m { committed = take (n - m.opened.count) m.committed; durable = n; doubtful = n; position = position; attempts = no_transactions; status = Open }

-- opening was refused by want of memory, or since a call of the device failed
failed : (set : Setting) (m : WorldModel) (f : Fault) → (f ≡ fault.Spent → ⊥) → IsOpeningFailure f → AllowsReopen set m (reply.Fault f) (dropped_by f m)
failed set m f never which = ⊎_elim (same fault.Memory refl) (⊎_elim (same fault.Device refl) (λ is. absurd (never is))) which
  where
    same : (g : Fault) → AllowsReopen set m (reply.Fault g) (dropped_by g m) → f ≡ g → AllowsReopen set m (reply.Fault f) (dropped_by f m)
    same g so is = subst (λ (x : Fault). AllowsReopen set m (reply.Fault x) (dropped_by x m)) (sym is) so

module _ {D T S : Type 0} {d t z : _} (program : Program) (w w' : World D T S d t z) (m : WorldModel) (r : Represents program w m) (layout : w'.layout ≡ w.layout)
    (emptied : All (λ (s : WorldAttempt). s.plan ≡ None) w'.attempts.items) (sized : length w'.attempts.items ≡ 16) where
  durable_within : m.durable ≤ m.opened.count + length m.committed
  durable_within = omega (arith, r.numbers.durable, r.numbers.doubtful)

  doubtful_from : m.opened.count ≤ m.doubtful
  doubtful_from = omega (arith, r.numbers.opened, r.numbers.durable)

  module _ (s : State) (either : ∥ (s ≡ cut program m m.durable) ⊎ (s ≡ cut program m m.doubtful) ∥₁) where
    -- it is the one of the two that its count says
    by_durable : s.count ≡ m.durable → s ≡ cut program m m.durable
    by_durable same = ∥∥₁_elim either (hlevel props) (⊎_elim
        (λ one. one)
        (λ other.
        let less : m.doubtful ≡ m.durable = omega (arith, same, ap (λ (x : State). x.count) other, count-cut program m.opened m.committed m.doubtful r.numbers.each doubtful_from r.numbers.doubtful) in
        other ∙ ap (cut program m) less))

    by_doubtful : (s.count ≡ m.durable → ⊥) → s ≡ cut program m m.doubtful
    by_doubtful differ = ∥∥₁_elim either (hlevel props) (⊎_elim
        (λ (one : s ≡ cut program m m.durable). absurd (differ (ap (λ (x : State). x.count) one ∙ count-cut program m.opened m.committed m.durable r.numbers.each r.numbers.opened durable_within)))
        (λ other. other))

  module _ (x : Opening D T d t) (o : core.CoreAndJournal D T d t) (some : held_of w' ≡ With o) (same : o.core ≡ x.core) (kept : o.journal ≡ x.journal) (failures : (opening_device x).failures ≡ (world_view w).failures)
      (content : List ℕ) (read : ContentRepresents w.layout.vars w.layout.slots (opening_position x) (found_of x) content) where
    found_as : KeepsPosition m.status m.position (opening_position x) → (n : ℕ) → (n ≡ m.durable) ⊎ (n ≡ m.doubtful) → m.opened.count ≤ n → n ≤ m.opened.count + length m.committed → found_of x ≡ cut program m n → (m' : WorldModel) × AllowsReopen (setting_of w program) m (reply.Opened (found_of x).count) m' × Represents program w' m'
    found_as still n which low high is =
        let k = n - m.opened.count in
        let le : k ≤ length m.committed = omega (arith, high) in
        let counted : (found_of x).count ≡ n = ap (λ (s : State). s.count) is ∙ count-cut program m.opened m.committed n r.numbers.each low high in
        let m' = found_at m n (opening_position x) in
        let here : found_of x ≡ cut program m' n = is ∙ ap (serial_state program m.opened) (sym (take-take k k m.committed (omega arith))) in
        let sound_cut : (i : ℕ) → m.opened.count ≤ i → i ≤ m.opened.count + length (take k m.committed) → IsSound program.tests program.names (cut program m' i).names (cut program m' i).values =
        λ i from to. subst (λ (s : State). IsSound program.tests program.names s.names s.values) (ap (serial_state program m.opened) (sym (take-take (i - m.opened.count) k m.committed (omega (arith, to, length-take-le k m.committed le)))))
        (r.numbers.sound i from (omega (arith, to, le, length-take-le k m.committed le))) in
        let point : Represents program w' m' = in_point program w' m' o some (begun program x o same kept m' is counted (sym (none_waits program k m.opened m.committed r.numbers.each)) here refl refl refl)
        (record { opened = low; durable = omega arith; doubtful = omega (arith, length-take-le k m.committed le, low); each = committed-take program k m.opened m.committed r.numbers.each; sound = sound_cut })
        (no_attempts_held program w'.attempts.items sized emptied) (ap (λ (j : owner.Journal D d). (journal.journal_device j).failures) kept ∙ failures ∙ r.failures) in
        subst (λ (i : ℕ). (m' : WorldModel) × AllowsReopen (setting_of w program) m (reply.Opened i) m' × Represents program w' m') (sym counted) (
          m',
          (which, (opening_position x, still, refl, (content, subst (λ (s : State). ContentRepresents w.layout.vars w.layout.slots (opening_position x) s content) is read), refl)),
          point,
        )

    -- opening found a state of the run
    pub found : KeepsPosition m.status m.position (opening_position x) → ∥ (found_of x ≡ cut program m m.durable) ⊎ (found_of x ≡ cut program m m.doubtful) ∥₁ → (n : ℕ) → n ≡ (found_of x).count → (m' : WorldModel) × AllowsReopen (setting_of w program) m (reply.Opened n) m' × Represents program w' m'
    found still either n is =
        subst (λ (i : ℕ). (m' : WorldModel) × AllowsReopen (setting_of w program) m (reply.Opened i) m' × Represents program w' m') (sym is) (⊎_elim
        (λ (one : (found_of x).count ≡ m.durable).
        found_as still m.durable (inl refl) r.numbers.opened durable_within (by_durable (found_of x) either one))
        (λ differ.
        found_as still m.doubtful (inr refl) doubtful_from r.numbers.doubtful (by_doubtful (found_of x) either differ))
        (cases_eq (found_of x).count m.durable))

-- an open journal's content represents its journal's state, at its position
open_at : {D T : Type 0} {d t : _} (vars slots : ℕ) (o : core.CoreAndJournal D T d t) → is_shut_of o.core ≡ false → IsDevice (journal.journal_device o.journal) → (journal.journal_device o.journal).keeps_model
    → (journal.journal_layout o.journal).vars ≡ vars → (journal.journal_layout o.journal).slots ≡ slots → ContentRepresents vars slots (journal.journal_position o.journal) (journal.journal_state o.journal) (journal.journal_device o.journal).seen
open_at vars slots o is device keeps over log =
    let running : journal.is_closed_of o.journal ≡ false = sym o.shut ∙ is in
    let sure = (o.journal.sure running).each keeps (journal.journal_device o.journal).seen (device.seen_may_stay keeps) in
    subst (λ (v : ℕ). ContentRepresents v slots (journal.journal_position o.journal) (journal.journal_state o.journal) (journal.journal_device o.journal).seen) over
    (subst (λ (n : ℕ). ContentRepresents (journal.journal_layout o.journal).vars n (journal.journal_position o.journal) (journal.journal_state o.journal) (journal.journal_device o.journal).seen) log sure)

-- The position that a read's content represents is the one that an open journal has.
module _ {D T : Type 0} {d t : _} (one : RepresentsOne) (program : Program) (m : WorldModel) (vars slots : ℕ) (small : vars ≤ 2 ^ 16) (p : Position) (s : State) where
  position_by : (shut : Bool) (o : core.CoreAndJournal D T d t) → is_shut_of o.core ≡ shut → IsDevice (journal.journal_device o.journal) → (journal.journal_device o.journal).keeps_model
      → (journal.journal_layout o.journal).vars ≡ vars → (journal.journal_layout o.journal).slots ≡ slots → IsFoundAt vars slots (journal.journal_device o.journal).seen s p
      → journal.journal_position o.journal ≡ m.position → KeepsPosition (core_status shut) m.position p
  position_by true o is device keeps over log found known = tt
  position_by false o is device keeps over log found known =
      found.goes_on ∙ ap migrated (one vars slots found.position (journal.journal_position o.journal) s (journal.journal_state o.journal) (journal.journal_device o.journal).seen small found.stands (open_at vars slots o is device keeps over log)).0 ∙ known

  pub position_kept : (h : Held D T d t) → HeldIs program h m → IsDevice (d.view (held_disk h)) → (d.view (held_disk h)).keeps_model → (layout_in h).vars ≡ vars → (layout_in h).slots ≡ slots
      → IsFoundAt vars slots (d.view (held_disk h)).seen s p → KeepsPosition m.status m.position p
  position_kept (With o) has device keeps over log stands =
      subst (λ (x : CoreStatus). KeepsPosition x m.position p) (sym has.status) (position_by (is_shut_of o.core) o refl device keeps over log stands has.position)
  position_kept (Without left) has device keeps over log stands = subst (λ (x : CoreStatus). KeepsPosition x m.position p) (sym has) tt

-- what is so of the device and the table that were taken out of a world is so of those that it held
pub taken : {D T S : Type 0} {d t z : _} (w : World D T S d t z) (h : Held D T d t) (disk : D) (table : T) → held_of w ≡ h → disk ≡ held_disk h → table ≡ table_in h → (P : D → T → Type 0) → P disk table → P (world_disk w) (held_table w)
taken {D} {T} {d = d} {t = t} w h disk table held is same P it =
    subst (λ (y : T). P (world_disk w) y) (same ∙ ap (λ (x : Held D T d t). table_in x) (sym held)) (subst (λ (y : D). P y table) (is ∙ ap (λ (x : Held D T d t). held_disk x) (sym held)) it)

-- a world has so few variables
few : {D T S : Type 0} {d t z : _} (w : World D T S d t z) → w.layout.vars ≤ 2 ^ 16
few w = omega (arith, w.layout.fits.vars_fit)

-- what an opening of a world again leaves is of version 2, also where it was refused
pub stays_current : {D T S : Type 0} {d t z : _} (w : World D T S d t z) (new : DeviceView) → RepresentsOne → IsDevice (world_view w) → (new.keeps_model → (world_view w).keeps_model) → Mending w.layout.vars w.layout.slots (world_view w) new
    → LeavesOnly new (IsCurrent w.layout.vars w.layout.slots)
stays_current w new one device model mends = current_after w.layout.vars w.layout.slots one (few w) (world_view w) new device model (world_current w) mends

-- A world was opened again.
module _ {D T S : Type 0} {d t z : _} (w w' : World D T S d t z) (kept : KeepsSetting w w') (emptied : All (λ (s : WorldAttempt). s.plan ≡ None) w'.attempts.items) (sized : length w'.attempts.items ≡ 16) where
  -- an opening finds the order cut at the durable number, or at the doubtful one, or fails
  finds_cut : (program : Program) (m : WorldModel) → Represents program w m → Means w program → (new : DeviceView) (answer : Result (Opening D T d t) Fault)
      → RecoversEither FoundIs (IsProgramOf t (held_table w)) w.layout.vars w.layout.slots (world_view w) new answer → new.keeps_model → OpensAtEither (FoundIs program) answer (cut program m m.durable) (cut program m m.doubtful)
  finds_cut program m r means new answer either keeps = either program (cut program m m.durable) (cut program m m.doubtful) means.invariants
      (r.numbers.sound m.durable r.numbers.opened (omega (arith, r.numbers.durable, r.numbers.doubtful))) (r.numbers.sound m.doubtful (omega (arith, r.numbers.opened, r.numbers.durable)) r.numbers.doubtful) (fits_in w) r.device keeps

  -- the opening was refused
  pub refused_answered : (f : Fault) → (IsWith (held_of w') → ⊥) → OpeningRefused (IsProgramOf t (held_table w)) w.layout.vars w.layout.slots (world_view w) f (world_view w')
      → RecoversEither {A = Opening D T d t} FoundIs (IsProgramOf t (held_table w)) w.layout.vars w.layout.slots (world_view w) (world_view w') (Err f)
      → SpentIsAtLast → IsDevice (world_view w) → IsAnswered w event.Reopen (reply.Fault f) w'
  refused_answered f none it recovers last device =
      let point : (program : Program) (m : WorldModel) → Represents program w m → Represents program w' (dropped_by f m) =
      λ program m r. gone program w w' m r kept.numbers emptied sized it.mends.crash it.uses.model none (failures_after f m.failures) (it.uses.failures ∙ ap (failures_after f) r.failures) in
      record {
        step = λ program means m r keeps. (
          dropped_by f m,
          failed (setting_of w program) m f
              (λ spent. current_not_spent w.layout.vars w.layout.slots last (few w) (world_view w) device (it.uses.model keeps) (world_current w) (spent_content it spent keeps (fits_in w)))
              (finds_cut program m r means (world_view w') (Err f) recovers keeps),
          point program m r,
        );
        reopened = record { refused = it; no_core = none; attempts = emptied; point = point };
        any_moment = mending_moments w w' kept.numbers it.uses.model it.mends.recovers.any_moment;
        elsewhere = it.mends.recovers.elsewhere;
        failures = it.uses.failures;
        failed_call = tt;
        still = λ none. absurd none;
        kept = kept;
      }

  -- a core was made
  pub found_answered : (x : Opening D T d t) → IsOpened w.layout.vars w.layout.slots (held_table w) (world_view w) x
      → RecoversEither FoundIs (IsProgramOf t (held_table w)) w.layout.vars w.layout.slots (world_view w) (opening_device x) (Ok x) → (o : core.CoreAndJournal D T d t) → held_of w' ≡ With o → o.core ≡ x.core → o.journal ≡ x.journal → (n : ℕ) → n ≡ (core_state o.core).count
      → RepresentsOne → IsDevice (world_view w) → IsAnswered w event.Reopen (reply.Opened n) w'
  found_answered x it either o some same begun n count one device =
      let now : world_view w' ≡ opening_device x = ap (λ (y : Held D T d t). d.view (held_disk y)) some ∙ ap (λ (y : owner.Journal D d). journal.journal_device y) begun in
      let model : (world_view w').keeps_model → (opening_device x).keeps_model = subst (λ (v : DeviceView). v.keeps_model → (opening_device x).keeps_model) (sym now) (λ k. k) in
      let mends = subst (Mending w.layout.vars w.layout.slots (world_view w)) (sym now) it.mends in
      let counted : n ≡ (found_of x).count = count ∙ ap (λ (c : Core T t). (core_state c).count) same in
      record {
        step = λ program means m r keeps. found program w w' m r kept.numbers emptied sized x o some same begun it.uses.failures (opening_device x).seen (it.found (model keeps)).stands
            (position_kept one program m w.layout.vars w.layout.slots (few w) (opening_position x) (found_of x) (held_of w) r.held device (it.uses.model (model keeps)) w.same_vars w.same_slots (it.found (model keeps)).was)
            (finds_cut program m r means (opening_device x) (Ok x) either (model keeps)) n counted;
        reopened = (
          found_of x,
          opening_position x,
          sym counted,
          λ program means. opens program x o same begun w' some sized emptied (world_view w).failures it.uses.failures (held_table w) it.sound (subst (λ (y : T). IsProgramOf t y program) kept.table means.invariants),
          λ k. subst (λ (l : Layout). FindsState l.vars l.slots (world_view w) (world_view w') (opening_position x) (found_of x)) (sym kept.numbers)
              (subst (λ (v : DeviceView). FindsState w.layout.vars w.layout.slots (world_view w) v (opening_position x) (found_of x)) (sym now) (it.found (model k))),
          λ none. (mends.gates none).reads_only,
        );
        any_moment = mending_moments w w' kept.numbers (λ k. it.uses.model (model k)) mends.recovers.any_moment;
        elsewhere = mends.recovers.elsewhere;
        failures = ap (λ (v : DeviceView). v.failures) now ∙ it.uses.failures;
        failed_call = tt;
        still = λ none. absurd none;
        kept = kept;
      }
