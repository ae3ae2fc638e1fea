-- How a world goes from one point of a run to the next.
use Rattle.std.proofs.Common.{◌≡◌, ◌⊎◌, ⊎_elim, inl, inr, ℕ, zero, suc, ◌+◌, ◌-◌, ◌<◌, ◌≤◌, Bool, true, false, List, [], ◌∷◌, length, drop, get_or, refl, sym, ◌∙◌, ap, subst, arith, Option, Some, None}
use Rattle.std.specs.Prelude.{slice_set, IsSome}
use Rattle.std.proofs.Math.Logic.{∥∥₁_map}
use Rattle.std.proofs.lemmas.List.{set-get_or}
use Rattle.std.specs.List.{AllZip}
use Rattle.tmem_disk.specs.Disk.{IsDevice, LeavesOnly, AtEachMoment}
use Rattle.tmem_core.specs.Program.{Program, IsProgramOf}
use Rattle.tmem_core.specs.Held.{core_state, waiting_of, is_shut_of, core_table}
use Rattle.tmem_core.specs.Verdict.{serial_effects}
use Rattle.tmem_fault.specs.declared.fault.Fault.TheVariants as fault
use Rattle.tmem_event.specs.declared.event.Event.{Event}
use Rattle.tmem_event.specs.declared.event.Event.TheVariants as event
use Rattle.tmem_event.specs.declared.event.Reply.{Reply}
use Rattle.tmem_event.specs.declared.event.Reply.TheVariants as reply
use Rattle.tmem_world.specs.declared.attempt.WorldAttempt.{WorldAttempt}
use Rattle.tmem_world.specs.declared.core_and_journal.CoreAndJournal as core
use Rattle.tmem_world.specs.declared.held.Held.{Held}
use Rattle.tmem_world.specs.declared.held.Held.TheVariants.{With, Without}
use Rattle.std.proofs.lemmas.Bool.{false≢true}
use Rattle.tmem_world.specs.Parts.{what, held_disk, layout_in, table_in, IsWith}
use Rattle.tmem_effect.specs.State.{State}
use Rattle.tmem_journal.specs.Held as journal
use Rattle.tmem_journal.specs.Journals as journals
use Rattle.tmem_journal.specs.Mended.{RecoveredBy}
use Rattle.tmem_journal.specs.Contents.{Position, ContentRepresentsEither}
use Rattle.tmem_journal.specs.declared.journal.Journal as owner
use Rattle.tmem_record.specs.declared.layout.Layout.{Layout}
use Rattle.tmem_world.specs.declared.world.World.{World}
use Rattle.tmem_world.specs.WorldModel.{WorldModel, AttemptModel, NoTransaction, CoreStatus, WithCore, cut, holding, attempt_at}
use Rattle.tmem_world.proofs.Mending.{mended_represents}
use Rattle.tmem_world.proofs.Serial.{count-cut}
use Rattle.tmem_world.specs.Represents.{AttemptIs, BothAre, HeldIs, IsNumbered, Represents, Means, IsStep, EachMoment, WritesInStore, RepresentsCut, core_status, held_of, held_table, world_disk, world_view}
use Rattle.tmem_world.specs.AnyDevice.{Reopens}
use Rattle.tmem_world.specs.EachPlayed.{IsAnswered}
use Rattle.tmem_world.specs.Replies.{failures_by, IsFailedCall}
use Rattle.tmem_world.proofs.Laws.{WritesInStore-refl}

pub AllZip-set : {A B : Type 0} (R : A → B → Type 0) (xs : List A) (ys : List B) (k : ℕ) (x : A) (y : B) → AllZip R xs ys → R x y → AllZip R (slice_set xs k x) (slice_set ys k y)
AllZip-set R [] [] k x y each here = tt
AllZip-set R [] (b ∷ ys) k x y each here = absurd each
AllZip-set R (a ∷ xs) [] k x y each here = absurd each
AllZip-set R (a ∷ xs) (b ∷ ys) zero x y each here = (here, each.1)
AllZip-set R (a ∷ xs) (b ∷ ys) (suc k) x y each here = (each.0, AllZip-set R xs ys k x y each.1 here)

-- what follows from a fact
pub given : {A B : Type 0} → A → (A → B) → B
given a from = from a

-- what is there, where it is known
pub held_is : {A : Type 0} (o : Option A) (here : IsSome o) (x : A) → o ≡ Some x → what o here ≡ x
held_is (Some y) here x is = cc
held_is None here x is = cc

-- and the other way round
pub held_as : {A : Type 0} (o : Option A) (here : IsSome o) (x : A) → what o here ≡ x → o ≡ Some x
held_as (Some y) here x is = ap Some is
held_as None here x is = absurd (false≢true here)

-- what is there does not depend on how that is known
pub what_is_there : {A : Type 0} (o : Option A) (here here' : IsSome o) → what o here' ≡ what o here
what_is_there (Some x) here here' = refl
what_is_there None here here' = absurd (false≢true here)

-- the same is there
pub same_what : {A : Type 0} (o o' : Option A) (here : IsSome o) (here' : IsSome o') → o' ≡ o → what o' here' ≡ what o here
same_what {A = A} o o' here here' is = subst (λ (x : Option A). (h : IsSome x) → what o' here' ≡ what x h) is (λ h. what_is_there o' h here') here

-- where there is a core, an event is answered as is allowed
pub with_core : {D T : Type 0} {d t : _} (program : Program) (h : Held D T d t) (m : WorldModel) (r : Reply) (m' : WorldModel) (allowed : Type 0) → HeldIs program h m → IsWith h → allowed → WithCore m.status m r m' allowed
with_core program (Without left) m r m' allowed has some it = absurd some
with_core program (With o) m r m' allowed has some it = by_state (is_shut_of o.core) has.status
  where
    by_state : (b : Bool) → m.status ≡ core_status b → WithCore m.status m r m' allowed
    by_state true is = subst (λ (z : CoreStatus). WithCore z m r m' allowed) (sym is) it
    by_state false is = subst (λ (z : CoreStatus). WithCore z m r m' allowed) (sym is) it

-- where there is none, it is refused
no_core : {D T : Type 0} {d t : _} (program : Program) (h : Held D T d t) (m : WorldModel) (allowed : Type 0) → (IsWith h → ⊥) → HeldIs program h m → WithCore m.status m (reply.Fault fault.Closed) m allowed
no_core program (With o) m allowed none has = absurd (none tt)
no_core program (Without left) m allowed none is = subst (λ (z : CoreStatus). WithCore z m (reply.Fault fault.Closed) m allowed) (sym is) (refl, refl)

-- a core and a journal that are there
pub both_of_it : {D T : Type 0} {d t : _} (h : Held D T d t) → IsWith h → (o : core.CoreAndJournal D T d t) × (h ≡ With o)
both_of_it (With o) it = (o, refl)
both_of_it (Without left) it = absurd it

-- what is `With` a core has one
pub is_with : {D T : Type 0} {d t : _} (h : Held D T d t) (o : core.CoreAndJournal D T d t) → h ≡ With o → IsWith h
is_with (With other) o is = tt
is_with (Without left) o is = cc

module _ {D T S : Type 0} {d t s : _} (program : Program) (w : World D T S d t s) (m : WorldModel) (o : core.CoreAndJournal D T d t) (here : held_of w ≡ With o) (is : BothAre program o m) where
  -- what the journal allows is the serial order cut where it may be
  pub may_be : (c : List ℕ) → journal.MayBe o.journal c → RepresentsCut program w.layout.vars w.layout.slots m c
  may_be c it =
      let vars : (journal.journal_layout o.journal).vars ≡ w.layout.vars = sym (ap (λ (h : Held D T d t). (layout_in h).vars) here) ∙ w.same_vars in
      let slots : (journal.journal_layout o.journal).slots ≡ w.layout.slots = sym (ap (λ (h : Held D T d t). (layout_in h).slots) here) ∙ w.same_slots in
      subst (λ (v : ℕ). ContentRepresentsEither v w.layout.slots (cut program m m.durable) (cut program m m.doubtful) c) vars
      (subst (λ (n : ℕ). ContentRepresentsEither (journal.journal_layout o.journal).vars n (cut program m m.durable) (cut program m m.doubtful) c) slots
      (subst (λ (x : State). ContentRepresentsEither (journal.journal_layout o.journal).vars (journal.journal_layout o.journal).slots x (cut program m m.doubtful) c) is.durable
      (subst (λ (x : State). ContentRepresentsEither (journal.journal_layout o.journal).vars (journal.journal_layout o.journal).slots (journal.journal_state o.journal) x c) is.doubtful it)))

  -- so every crash leaves that
  pub stands_in : LeavesOnly (world_view w) (RepresentsCut program w.layout.vars w.layout.slots m)
  stands_in = subst (λ (h : Held D T d t). LeavesOnly (d.view (held_disk h)) (RepresentsCut program w.layout.vars w.layout.slots m)) (sym here) (record { each = λ keeps c left. may_be c (o.journal.stands.each keeps c left) })

  -- a world with these two is at the point
  pub in_point : IsNumbered program m → AllZip (AttemptIs program) w.attempts.items m.attempts → (journal.journal_device o.journal).failures ≡ m.failures → Represents program w m
  in_point numbers attempts failures = record {
    numbers = numbers;
    attempts = attempts;
    held = subst (λ (h : Held D T d t). HeldIs program h m) (sym here) is;
    failures = ap (λ (h : Held D T d t). (d.view (held_disk h)).failures) here ∙ failures;
    device = stands_in;
  }

module _ {D T S : Type 0} {d t s : _} (program : Program) (w : World D T S d t s) (m : WorldModel) (o : core.CoreAndJournal D T d t) (here : held_of w ≡ With o) (r : Represents program w m) where
  -- the core and the journal of a point
  pub both_at : BothAre program o m
  both_at = subst (λ (h : Held D T d t). HeldIs program h m) here r.held

  pub failures_at : (journal.journal_device o.journal).failures ≡ m.failures
  failures_at = sym (ap (λ (h : Held D T d t). (d.view (held_disk h)).failures) here) ∙ r.failures

-- What a call of the journal leaves, which commits nothing.
module _ {D T S : Type 0} {d t s : _} (program : Program) (w w' : World D T S d t s) (m : WorldModel) (o o' : core.CoreAndJournal D T d t) (r : Represents program w m)
    (before : held_of w ≡ With o) (after : held_of w' ≡ With o') (attempts : w'.attempts.items ≡ w.attempts.items) (state : core_state o'.core ≡ core_state o.core) where
  was : BothAre program o m
  was = both_at program w m o before r

  -- the point where n transactions are durable, and k may be in their place
  pub point_at : (first second : State) (n k : ℕ) (moved : Position → Position) (shut : Bool) (status : CoreStatus) (failed : ℕ → ℕ) → journals.IsJournalAt o'.journal first second (moved (journal.journal_position o.journal)) shut → first ≡ cut program m n → second ≡ cut program m k
      → (journal.journal_device o'.journal).failures ≡ failed (journal.journal_device o.journal).failures → waiting_of o'.core ≡ drop (n - m.opened.count) (serial_effects program m.opened m.committed) → status ≡ core_status shut → (shut ≡ false → k ≡ n)
      → m.opened.count ≤ n → n ≤ k → k ≤ m.opened.count + length m.committed → Represents program w' (record m { durable = n; doubtful = k; position = moved m.position; status = status; failures = failed m.failures })
  point_at first second n k moved shut status failed at durable doubtful failures waiting is certain low between high =
      let now : is_shut_of o'.core ≡ shut = o'.shut ∙ at.closed in
      let here : journal.journal_state o'.journal ≡ cut program m n = at.state ∙ durable in
      in_point program w' (record m { durable = n; doubtful = k; position = moved m.position; status = status; failures = failed m.failures }) o' after
      (record {
        state = state ∙ was.state;
        number = o'.known ∙ ap (λ (x : State). x.count) here ∙ count-cut program m.opened m.committed n r.numbers.each low (omega (arith, between, high));
        waiting = waiting;
        durable = here;
        doubtful = at.doubtful ∙ doubtful;
        position = at.position ∙ ap moved was.position;
        status = is ∙ ap core_status (sym now);
        certain = λ yes. certain (sym now ∙ yes);
      })
      (record { opened = low; durable = between; doubtful = high; each = r.numbers.each; sound = r.numbers.sound }) (subst (λ (l : List WorldAttempt). AllZip (AttemptIs program) l m.attempts) (sym attempts) r.attempts) (failures ∙ ap failed (failures_at program w m o before r))

  -- the same point, where the journal is as it was
  pub refused_at : o'.journal ≡ o.journal → waiting_of o'.core ≡ waiting_of o.core → Represents program w' m
  refused_at same waits =
      let at : journals.IsJournalAt o'.journal (journal.journal_state o.journal) (journal.doubtful_of o.journal) (journal.journal_position o.journal) (is_shut_of o.core) = record {
        state = ap (λ (j : owner.Journal D d). journal.journal_state j) same;
        doubtful = ap (λ (j : owner.Journal D d). journal.doubtful_of j) same;
        position = ap (λ (j : owner.Journal D d). journal.journal_position j) same;
        closed = ap (λ (j : owner.Journal D d). journal.is_closed_of j) same ∙ sym o.shut;
      } in
      point_at _ _ m.durable m.doubtful (λ p. p) (is_shut_of o.core) m.status (λ n. n) at was.durable was.doubtful (ap (λ (j : owner.Journal D d). (journal.journal_device j).failures) same) (waits ∙ was.waiting) was.status was.certain r.numbers.opened r.numbers.durable r.numbers.doubtful

module _ {D T S : Type 0} {d t s : _} (w w' : World D T S d t s) (layout : w'.layout ≡ w.layout) where
  -- the journal at each moment of a flush or a checkpoint
  pub call_moments : (o o' : core.CoreAndJournal D T d t) → held_of w ≡ With o → held_of w' ≡ With o' → AtEachMoment (journal.journal_device o.journal) (journal.journal_device o'.journal) (λ c. ∥ journal.MayBe o.journal c ⊎ journal.MayBe o'.journal c ∥₁) → EachMoment w w'
  call_moments o o' before after during = λ program m m' r r'.
      let P : List ℕ → Type 0 = λ c. ∥ RepresentsCut program w.layout.vars w.layout.slots m c ⊎ RepresentsCut program w.layout.vars w.layout.slots m' c ∥₁ in
      let then : (c : List ℕ) → journal.MayBe o'.journal c → RepresentsCut program w.layout.vars w.layout.slots m' c =
      λ c it. subst (λ (l : Layout). RepresentsCut program l.vars l.slots m' c) layout (may_be program w' m' o' after (both_at program w' m' o' after r') c it) in
      let both : AtEachMoment (journal.journal_device o.journal) (journal.journal_device o'.journal) P = record {
        each = λ k c left. ∥∥₁_map (during.each k c left) (λ either. ⊎_elim
            (λ (it : journal.MayBe o.journal c). inl (may_be program w m o before (both_at program w m o before r) c it))
            (λ (it : journal.MayBe o'.journal c). inr (then c it)) either);
      } in
      subst (λ (h : Held D T d t). AtEachMoment (d.view (held_disk h)) (world_view w') P) (sym before)
      (subst (λ (h : Held D T d t). AtEachMoment (journal.journal_device o.journal) (d.view (held_disk h)) P) (sym after) both)

  -- an event without a call of the device
  pub still_moments : IsDevice (world_view w) → world_disk w' ≡ world_disk w → EachMoment w w'
  still_moments device same = λ program m m' r r'.
      subst (λ (x : D). AtEachMoment (world_view w) (d.view x) (λ c. ∥ RepresentsCut program w.layout.vars w.layout.slots m c ⊎ RepresentsCut program w.layout.vars w.layout.slots m' c ∥₁)) (sym same)
      (record { each = λ k c left. ∣ inl (r.device.each k c (device.only_now c k left)) ∣₁ })

  -- an event that opens the device again
  pub mending_moments : ((world_view w').keeps_model → (world_view w).keeps_model) → AtEachMoment (world_view w) (world_view w') (RecoveredBy w.layout.vars w.layout.slots (world_view w)) → EachMoment w w'
  mending_moments model during = λ program m m' r r'.
      record { each = λ k c left. ∣ inl (mended_represents w.layout.vars w.layout.slots (cut program m m.durable) (cut program m m.doubtful) (world_view w) r.device (model k) c (during.each k c left)) ∣₁ }

module _ {D T S : Type 0} {d t s : _} (program : Program) (w w' : World D T S d t s) (m : WorldModel) where
  -- one attempt changes, and nothing else
  pub with_attempt : (k : ℕ) (x : WorldAttempt) (a : AttemptModel) → Represents program w m → AttemptIs program x a → w'.attempts.items ≡ slice_set w.attempts.items k x → w'.held ≡ w.held → w'.layout ≡ w.layout → Represents program w' (holding m k a)
  with_attempt k x a r here attempts kept_held layout = record {
    numbers = record { opened = r.numbers.opened; durable = r.numbers.durable; doubtful = r.numbers.doubtful; each = r.numbers.each; sound = r.numbers.sound };
    attempts = subst (λ (l : List WorldAttempt). AllZip (AttemptIs program) l (slice_set m.attempts k a)) (sym attempts) (AllZip-set (AttemptIs program) w.attempts.items m.attempts k x a r.attempts here);
    held = subst (λ (h : Held D T d t). HeldIs program h (holding m k a)) (sym held) (kept (held_of w) r.held);
    failures = ap (λ (h : Held D T d t). (d.view (held_disk h)).failures) held ∙ r.failures;
    device = subst (λ (h : Held D T d t). LeavesOnly (d.view (held_disk h)) (RepresentsCut program w'.layout.vars w'.layout.slots m)) (sym held) (subst (λ (l : Layout). LeavesOnly (world_view w) (RepresentsCut program l.vars l.slots m)) (sym layout) r.device);
  }
    where
      held : held_of w' ≡ held_of w
      held = same_what w.held w'.held w.here w'.here kept_held

      kept : (h : Held D T d t) → HeldIs program h m → HeldIs program h (holding m k a)
      kept (Without left) has = has
      kept (With o) has = record { state = has.state; number = has.number; waiting = has.waiting; durable = has.durable; doubtful = has.doubtful; position = has.position; status = has.status; certain = has.certain }

-- what the closures of a world mean, those of its core's table mean
pub core_means : {D T S : Type 0} {d t s : _} (program : Program) (w : World D T S d t s) (o : core.CoreAndJournal D T d t) → held_of w ≡ With o → Means w program → IsProgramOf t (core_table o.core) program
core_means {D} {T} {t = t} program w o is means = subst (λ (x : T). IsProgramOf t x program) (ap (λ (h : Held D T _ t). table_in h) is) means.invariants

module _ {D T S : Type 0} {d t s : _} (w w' : World D T S d t s) (same : w'.held ≡ w.held) where
  pub held_stays : held_of w' ≡ held_of w
  held_stays = same_what w.held w'.held w.here w'.here same

  pub device_stays : world_disk w' ≡ world_disk w
  device_stays = ap (λ (h : Held D T d t). held_disk h) held_stays

  pub failures_stay : (world_view w').failures ≡ (world_view w).failures
  failures_stay = ap (λ (x : D). (d.view x).failures) device_stays

  -- where nothing changes
  pub same_point : (program : Program) (m : WorldModel) → Represents program w m → w'.attempts.items ≡ w.attempts.items → w'.layout ≡ w.layout → Represents program w' m
  same_point program m r attempts layout = record {
    numbers = r.numbers;
    attempts = subst (λ (l : List WorldAttempt). AllZip (AttemptIs program) l m.attempts) (sym attempts) r.attempts;
    held = subst (λ (h : Held D T d t). HeldIs program h m) (sym held_stays) r.held;
    failures = failures_stay ∙ r.failures;
    device = subst (λ (x : D). LeavesOnly (d.view x) (RepresentsCut program w'.layout.vars w'.layout.slots m)) (sym device_stays) (subst (λ (l : Layout). LeavesOnly (world_view w) (RepresentsCut program l.vars l.slots m)) (sym layout) r.device);
  }

-- an event without a call of the device
pub still_answered : {D T S : Type 0} {d t s : _} (w w' : World D T S d t s) (e : Event) (r : Reply) → w'.layout ≡ w.layout → w'.steps ≡ w.steps → held_table w' ≡ held_table w → world_disk w' ≡ world_disk w → IsDevice (world_view w)
    → IsStep w e r w' → Reopens w e r w' → ((n : ℕ) → failures_by r n ≡ n) → IsFailedCall e r (world_view w').last_fault → IsAnswered w e r w'
still_answered {D} {d = d} w w' e r layout steps table same device step again failures which = record {
  step = step;
  reopened = again;
  any_moment = still_moments w w' layout device same;
  elsewhere = subst (λ (x : D). WritesInStore w.layout (world_view w) (d.view x)) (sym same) (WritesInStore-refl w.layout (world_view w) device);
  failures = ap (λ (x : D). (d.view x).failures) same ∙ sym (failures (world_view w).failures);
  failed_call = which;
  still = λ _. same;
  kept = record { numbers = layout; steps = steps; table = table; model = subst (λ (x : D). (d.view x).keeps_model → (world_view w).keeps_model) (sym same) (λ keeps. keeps) };
}

-- so it is of one that changes attempts alone
pub attempts_answered : {D T S : Type 0} {d t s : _} (w w' : World D T S d t s) (e : Event) (r : Reply) → w'.layout ≡ w.layout → w'.steps ≡ w.steps → w'.held ≡ w.held → IsDevice (world_view w)
    → IsStep w e r w' → Reopens w e r w' → ((n : ℕ) → failures_by r n ≡ n) → IsFailedCall e r (world_view w').last_fault → IsAnswered w e r w'
attempts_answered {D} {T} {d = d} {t = t} w w' e r layout steps same device step again failures which =
    still_answered w w' e r layout steps (ap (λ (h : Held D T d t). table_in h) (held_stays w w' same)) (device_stays w w' same) device step again failures which

-- Without a core an event is refused that needs one, and changes nothing.
pub settles_without : {D T S : Type 0} {d t s : _} (w w' : World D T S d t s) (attempt : ℕ) → (IsWith (held_of w) → ⊥) → w'.layout ≡ w.layout → w'.steps ≡ w.steps → w'.held ≡ w.held → w'.attempts.items ≡ w.attempts.items → IsDevice (world_view w)
    → IsAnswered w (event.Settle attempt) (reply.Fault fault.Closed) w'
settles_without w w' attempt none layout steps same attempts device =
    attempts_answered w w' (event.Settle attempt) (reply.Fault fault.Closed) layout steps same device
    (λ program means m r keeps. (m, no_core program (held_of w) m _ none r.held, same_point w w' same program m r attempts layout)) tt (λ n. refl) tt

pub turns_without : {D T S : Type 0} {d t s : _} (w w' : World D T S d t s) (attempt : ℕ) → (IsWith (held_of w) → ⊥) → w'.layout ≡ w.layout → w'.steps ≡ w.steps → w'.held ≡ w.held → w'.attempts.items ≡ w.attempts.items → IsDevice (world_view w)
    → IsAnswered w (event.Turn attempt) (reply.Fault fault.Closed) w'
turns_without w w' attempt none layout steps same attempts device =
    attempts_answered w w' (event.Turn attempt) (reply.Fault fault.Closed) layout steps same device
    (λ program means m r keeps. (m, no_core program (held_of w) m _ none r.held, same_point w w' same program m r attempts layout)) tt (λ n. refl) tt

pub flushes_without : {D T S : Type 0} {d t s : _} (w w' : World D T S d t s) → (IsWith (held_of w) → ⊥) → w'.layout ≡ w.layout → w'.steps ≡ w.steps → w'.held ≡ w.held → w'.attempts.items ≡ w.attempts.items → IsDevice (world_view w)
    → IsAnswered w event.Flush (reply.Fault fault.Closed) w'
flushes_without w w' none layout steps same attempts device =
    attempts_answered w w' event.Flush (reply.Fault fault.Closed) layout steps same device
    (λ program means m r keeps. (m, no_core program (held_of w) m _ none r.held, same_point w w' same program m r attempts layout)) tt (λ n. refl) tt

pub checkpoints_without : {D T S : Type 0} {d t s : _} (w w' : World D T S d t s) → (IsWith (held_of w) → ⊥) → w'.layout ≡ w.layout → w'.steps ≡ w.steps → w'.held ≡ w.held → w'.attempts.items ≡ w.attempts.items → IsDevice (world_view w)
    → IsAnswered w event.Checkpoint (reply.Fault fault.Closed) w'
checkpoints_without w w' none layout steps same attempts device =
    attempts_answered w w' event.Checkpoint (reply.Fault fault.Closed) layout steps same device
    (λ program means m r keeps. (m, no_core program (held_of w) m _ none r.held, same_point w w' same program m r attempts layout)) tt (λ n. refl) tt

pub looks_without : {D T S : Type 0} {d t s : _} (w : World D T S d t s) → (IsWith (held_of w) → ⊥) → IsDevice (world_view w) → IsAnswered w event.Look (reply.Fault fault.Closed) w
looks_without w none device =
    attempts_answered w w event.Look (reply.Fault fault.Closed) refl refl refl device
    (λ program means m r keeps. (m, no_core program (held_of w) m _ none r.held, r)) tt (λ n. refl) tt

pub AllZip-at : {A B : Type 0} (R : A → B → Type 0) (xs : List A) (ys : List B) (k : ℕ) (d : A) (e : B) → AllZip R xs ys → k < length xs → R (get_or xs k d) (get_or ys k e)
AllZip-at R [] ys k d e each below = absurd (omega arith)
AllZip-at R (a ∷ xs) [] k d e each below = absurd each
AllZip-at R (a ∷ xs) (b ∷ ys) zero d e each below = each.0
AllZip-at R (a ∷ xs) (b ∷ ys) (suc k) d e each below = AllZip-at R xs ys k d e each.1 (omega arith)

-- what stands at an index, whatever would stand where there is none
pub at_index : {A : Type 0} (xs : List A) (k : ℕ) (d e : A) → k < length xs → get_or xs k d ≡ get_or xs k e
at_index [] k d e below = absurd (omega arith)
at_index (x ∷ xs) zero d e below = refl
at_index (x ∷ xs) (suc k) d e below = at_index xs k d e (omega arith)

-- the attempt of a number
pub attempt_holds : {D T S : Type 0} {d t s : _} (program : Program) (w : World D T S d t s) (m : WorldModel) (k : ℕ) (x : WorldAttempt) → Represents program w m → k < length w.attempts.items → x ≡ get_or w.attempts.items k x → AttemptIs program x (attempt_at m k)
attempt_holds program w m k x r below is = subst (λ (t : WorldAttempt). AttemptIs program t (attempt_at m k)) (sym is) (AllZip-at (AttemptIs program) w.attempts.items m.attempts k x NoTransaction r.attempts below)

-- the attempt that is there
pub same_attempt : (m : WorldModel) (k : ℕ) → holding m k (attempt_at m k) ≡ m
same_attempt m k = ap (λ (xs : List AttemptModel). record m { attempts = xs }) (set-get_or m.attempts k NoTransaction)
