-- The point of a run after a flush.
use Rattle.std.proofs.Common.{◌≡◌, ⊎_elim, ℕ, ◌+◌, ◌-◌, ◌<◌, ◌≤◌, Bool, true, false, nat_eq, List, [], ◌++◌, length, take, drop, refl, sym, ◌∙◌, ap, subst, arith, length-append, length-drop}
use Rattle.std.specs.Prelude.{Result, Ok, Err, MatchBool}
use Rattle.std.proofs.Math.Seq.{take-append_seam}
use Rattle.std.proofs.lemmas.Bool.Decides.{nat_tests}
use Rattle.tmem_disk.specs.Disk.{after_fault}
use Rattle.tmem_fault.specs.declared.fault.Fault.{Fault}
use Rattle.tmem_fault.specs.declared.fault.Fault.TheVariants as fault
use Rattle.tmem_event.specs.declared.event.Reply.{Reply}
use Rattle.tmem_event.specs.declared.event.Reply.TheVariants as reply
use Rattle.tmem_world.specs.declared.core_and_journal.CoreAndJournal as core
use Rattle.tmem_world.specs.declared.held.Held.{Held}
use Rattle.tmem_world.specs.declared.held.Held.TheVariants.{With}
use Rattle.tmem_world.specs.Parts.{layout_in}
use Rattle.tmem_world.specs.declared.world.World.{World}
use Rattle.tmem_effect.specs.State.{State, fold}
use Rattle.tmem_effect.specs.declared.effect.Effect.{Effect}
use Rattle.tmem_effect.proofs.Laws.{count-fold}
use Rattle.tmem_core.specs.Program.{Program}
use Rattle.tmem_core.specs.Held.{core_state, waiting_of, durable_of, is_shut_of}
use Rattle.tmem_core.specs.Verdict.{serial_state, serial_effects}
use Rattle.tmem_core.specs.Taking.{IsTaken}
use Rattle.tmem_core.proofs.Laws.{count-committed, length-serial_effects}
use Rattle.tmem_gate.specs.Calls.{Uses}
use Rattle.tmem_journal.specs.Held as journal
use Rattle.tmem_journal.specs.Journals as journals
use Rattle.tmem_journal.specs.Contents.{Position, next_slot}
use Rattle.tmem_world.specs.CoresAndJournals.{FlushesBoth, CallsDevice, waiting_after}
use Rattle.tmem_world.specs.WorldModel.{WorldModel, CoreStatus, Open, Closed, present, cut, not_durable, IsBatchEnd, AllowsFlush, AllowsFlushOfSome}
use Rattle.tmem_world.specs.Represents.{BothAre, Represents, held_of, core_status}
use Rattle.tmem_world.proofs.Serial.{AreNext, are_next}
use Rattle.tmem_world.proofs.Points.{both_at, point_at, refused_at}

-- which reply a flush's answer is
abbrev pub flush_reply : Result ℕ Fault → Reply
flush_reply (Ok n) = reply.Durable n
flush_reply (Err f) = reply.Fault f

pub at_true : (b : Bool) (P Q : Type 0) → b ≡ true → P → MatchBool b P Q
at_true true P Q is p = p
at_true false P Q is p = cc

pub at_false : (b : Bool) (P Q : Type 0) → b ≡ false → Q → MatchBool b P Q
at_false false P Q is q = q
at_false true P Q is q = cc

module _ {D T S : Type 0} {d t z : _} (program : Program) (w w' : World D T S d t z) (m : WorldModel) (o o' : core.CoreAndJournal D T d t) (r : Represents program w m)
    (before : held_of w ≡ With o) (after : held_of w' ≡ With o') (attempts : w'.attempts.items ≡ w.attempts.items) where
  abbrev Next : Reply → Type 0
  Next x = (m' : WorldModel) × AllowsFlush program w.layout.slots m.status m x m' × Represents program w' m'

  -- its journal has as many log slots as the layout
  over : (journal.journal_layout o.journal).slots ≡ w.layout.slots
  over = sym (ap (λ (h : Held D T d t). (layout_in h).slots) before) ∙ w.same_slots

  was : BothAre program o m
  was = both_at program w m o before r

  used : (journal.journal_position o.journal).used ≡ m.position.used
  used = ap (λ (p : Position). p.used) was.position

  -- the count of the present state
  all : (present program m).count ≡ m.opened.count + length m.committed
  all = count-committed program m.opened m.committed r.numbers.each

  behind : length (waiting_of o.core) + (m.durable - m.opened.count) ≡ length m.committed
  behind = omega (arith, ap length was.waiting, length-drop (m.durable - m.opened.count) (serial_effects program m.opened m.committed), length-serial_effects program m.opened m.committed r.numbers.each, r.numbers.durable, r.numbers.doubtful)

  module _ (state : core_state o'.core ≡ core_state o.core) (running : is_shut_of o.core ≡ false) where
    is_open : m.status ≡ Open
    is_open = was.status ∙ ap core_status running

    nothing_waits : waiting_of o.core ≡ [] → AllowsFlush program w.layout.slots m.status m (reply.Durable (durable_of o.core)) m
    nothing_waits none =
        let same : m.durable ≡ (present program m).count = omega (arith, all, behind, ap length none, r.numbers.opened) in
        let test : nat_eq m.durable (present program m).count ≡ true = grind (arith, nat_tests) in
        subst (λ (y : CoreStatus). AllowsFlush program w.layout.slots y m (reply.Durable (durable_of o.core)) m) (sym is_open) (at_true (nat_eq m.durable (present program m).count) _ _ test (ap (λ (k : ℕ). reply.Durable k) was.number, refl))

    module _ (es rest : List Effect) (waited : waiting_of o.core ≡ es ++ rest) (some : 1 ≤ length es) (few : length es ≤ 64) (taken : IsTaken (waiting_of o.core) es) where
      -- where something waits, the durable number is not the count
      waits_some : nat_eq m.durable (present program m).count ≡ false
      waits_some = let less : m.durable < (present program m).count = omega (arith, all, behind, r.numbers.opened, ap length waited, length-append es rest, some) in grind (arith, nat_tests)

      next : AreNext program m.opened m.committed (m.durable - m.opened.count) es rest
      next = are_next program m.opened m.committed (m.durable - m.opened.count) es rest r.numbers.each (omega (arith, r.numbers.durable, r.numbers.doubtful)) (sym was.waiting ∙ waited)

      further : (m.durable + length es) - m.opened.count ≡ (m.durable - m.opened.count) + length es
      further = omega (arith, r.numbers.opened)

      -- the journal's state with the batch is the order cut behind it
      with_batch : fold (journal.journal_state o.journal) es ≡ cut program m (m.durable + length es)
      with_batch = ap (λ (s : State). fold s es) was.durable ∙ sym (ap (λ (k : ℕ). serial_state program m.opened (take k m.committed)) further ∙ next.state)

      reached : m.durable + length es ≤ m.opened.count + length m.committed
      reached = omega (arith, next.below, r.numbers.opened)

      -- the batch is the first of what is not durable
      first : take ((m.durable + length es) - m.durable) (not_durable program m) ≡ es
      first =
          let count : (m.durable + length es) - m.durable ≡ length es = omega arith in
          ap (λ (k : ℕ). take k (not_durable program m)) count ∙ ap (λ (l : List Effect). take (length es) l) (sym was.waiting ∙ waited) ∙ take-append_seam es rest

      is_end : IsBatchEnd program m (m.durable + length es)
      is_end = record {
        more = omega (arith, some);
        few = omega (arith, few);
        committed = omega (arith, all, reached);
        taken = subst (λ (l : List Effect). IsTaken l (take ((m.durable + length es) - m.durable) (not_durable program m))) was.waiting (subst (λ (l : List Effect). IsTaken (waiting_of o.core) l) (sym first) taken);
      }

      writes : (journal.journal_position o.journal).used < (journal.journal_layout o.journal).slots → (x : Reply) (m' : WorldModel) → AllowsFlushOfSome program m x m' → AllowsFlush program w.layout.slots m.status m x m'
      writes left x m' by =
          let less : m.position.used < w.layout.slots = omega (arith, left, used, over) in
          let test : nat_eq m.position.used w.layout.slots ≡ false = grind (arith, nat_tests) in
          subst (λ (y : CoreStatus). AllowsFlush program w.layout.slots y m x m') (sym is_open) (at_false (nat_eq m.durable (present program m).count) _ _ waits_some (at_false (nat_eq m.position.used w.layout.slots) _ _ test by))

      wrote : (n : ℕ) → journals.Flushes o.journal es (Ok n) o'.journal → waiting_of o'.core ≡ rest → (journal.journal_device o'.journal).failures ≡ (journal.journal_device o.journal).failures → Next (reply.Durable n)
      wrote n it waits failures =
          let is : m.durable + length es ≡ n = omega (arith, it.1, count-fold (journal.journal_state o.journal) es, o.known, was.number) in
          let next_is : drop (n - m.opened.count) (serial_effects program m.opened m.committed) ≡ rest = ap (λ (k : ℕ). drop (k - m.opened.count) (serial_effects program m.opened m.committed)) (sym is) ∙ ap (λ (k : ℕ). drop k (serial_effects program m.opened m.committed)) further ∙ next.waits in
          let here : fold (journal.journal_state o.journal) es ≡ cut program m n = with_batch ∙ ap (cut program m) is in
          let m' : WorldModel = record m { durable = n; doubtful = n; position = next_slot m.position } in (
            m',
            writes it.0.left (reply.Durable n) m' (subst (λ (k : ℕ). IsBatchEnd program m k) is is_end, refl),
            point_at program w w' m o o' r before after attempts state _ _ n n next_slot false m.status (λ f. f) it.2 here here failures (waits ∙ sym next_is) is_open (λ yes. refl) (omega (arith, r.numbers.opened, is)) (omega arith) (omega (arith, reached, is)),
          )

      -- the device failed, and no transaction is durable that was not
      failed : (x : Reply) (second : State) (k : ℕ) → (has : journals.HasSlot o.journal) → journals.IsJournalAt o'.journal (journal.journal_state o.journal) second (journal.journal_position o.journal) true → second ≡ cut program m k → waiting_of o'.core ≡ waiting_of o.core
          → (journal.journal_device o'.journal).failures ≡ after_fault (journal.journal_device o.journal).failures → m.durable ≤ k → k ≤ m.opened.count + length m.committed → AllowsFlushOfSome program m x (record m { status = Closed; failures = after_fault m.failures; doubtful = k }) → Next x
      failed x second k has at doubtful waits failures low high allowed =
          let m' : WorldModel = record m { status = Closed; failures = after_fault m.failures; doubtful = k } in (
            m',
            writes has.left x m' allowed,
            point_at program w w' m o o' r before after attempts state _ _ m.durable k (λ p. p) true Closed after_fault at was.durable doubtful failures (waits ∙ was.waiting) refl (λ yes. cc) r.numbers.opened low high,
          )

      handed : (x : Result ℕ Fault) → Uses (journal.journal_device o.journal) (journal.journal_device o'.journal) x → journals.Flushes o.journal es x o'.journal → waiting_of o'.core ≡ waiting_after x (waiting_of o.core) rest → Next (flush_reply x)
      handed (Ok n) uses it waits = wrote n it waits uses.failures
      handed (Err fault.Device) uses it waits = failed (reply.Fault fault.Device) _ m.doubtful it.0 it.2 (was.durable ∙ ap (cut program m) (sym (was.certain running))) waits uses.failures r.numbers.durable r.numbers.doubtful refl
      handed (Err fault.Unknown) uses it waits = failed (reply.Fault fault.Unknown) _ (m.durable + length es) it.0 it.1 with_batch waits uses.failures (omega arith) reached (m.durable + length es, is_end, refl)
      handed (Err fault.Closed) uses it waits = absurd (cc (o.shut, it.0, running))
      handed (Err fault.LogFull) uses it waits =
          let full : m.position.used ≡ w.layout.slots = sym used ∙ it.1 ∙ over in
          let test : nat_eq m.position.used w.layout.slots ≡ true = grind (arith, nat_tests) in (
            m,
            subst (λ (y : CoreStatus). AllowsFlush program w.layout.slots y m (reply.Fault fault.LogFull) m) (sym is_open) (at_false (nat_eq m.durable (present program m).count) _ _ waits_some (at_true (nat_eq m.position.used w.layout.slots) _ _ test (refl, refl))),
            refused_at program w w' m o o' r before after attempts state it.2 waits,
          )
      handed (Err _) uses it waits = absurd it

  -- the point of the run after a flush
  pub flushes : {at n : ℕ} (x : Result ℕ Fault) → CallsDevice at n o x o' → FlushesBoth o x o' → Next (flush_reply x)
  flushes x did so = ⊎_elim
      (λ it. subst (λ (y : Result ℕ Fault). Next (flush_reply y)) (sym it.answered)
      (m, subst (λ (y : CoreStatus). AllowsFlush program w.layout.slots y m (reply.Fault fault.Closed) m) (sym (was.status ∙ ap core_status it.closed)) (refl, refl), same it.same))
      (⊎_elim
      (λ it. subst (λ (y : Result ℕ Fault). Next (flush_reply y)) (sym it.answered) (m, nothing_waits did.state it.running it.none, same it.same))
      (λ it. handed did.state it.running it.oldest it.rest it.waited it.some it.few it.taken x did.uses it.journal it.waits)) so
    where
      same : o' ≡ o → Represents program w' m
      same is = refused_at program w w' m o o' r before after attempts did.state (ap (λ (y : core.CoreAndJournal D T d t). y.journal) is) (ap (λ (y : core.CoreAndJournal D T d t). waiting_of y.core) is)
