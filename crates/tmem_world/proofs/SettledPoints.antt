-- The point of a run after an attempt was settled.
use Rattle.std.proofs.Common.{◌≡◌, ⊎_elim, ℕ, suc, ◌+◌, ◌-◌, ◌≤◌, ℤ, Bool, true, false, cond, List, [], ◌∷◌, ◌++◌, length, get_or, refl, sym, ◌∙◌, ap, subst, arith, length-append}
use Rattle.std.proofs.lemmas.Bool.{cases_eq, false≢true}
use Rattle.std.specs.Prelude.{slice_set, Option, None, IsSome, Result, Ok, Err, All, IsTrue}
use Rattle.std.specs.List.{AllZip}
use Rattle.std.proofs.lemmas.List.{set-get_or, append-nil, take-append-le, take_all}
use Rattle.tmem_fault.specs.declared.fault.Fault.{Fault}
use Rattle.tmem_fault.specs.declared.fault.Fault.TheVariants as fault
use Rattle.tmem_effect.specs.State.{State, fold}
use Rattle.tmem_effect.specs.declared.effect.Effect.{Effect}
use Rattle.tmem_tree.specs.declared.tx.Tx.{Tx}
use Rattle.tmem_tree.specs.Plans.{PlanView}
use Rattle.tmem_core.specs.Program.{Program, IsProgramOf}
use Rattle.tmem_tentative.specs.Cursors.{IsAt, given, attempt_of}
use Rattle.tmem_tree.specs.declared.settled.Settled.{Settled}
use Rattle.tmem_tree.specs.declared.settled.Settled.TheVariants.{Committed}
use Rattle.tmem_invariants.specs.Meanings.{IsSound}
use Rattle.tmem_invariants.specs.TableNames.{has_name}
use Rattle.tmem_core.specs.Held.{CoreView, core_view, core_state, waiting_of, durable_of, is_shut_of, core_table, committing}
use Rattle.tmem_core.specs.SettleAnswer.{has_changed, allowed, judged}
use Rattle.tmem_core.specs.Verdict.{verdict, committed_of, state_after, serial_state, IsCommitted}
use Rattle.tmem_core.proofs.Laws.{serial_state-push, AreCommitted-push}
use Rattle.tmem_event.specs.declared.event.Reply.{Reply}
use Rattle.tmem_journal.specs.Held as journal
use Rattle.tmem_journal.specs.declared.journal.Journal as owner
use Rattle.tmem_world.specs.declared.attempt.WorldAttempt.{WorldAttempt}
use Rattle.tmem_world.specs.declared.core_and_journal.CoreAndJournal as core
use Rattle.tmem_world.specs.declared.held.Held.TheVariants.{With}
use Rattle.tmem_world.specs.declared.world.World.{World}
use Rattle.tmem_world.specs.SettleAttempt.{SettlesAttempt, SettlesEnded}
use Rattle.tmem_world.specs.Replies.{reply_of}
use Rattle.tmem_world.specs.WorldModel.{WorldModel, AttemptModel, NoTransaction, Begun, Ended, is_closed, settle_result, settled_by, present, cut, holding}
use Rattle.tmem_world.specs.Represents.{Evaluates, AttemptIs, BothAre, Represents, held_of, core_status}
use Rattle.tmem_world.proofs.HeldAttempts.{is_there}
use Rattle.tmem_world.proofs.Serial.{waiting-append}
use Rattle.tmem_world.proofs.Points.{AllZip-set, in_point, both_at, failures_at}

-- the point of the run after one plan more
abbrev committing_plan : WorldModel → ℕ → Tx → WorldModel
committing_plan m k plan = record (holding m k NoTransaction) { committed = m.committed ++ plan ∷ [] }

-- only a verdict to commit is answered so
allowed-committed : (v : Settled) (d n : ℕ) (rs : List ℤ) → Ok (Committed n rs) ≡ allowed v d → IsCommitted v
allowed-committed (Committed number registers) d n rs is = tt
allowed-committed _ d n rs is = cc

judged-committed : (shut : Bool) (s : State) (d : ℕ) (reads : List (ℕ × ℤ)) (v : Settled) (n : ℕ) (rs : List ℤ) → Ok (Committed n rs) ≡ judged shut s d reads v → IsCommitted v
judged-committed true s d reads v n rs is = cc
judged-committed false s d reads v n rs is = on (has_changed s reads) is where
  on : (b : Bool) → Ok (Committed n rs) ≡ cond b (Err fault.Conflict) (allowed v d) → IsCommitted v
  on true h = cc
  on false h = allowed-committed v d n rs h

closed_of : (b : Bool) → is_closed (core_status b) ≡ b
closed_of true = refl
closed_of false = refl

module _ (program : Program) where
  -- a state is sound, by what the program says of the names
  abbrev SoundOn : State → Type 0
  SoundOn x = IsSound program.tests program.names x.names x.values

  module _ {D T S : Type 0} {d t s : _} (w w' : World D T S d t s) (m : WorldModel) (k : ℕ) (o o' : core.CoreAndJournal D T d t) (means : IsProgramOf t (core_table o.core) program) (kept : o'.journal ≡ o.journal) (r : Represents program w m)
      (before : held_of w ≡ With o) (after : held_of w' ≡ With o') where
    was : BothAre program o m
    was = both_at program w m o before r

    same_failures : (journal.journal_device o'.journal).failures ≡ m.failures
    same_failures = ap (λ (j : owner.Journal D d). (journal.journal_device j).failures) kept ∙ failures_at program w m o before r

    -- the point after an answer that committed nothing
    uncommitted : (xs : List AttemptModel) → AllZip (AttemptIs program) w'.attempts.items xs → core_view o'.core ≡ committing [] (core_view o.core) → Represents program w' (record m { attempts = xs })
    uncommitted xs attempts view = in_point program w' (record m { attempts = xs }) o' after
        (record {
          state = ap (λ (v : CoreView T). v.state) view ∙ was.state;
          number = ap (λ (v : CoreView T). v.durable) view ∙ was.number;
          waiting = ap (λ (v : CoreView T). v.waiting) view ∙ append-nil (waiting_of o.core) ∙ was.waiting;
          durable = ap (λ (j : owner.Journal D d). journal.journal_state j) kept ∙ was.durable;
          doubtful = ap (λ (j : owner.Journal D d). journal.doubtful_of j) kept ∙ was.doubtful;
          position = ap (λ (j : owner.Journal D d). journal.journal_position j) kept ∙ was.position;
          status = was.status ∙ ap (λ (v : CoreView T). core_status v.is_shut) (sym view);
          certain = λ running. was.certain (ap (λ (v : CoreView T). v.is_shut) (sym view) ∙ running);
        })
        (record { opened = r.numbers.opened; durable = r.numbers.durable; doubtful = r.numbers.doubtful; each = r.numbers.each; sound = r.numbers.sound }) attempts same_failures

    -- the order cut at a number that it had before, once one plan more is committed
    cuts : (plan : Tx) (n : ℕ) → n - m.opened.count ≤ length m.committed → cut program m n ≡ cut program (committing_plan m k plan) n
    cuts plan n le = ap (serial_state program m.opened) (sym (take-append-le (n - m.opened.count) m.committed (plan ∷ []) le))

    -- the core after one that committed a plan
    more_committed : (plan : Tx) (e : Effect) → e ∷ [] ≡ committed_of program plan (core_state o.core) → core_view o'.core ≡ committing (e ∷ []) (core_view o.core) → BothAre program o' (committing_plan m k plan)
    more_committed plan e added view = record {
      state = ap (λ (v : CoreView T). v.state) view ∙ ap (fold (core_state o.core)) added ∙ ap (λ (s : State). state_after program s plan) was.state ∙ sym (serial_state-push program m.opened m.committed plan);
      number = ap (λ (v : CoreView T). v.durable) view ∙ was.number;
      waiting = ap (λ (v : CoreView T). v.waiting) view ∙ ap (λ (es : List Effect). waiting_of o.core ++ es) added ∙ ap (λ (s : State). waiting_of o.core ++ committed_of program plan s) was.state
          ∙ ap (λ (es : List Effect). es ++ committed_of program plan (present program m)) was.waiting
          ∙ sym (waiting-append program (m.durable - m.opened.count) m.opened m.committed plan r.numbers.each (omega (arith, r.numbers.durable, r.numbers.doubtful)));
      durable = ap (λ (j : owner.Journal D d). journal.journal_state j) kept ∙ was.durable ∙ cuts plan m.durable (omega (arith, r.numbers.doubtful, r.numbers.durable));
      doubtful = ap (λ (j : owner.Journal D d). journal.doubtful_of j) kept ∙ was.doubtful ∙ cuts plan m.doubtful (omega (arith, r.numbers.doubtful));
      position = ap (λ (j : owner.Journal D d). journal.journal_position j) kept ∙ was.position;
      status = was.status ∙ ap (λ (v : CoreView T). core_status v.is_shut) (sym view);
      certain = λ running. was.certain (ap (λ (v : CoreView T). v.is_shut) (sym view) ∙ running);
    }

    -- the order with one plan more, cut at its end, is the whole
    whole : (n : ℕ) (plan : Tx) → n ≡ suc (m.opened.count + length m.committed) → present program (committing_plan m k plan) ≡ cut program (committing_plan m k plan) n
    whole n plan is = ap (serial_state program m.opened) (sym (take_all (n - m.opened.count) (m.committed ++ plan ∷ []) (omega (arith, is, length-append m.committed (plan ∷ [])))))

    -- the point where a plan was committed
    commits : (plan : Tx) → IsCommitted (verdict program plan (present program m)) → SoundOn (present program (committing_plan m k plan)) → AllZip (AttemptIs program) w'.attempts.items (slice_set m.attempts k NoTransaction)
        → BothAre program o' (committing_plan m k plan) → Represents program w' (committing_plan m k plan)
    commits plan committed here attempts held = in_point program w' (committing_plan m k plan) o' after held (record {
      opened = r.numbers.opened;
      durable = r.numbers.durable;
      doubtful = omega (arith, r.numbers.doubtful, length-append m.committed (plan ∷ []));
      each = AreCommitted-push program m.opened m.committed plan r.numbers.each committed;
      sound = λ n from to. ⊎_elim
          (λ (new : n ≡ suc (m.opened.count + length m.committed)). subst SoundOn (whole n plan new) here)
          (λ old.
          let below : n ≤ m.opened.count + length m.committed = omega (arith, to, old, length-append m.committed (plan ∷ [])) in
          subst SoundOn (cuts plan n (omega (arith, from, below))) (r.numbers.sound n from below))
          (cases_eq n (suc (m.opened.count + length m.committed)));
    }) attempts same_failures

    -- the attempts stay where one takes back what it held
    attempts_stay : (s s' : WorldAttempt) → s ≡ get_or w.attempts.items k s → s' ≡ s → w'.attempts.items ≡ slice_set w.attempts.items k s' → AllZip (AttemptIs program) w'.attempts.items m.attempts
    attempts_stay s s' held same attempts =
        subst (λ (l : List WorldAttempt). AllZip (AttemptIs program) l m.attempts)
        (sym (attempts ∙ ap (slice_set w.attempts.items k) (same ∙ held) ∙ set-get_or w.attempts.items k s)) r.attempts

    attempts_empty : (s' : WorldAttempt) → s'.plan ≡ None → w'.attempts.items ≡ slice_set w.attempts.items k s' → AllZip (AttemptIs program) w'.attempts.items (slice_set m.attempts k NoTransaction)
    attempts_empty s' none attempts =
        subst (λ (l : List WorldAttempt). AllZip (AttemptIs program) l (slice_set m.attempts k NoTransaction)) (sym attempts) (AllZip-set (AttemptIs program) w.attempts.items m.attempts k s' NoTransaction r.attempts none)

    -- nothing changed, and the core is the one that it was
    idles : (s s' : WorldAttempt) → s ≡ get_or w.attempts.items k s → s' ≡ s → w'.attempts.items ≡ slice_set w.attempts.items k s' → o' ≡ o → Represents program w' m
    idles s s' held same attempts is =
        in_point program w' m o' after (subst (λ (x : core.CoreAndJournal D T d t). BothAre program x m) (sym is) was) r.numbers (attempts_stay s s' held same attempts) same_failures

    -- the core's new state is sound, by its type
    sound_now : core_table o'.core ≡ core_table o.core → SoundOn (core_state o'.core)
    sound_now same = record {
      there = subst (λ (names : List (List ℕ)). All (λ (name : List ℕ). IsTrue (has_name names name)) (core_state o'.core).names) (ap (λ (x : T). t.names x) same ∙ sym means.names) o'.core.known;
      hold = o'.core.sound program.tests (subst (λ (x : T). t.is_stated x program.tests) (sym same) means.tests);
    }

    -- what the model answers is the core's answer
    is_answer : (plan : Tx) (x : Result Settled Fault) (had reads : List (ℕ × ℤ)) → had ≡ reads
        → x ≡ judged (is_shut_of o.core) (core_state o.core) (durable_of o.core) had (verdict program plan (core_state o.core))
        → x ≡ judged (is_closed m.status) (present program m) m.durable reads (verdict program plan (present program m))
    is_answer plan x had reads same is =
        let J : Bool → State → ℕ → List (ℕ × ℤ) → Result Settled Fault = λ b s n rs. judged b s n rs (verdict program plan s) in
        let shut : is_shut_of o.core ≡ is_closed m.status = sym (ap is_closed was.status ∙ closed_of (is_shut_of o.core)) in
        is ∙ ap (λ b. J b (core_state o.core) (durable_of o.core) had) shut ∙ ap (λ s. J (is_closed m.status) s (durable_of o.core) had) was.state
        ∙ ap (λ n. J (is_closed m.status) (present program m) n had) was.number ∙ ap (J (is_closed m.status) (present program m) m.durable) same

    by_answer : (s s' : WorldAttempt) (plan : Tx) (x : Result Settled Fault) (y : Reply) → IsAt program.steps program.tests plan s.cursor → s ≡ get_or w.attempts.items k s → w'.attempts.items ≡ slice_set w.attempts.items k s' → SettlesEnded o s x y o' s' → Represents program w' (settled_by x m k plan)
    by_answer s s' plan (Ok (Committed n rs)) y at held attempts it =
        let right = it.right program.steps program.tests plan at in
        let committed : IsCommitted (verdict program plan (present program m)) =
        judged-committed (is_closed m.status) (present program m) m.durable (given s.cursor) (verdict program plan (present program m)) n rs (is_answer plan (Ok (Committed n rs)) (given s.cursor) (given s.cursor) refl (it.core.verdict program plan means right)) in
        let more = more_committed plan (attempt_of s.cursor).effect (it.core.added program plan means right) it.core.view in
        commits plan committed (subst SoundOn more.state (sound_now (ap (λ (v : CoreView T). v.table) it.core.view))) (attempts_empty s' (ap (λ (z : WorldAttempt). z.plan) it.attempt) attempts) more
    by_answer s s' plan (Ok _) y at held attempts it = uncommitted (slice_set m.attempts k NoTransaction) (attempts_empty s' (ap (λ (z : WorldAttempt). z.plan) it.attempt) attempts) it.core.view
    by_answer s s' plan (Err f) y at held attempts it = uncommitted m.attempts (attempts_stay s s' held it.attempt attempts) it.core.view

    by_ended : (s s' : WorldAttempt) (plan : Tx) (reads : List (ℕ × ℤ)) (x : Result Settled Fault) (y : Reply) → Evaluates program s plan reads → s ≡ get_or w.attempts.items k s → w'.attempts.items ≡ slice_set w.attempts.items k s' → SettlesEnded o s x y o' s'
        → (m' : WorldModel) × ((y, m') ≡ settle_result program (Ended plan reads) m k) × Represents program w' m'
    by_ended s s' plan reads x y is held attempts it =
        let now = settled_by x m k plan in
        let whole : x ≡ judged (is_closed m.status) (present program m) m.durable reads (verdict program plan (present program m)) = is_answer plan x (given s.cursor) reads is.given (it.core.verdict program plan means (it.right program.steps program.tests plan is.at)) in
        (now, ap (λ (z : Reply). (z, now)) it.reply ∙ ap (λ (z : Result Settled Fault). (reply_of z, settled_by z m k plan)) whole, by_answer s s' plan x y is.at held attempts it)

    -- the point of the run after an attempt was settled
    pub settles : (s s' : WorldAttempt) (a : AttemptModel) (x : Reply) → s ≡ get_or w.attempts.items k s → w'.attempts.items ≡ slice_set w.attempts.items k s' → AttemptIs program s a → SettlesAttempt o s x o' s' → (m' : WorldModel) × ((x, m') ≡ settle_result program a m k) × Represents program w' m'
    settles s s' NoTransaction x held attempts is it =
        ⊎_elim
        (λ none. (m, ap (λ (y : Reply). (y, m)) none.1.0, idles s s' held none.1.2 attempts none.1.1))
        (λ some. absurd (false≢true (subst (λ (o : Option PlanView). IsSome o) is some.0.0))) it
    settles s s' (Begun tx rs answered) x held attempts is it =
        ⊎_elim
        (λ none. (m, ap (λ (y : Reply). (y, m)) none.1.0, idles s s' held none.1.2 attempts none.1.1))
        (λ some. absurd (is.2 some.0.1)) it
    settles s s' (Ended tx rs) x held attempts is it =
        ⊎_elim
        (λ none. absurd (none.0 (is_there s.plan tx is.0.plan, is.1)))
        (λ some. by_ended s s' tx rs some.1.0 x is.0 held attempts some.1.1) it
