-- What each event makes of a run and of its history.
use Rattle.std.proofs.Common.{◌≡◌, ⊎_elim, ℕ, ◌+◌, ◌-◌, ◌^◌, ◌≤◌, Bool, true, false, nat_eq, List, [], ◌∷◌, ◌++◌, length, refl, sym, ◌∙◌, ap, subst, arith, append_assoc}
use Rattle.std.specs.Prelude.{ℤ, Option, Some, None, Result, Ok, Err, MatchBool}
use Rattle.std.proofs.Math.Nat.{max-le}
use Rattle.tmem_fault.specs.declared.fault.Fault.{Fault}
use Rattle.tmem_fault.specs.declared.fault.Fault.TheVariants as fault
use Rattle.tmem_effect.specs.State.{State, first_state}
use Rattle.tmem_tree.specs.declared.tx.Tx.{Tx}
use Rattle.tmem_tree.specs.declared.settled.Settled.{Settled}
use Rattle.tmem_tree.specs.declared.settled.Settled.TheVariants.{Committed}
use Rattle.tmem_tree.specs.Visited.{Ask, Visit, Probe}
use Rattle.tmem_core.specs.Program.{Program}
use Rattle.tmem_core.specs.Verdict.{verdict, serial_state}
use Rattle.tmem_core.specs.SettleAnswer.{judged}
use Rattle.tmem_core.proofs.Laws.{serial_state-append}
use Rattle.tmem_event.specs.declared.event.Event.{Event}
use Rattle.tmem_event.specs.declared.event.Event.TheVariants as event
use Rattle.tmem_event.specs.declared.event.Reply.{Reply}
use Rattle.tmem_event.specs.declared.event.Reply.TheVariants as reply
use Rattle.tmem_world.specs.Replies.{reply_of, acknowledged}
use Rattle.tmem_world.specs.WorldModel.{WorldModel, AttemptModel, NoTransaction, Begun, Ended, CoreStatus, Open, Gone, Setting, present, attempt_at, goes_on, open_in, AllowsBegin, AllowsTurn, is_closed, settled_by, settle_result, AllowsFlushOfSome, AllowsFlush, AllowsNextImage, AllowsCheckpoint, AllowsReopen, WithCore, Allows}
use Rattle.tmem_world.specs.Represents.{IsNumbered}
use Rattle.tmem_world.specs.Chain.{ChainHistory, GoesOn, ended_plan, committed_after, history_after}
use Rattle.tmem_world.proofs.Prefixes.{count_found, take_behind}

-- A run goes on by an event: behind what was committed before its opening, it has committed what the history says. Nothing durable
-- is lost, and the reply acknowledges no more than is durable.
pub record Moves (m : WorldModel) (e : Event) (r : Reply) (m' : WorldModel) : Type 0 where
  pub opened : m'.opened ≡ m.opened
  pub committed : (found : List Tx) → length found ≡ m.opened.count → committed_after m e r (found ++ m.committed) ≡ found ++ m'.committed
  pub acknowledged : acknowledged r ≤ m'.durable
  pub durable : m.durable ≤ m'.durable

module _ (m : WorldModel) (e : Event) where
  -- the event committed nothing and dropped nothing
  stays : (r : Reply) (m' x : WorldModel) → m' ≡ x → ((txs : List Tx) → committed_after m e r txs ≡ txs) → x.opened ≡ m.opened → x.committed ≡ m.committed → acknowledged r ≤ x.durable → m.durable ≤ x.durable → Moves m e r m'
  stays r m' x is same opened committed told kept = subst (Moves m e r) (sym is) (record {
    opened = opened;
    committed = λ found count. same (found ++ m.committed) ∙ ap (λ (l : List Tx). found ++ l) (sym committed);
    acknowledged = told;
    durable = kept;
  })

  -- the run is at the same point
  unmoved : (r s : Reply) (m' : WorldModel) → ((txs : List Tx) → committed_after m e s txs ≡ txs) → acknowledged s ≤ m.durable → (r ≡ s) × (m' ≡ m) → Moves m e r m'
  unmoved r s m' same told is = subst (λ (x : Reply). Moves m e x m') (sym is.0) (stays s m' m is.1 same refl refl told (omega arith))

  -- what happens with a core, or a refusal that changes nothing
  with_core : (s : CoreStatus) (r : Reply) (m' : WorldModel) (allowed : Type 0) → ((txs : List Tx) → committed_after m e (reply.Fault fault.Closed) txs ≡ txs) → (allowed → Moves m e r m') → WithCore s m r m' allowed → Moves m e r m'
  with_core Gone r m' allowed same then is = unmoved r (reply.Fault fault.Closed) m' same (omega arith) is
  with_core _ r m' allowed same then is = then is

module _ (m : WorldModel) where
  begins : (set : Setting) (attempt : ℕ) (tx : Tx) (r : Reply) (m' : WorldModel) → AllowsBegin set m attempt tx r m' → Moves m (event.Begin attempt tx) r m'
  begins set attempt tx reply.Begun m' is = stays m _ reply.Begun m' _ is.1 (λ txs. refl) refl refl (omega arith) (omega arith)
  begins set attempt tx (reply.Fault f) m' is = stays m _ (reply.Fault f) m' m is.1 (λ txs. refl) refl refl (omega arith) (omega arith)
  begins set attempt tx _ m' is = absurd is

  goes : (next : Option Ask) (program : Program) (attempt : ℕ) (plan : Tx) (reads : List (ℕ × ℤ)) (answered : ℕ) → Moves m (event.Turn attempt) (goes_on next program m attempt plan reads answered).0 (goes_on next program m attempt plan reads answered).1
  goes (Some (Visit var)) program attempt plan reads answered = stays m _ _ _ _ refl (λ txs. refl) refl refl (omega arith) (omega arith)
  goes (Some (Probe name values)) program attempt plan reads answered = stays m _ _ _ _ refl (λ txs. refl) refl refl (omega arith) (omega arith)
  goes None program attempt plan reads answered = stays m _ _ _ _ refl (λ txs. refl) refl refl (omega arith) (omega arith)

  turns : (program : Program) (a : AttemptModel) (attempt : ℕ) (r : Reply) (m' : WorldModel) → AllowsTurn program a m attempt r m' → Moves m (event.Turn attempt) r m'
  turns program NoTransaction attempt r m' is = unmoved m _ r reply.Idle m' (λ txs. refl) (omega arith) is
  turns program (Ended plan reads) attempt r m' is = unmoved m _ r reply.Ended m' (λ txs. refl) (omega arith) is
  turns program (Begun plan reads answered) attempt r m' is =
      ⊎_elim (λ now. subst (λ (x : Reply × WorldModel). Moves m (event.Turn attempt) x.0 x.1) (sym now) (goes (open_in program m plan reads answered) program attempt plan reads answered)) (unmoved m _ r (reply.Fault fault.Memory) m' (λ txs. refl) (omega arith)) is

  -- what holds of both holds of the one that is chosen
  chosen : (b : Bool) (P Q R : Type 0) → (P → R) → (Q → R) → MatchBool b P Q → R
  chosen true P Q R one other is = one is
  chosen false P Q R one other is = other is

  flushes_some : (program : Program) (r : Reply) (m' : WorldModel) → AllowsFlushOfSome program m r m' → Moves m event.Flush r m'
  flushes_some program (reply.Durable n) m' is = stays m _ (reply.Durable n) m' _ is.1 (λ txs. refl) refl refl (omega arith) (omega (arith, is.0.more))
  flushes_some program (reply.Fault fault.Device) m' is = stays m _ (reply.Fault fault.Device) m' _ is (λ txs. refl) refl refl (omega arith) (omega arith)
  flushes_some program (reply.Fault fault.Unknown) m' is = stays m _ (reply.Fault fault.Unknown) m' _ is.2 (λ txs. refl) refl refl (omega arith) (omega arith)
  flushes_some program (reply.Fault _) m' is = absurd is
  flushes_some program _ m' is = absurd is

  flushes : (program : Program) (slots : ℕ) (s : CoreStatus) (r : Reply) (m' : WorldModel) → AllowsFlush program slots s m r m' → Moves m event.Flush r m'
  flushes program slots Open r m' is =
      chosen (nat_eq m.durable (present program m).count) _ _ (Moves m event.Flush r m') (unmoved m _ r (reply.Durable m.durable) m' (λ txs. refl) (omega arith))
      (chosen (nat_eq m.position.used slots) _ _ (Moves m event.Flush r m') (unmoved m _ r (reply.Fault fault.LogFull) m' (λ txs. refl) (omega arith)) (flushes_some program r m')) is
  flushes program slots _ r m' is = unmoved m _ r (reply.Fault fault.Closed) m' (λ txs. refl) (omega arith) is

  next_image : (r : Reply) (m' : WorldModel) → AllowsNextImage m r m' → Moves m event.Checkpoint r m'
  next_image reply.Checkpointed m' is = stays m _ reply.Checkpointed m' _ is (λ txs. refl) refl refl (omega arith) (omega arith)
  next_image (reply.Fault fault.Device) m' is = stays m _ (reply.Fault fault.Device) m' _ is (λ txs. refl) refl refl (omega arith) (omega arith)
  next_image (reply.Fault fault.Unknown) m' is = stays m _ (reply.Fault fault.Unknown) m' _ is (λ txs. refl) refl refl (omega arith) (omega arith)
  next_image (reply.Fault _) m' is = absurd is
  next_image _ m' is = absurd is

  checkpoints : (s : CoreStatus) (r : Reply) (m' : WorldModel) → AllowsCheckpoint s m r m' → Moves m event.Checkpoint r m'
  checkpoints Open r m' is =
      chosen (nat_eq (m.position.generation + 1) (2 ^ 64)) _ _ (Moves m event.Checkpoint r m') (unmoved m _ r (reply.Fault fault.Spent) m' (λ txs. refl) (omega arith)) (next_image r m') is
  checkpoints _ r m' is = unmoved m _ r (reply.Fault fault.Closed) m' (λ txs. refl) (omega arith) is

  -- a plan that has ended is settled
  settles_ended : (attempt : ℕ) (plan : Tx) (reads : List (ℕ × ℤ)) → attempt_at m attempt ≡ Ended plan reads → (x : Result Settled Fault) → Moves m (event.Settle attempt) (reply_of x) (settled_by x m attempt plan)
  settles_ended attempt plan reads here (Ok (Committed number registers)) = record {
    opened = refl;
    committed = λ found count. ap (λ (a : AttemptModel). (found ++ m.committed) ++ ended_plan a) here ∙ append_assoc found m.committed (plan ∷ []);
    acknowledged = omega arith;
    durable = omega arith;
  }
  settles_ended attempt plan reads here (Ok _) = stays m _ _ _ _ refl (λ txs. refl) refl refl (omega arith) (omega arith)
  settles_ended attempt plan reads here (Err f) = stays m _ _ _ _ refl (λ txs. refl) refl refl (omega arith) (omega arith)

  settles : (program : Program) (attempt : ℕ) (a : AttemptModel) → attempt_at m attempt ≡ a → Moves m (event.Settle attempt) (settle_result program a m attempt).0 (settle_result program a m attempt).1
  settles program attempt (Ended plan reads) here = settles_ended attempt plan reads here (judged (is_closed m.status) (present program m) m.durable reads (verdict program plan (present program m)))
  settles program attempt _ here = stays m _ _ _ _ refl (λ txs. refl) refl refl (omega arith) (omega arith)

  reopens : (set : Setting) → IsNumbered set.program m → (r : Reply) (m' : WorldModel) → AllowsReopen set m r m' → Moves m event.Reopen r m'
  reopens set numbers (reply.Opened n) m' is =
      let from : m.durable ≤ n = ⊎_elim (λ (same : n ≡ m.durable). omega (arith, same)) (λ (same : n ≡ m.doubtful). omega (arith, same, numbers.durable)) is.0 in
      subst (Moves m event.Reopen (reply.Opened n)) (sym is.1.4) (record {
        opened = refl;
        committed = λ found count. take_behind found m.committed n (n - m.opened.count) (omega (arith, count, numbers.opened, from));
        acknowledged = omega arith;
        durable = from;
      })
  reopens set numbers (reply.Fault fault.Memory) m' is = stays m _ (reply.Fault fault.Memory) m' _ is (λ txs. refl) refl refl (omega arith) (omega arith)
  reopens set numbers (reply.Fault fault.Device) m' is = stays m _ (reply.Fault fault.Device) m' _ is (λ txs. refl) refl refl (omega arith) (omega arith)
  reopens set numbers (reply.Fault _) m' is = absurd is
  reopens set numbers _ m' is = absurd is

-- so it is of each event
pub moves : (set : Setting) (m : WorldModel) → IsNumbered set.program m → (e : Event) (r : Reply) (m' : WorldModel) → Allows set m e r m' → Moves m e r m'
moves set m numbers (event.Begin attempt tx) r m' is = with_core m _ m.status r m' _ (λ txs. refl) (begins m set attempt tx r m') is
moves set m numbers (event.Turn attempt) r m' is = with_core m _ m.status r m' _ (λ txs. refl) (turns m set.program (attempt_at m attempt) attempt r m') is
moves set m numbers (event.Settle attempt) r m' is =
    with_core m _ m.status r m' _ (λ txs. refl) (λ (so : (r, m') ≡ settle_result set.program (attempt_at m attempt) m attempt). subst (λ (x : Reply × WorldModel). Moves m (event.Settle attempt) x.0 x.1) (sym so) (settles m set.program attempt (attempt_at m attempt) refl)) is
moves set m numbers event.Flush r m' is = with_core m _ m.status r m' _ (λ txs. refl) (flushes m set.program set.slots m.status r m') is
moves set m numbers event.Checkpoint r m' is = with_core m _ m.status r m' _ (λ txs. refl) (checkpoints m m.status r m') is
moves set m numbers event.Look r m' is = with_core m _ m.status r m' _ (λ txs. refl) (unmoved m _ r (reply.Looked m.durable) m' (λ txs. refl) (omega arith)) is
moves set m numbers event.Reopen r m' is = reopens m set numbers r m' is

-- the run goes on with the next history
pub goes_on_next : (program : Program) (m : WorldModel) (e : Event) (r : Reply) (m' : WorldModel) → Moves m e r m' → (vars : ℕ) (h : ChainHistory) → GoesOn program vars h m → GoesOn program vars (history_after m e r m' h) m'
goes_on_next program m e r m' by vars h goes =
    let opened : m'.opened ≡ serial_state program (first_state vars) goes.found = by.opened ∙ goes.opened in
    let committed : committed_after m e r h.committed ≡ goes.found ++ m'.committed = ap (committed_after m e r) goes.committed ∙ by.committed goes.found (sym (count_found program vars h m goes)) in
    record {
      found = goes.found;
      each = goes.each;
      opened = opened;
      committed = committed;
      acknowledged = max-le (omega (arith, goes.acknowledged, by.durable)) by.acknowledged;
      durable = refl;
      doubtful = refl;
      present = ap (λ (s : State). serial_state program s m'.committed) opened ∙ sym (serial_state-append program (first_state vars) goes.found m'.committed) ∙ ap (serial_state program (first_state vars)) (sym committed);
    }
