-- The oldest effects that wait, as a batch.
use Rattle.std.proofs.Common.{◌≡◌, inr, false, ℕ, ℤ, ◌+◌, ◌-◌, ◌≤◌, ◌<◌, List, [], ◌++◌, length, drop, sym, ◌∙◌, ap, subst, arith}
use Rattle.std.specs.Prelude.{Result, All}
use Rattle.std.proofs.lemmas.List.{nil_from_length}
use Rattle.std.proofs.lemmas.List.Elements.{All-weaker}
use Rattle.tmem_fault.specs.declared.fault.Fault.{Fault}
use Rattle.tmem_core.specs.declared.core_state.Core.{Core}
use Rattle.tmem_core.specs.Held.{core_state, waiting_of, durable_of, is_shut_of}
use Rattle.tmem_core.specs.Taking.{IsTaken}
use Rattle.tmem_journal.specs.Held as journal
use Rattle.tmem_journal.specs.Journals as journals
use Rattle.tmem_world.specs.declared.core_and_journal.CoreAndJournal as core
use Rattle.tmem_world.specs.CoresAndJournals.{FlushesBoth, waiting_after}
use Rattle.tmem_effect.specs.Loggable.{IsLoggable}
use Rattle.tmem_effect.specs.State.{StaysWithin, fold}
use Rattle.tmem_effect.specs.declared.effect.Effect.{Effect}
use Rattle.tmem_effect.proofs.Laws.{fold-append, count-fold, StaysWithin-front, StaysWithin-back}

-- each writes variables that are there
pub loggable_within : (vars n : ℕ) (es : List Effect) → vars ≡ n → All (IsLoggable vars) es → All (λ (e : Effect). All (λ (w : ℕ × ℤ). w.0 < n) e.writes) es
loggable_within vars n es same each =
    subst (λ (k : ℕ). All (λ (e : Effect). All (λ (w : ℕ × ℤ). w.0 < k) e.writes) es) same (All-weaker (IsLoggable vars) (λ e. All (λ (w : ℕ × ℤ). w.0 < vars) e.writes) (λ e is. is.effect.within) es each)

-- nothing waits where all that is committed is durable, and else something does
module _ {T : Type 0} {t : _} (core : Core T t) (durable count : ℕ) (known : durable ≡ durable_of core) (committed : count ≡ (core_state core).count) where
  pub nothing_waits : durable ≡ count → waiting_of core ≡ []
  nothing_waits all = nil_from_length (waiting_of core) (omega (arith, core.counted))

  pub some_wait : ¬ (durable ≡ count) → durable < (core_state core).count
  some_wait not_all = omega (arith, core.counted, not_all)

-- these were taken of what waits, from the durable number on
module _ {D T : Type 0} {d t : _} (o : core.CoreAndJournal D T d t) (from : ℕ) (is : from ≡ durable_of o.core) (es : List Effect) (taken : drop (from - durable_of o.core) (waiting_of o.core) ≡ es ++ drop (from + length es - durable_of o.core) (waiting_of o.core)) where
  none : from - durable_of o.core ≡ 0
  none = omega (arith, is)

  so_many : from + length es - durable_of o.core ≡ length es
  so_many = omega (arith, is)

  pub waited : waiting_of o.core ≡ es ++ drop (length es) (waiting_of o.core)
  waited = sym (ap (λ (k : ℕ). drop k (waiting_of o.core)) none) ∙ taken ∙ ap (λ (k : ℕ). es ++ drop k (waiting_of o.core)) so_many

  -- the state after all that waits is the core's
  whole : fold (journal.journal_state o.journal) (es ++ drop (length es) (waiting_of o.core)) ≡ core_state o.core
  whole = ap (fold (journal.journal_state o.journal)) (sym waited) ∙ o.waits

  -- the states up to that after the batch are within the limits, and so are those behind it
  within_all : StaysWithin (journal.journal_state o.journal) (es ++ drop (length es) (waiting_of o.core))
  within_all = subst (StaysWithin (journal.journal_state o.journal)) waited o.within

  pub within_taken : StaysWithin (journal.journal_state o.journal) es
  within_taken = StaysWithin-front (journal.journal_state o.journal) es (drop (length es) (waiting_of o.core)) within_all

  pub within_rest : StaysWithin (fold (journal.journal_state o.journal) es) (drop (length es) (waiting_of o.core))
  within_rest = StaysWithin-back (journal.journal_state o.journal) es (drop (length es) (waiting_of o.core)) within_all

  -- the rest goes on from the state after the batch
  pub rest_waits : fold (fold (journal.journal_state o.journal) es) (drop (length es) (waiting_of o.core)) ≡ core_state o.core
  rest_waits = sym (fold-append (journal.journal_state o.journal) es (drop (length es) (waiting_of o.core))) ∙ whole

  -- the number behind the batch
  pub number_taken : (fold (journal.journal_state o.journal) es).count ≡ durable_of o.core + length es
  number_taken = omega (arith, count-fold (journal.journal_state o.journal) es, o.known)

  -- what waits behind that number
  pub behind : (n : ℕ) → n ≡ (fold (journal.journal_state o.journal) es).count → drop (n - durable_of o.core) (waiting_of o.core) ≡ drop (length es) (waiting_of o.core)
  behind n same =
      let more : n - durable_of o.core ≡ length es = omega (arith, same, number_taken) in
      ap (λ (k : ℕ). drop k (waiting_of o.core)) more

  -- the journal answered so, and what waits is what an answer leaves
  pub handed : (new : core.CoreAndJournal D T d t) (answer : Result ℕ Fault) → is_shut_of o.core ≡ false → 1 ≤ length es → length es ≤ 64 → IsTaken (drop (from - durable_of o.core) (waiting_of o.core)) es
      → journals.Flushes o.journal es answer new.journal → waiting_of new.core ≡ waiting_after answer (waiting_of o.core) (drop (length es) (waiting_of o.core)) → FlushesBoth o answer new
  handed new answer running some few first flushed waits = inr (inr (record {
    oldest = es;
    rest = drop (length es) (waiting_of o.core);
    running = running;
    waited = waited;
    some = some;
    few = few;
    taken = subst (λ (k : ℕ). IsTaken (drop k (waiting_of o.core)) es) none first;
    journal = flushed;
    waits = waits;
  }))
