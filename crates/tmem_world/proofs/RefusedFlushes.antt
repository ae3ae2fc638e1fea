-- What is kept where a flush was refused: the core is as it was, but that it may be shut.
use Rattle.std.proofs.Common.{◌≡◌, ℕ, Bool, List, length, refl, sym, ◌∙◌, ap, subst}
use Rattle.std.specs.Prelude.{Result, Err}
use Rattle.tmem_fault.specs.declared.fault.Fault.{Fault}
use Rattle.tmem_fault.specs.declared.fault.Fault.TheVariants as fault
use Rattle.tmem_effect.specs.State.{State, StaysWithin, fold}
use Rattle.tmem_effect.specs.declared.effect.Effect.{Effect}
use Rattle.tmem_core.specs.declared.core_state.Core.{Core}
use Rattle.tmem_core.specs.Held.{CoreView, core_view, core_state, core_table, waiting_of, durable_of}
use Rattle.tmem_record.specs.declared.layout.Layout.{Layout}
use Rattle.tmem_journal.specs.Held.{journal_state, journal_layout}
use Rattle.tmem_journal.specs.Journals.{Flushes}
use Rattle.tmem_journal.specs.declared.journal.Journal.{Journal}
use Rattle.tmem_world.specs.declared.core_and_journal.CoreAndJournal as core
use Rattle.tmem_world.specs.CoresAndJournals.{waiting_after}

-- the durable state stays
state_then : {D : Type 0} {d : _} (old new : Journal D d) (es : List Effect) (f : Fault) → Flushes old es (Err f) new → journal_state new ≡ journal_state old
state_then old new es fault.Device it = it.2.state
state_then old new es fault.Unknown it = it.1.state
state_then {D} {d} old new es fault.Closed it = subst (λ (j : Journal D d). journal_state j ≡ journal_state old) (sym it.1) refl
state_then {D} {d} old new es fault.LogFull it = subst (λ (j : Journal D d). journal_state j ≡ journal_state old) (sym it.2) refl
state_then old new es _ it = absurd it

module _ {D T : Type 0} {d t : _} (o : core.CoreAndJournal D T d t) (j : Journal D d) (es : List Effect) (x : Result ℕ Fault) (f : Fault) (is : x ≡ Err f) (flushed : Flushes o.journal es x j) (new : Core T t) (shut : Bool) (view : core_view new ≡ record (core_view o.core) { is_shut = shut }) where
  kept : journal_state j ≡ journal_state o.journal
  kept = state_then o.journal j es f (subst (λ (y : Result ℕ Fault). Flushes o.journal es y j) is flushed)

  waiting : waiting_of new ≡ waiting_of o.core
  waiting = ap (λ (v : CoreView T). v.waiting) view

  pub state_still : core_state new ≡ core_state o.core
  state_still = ap (λ (v : CoreView T). v.state) view

  pub table_still : core_table new ≡ core_table o.core
  table_still = ap (λ (v : CoreView T). v.table) view

  pub known_then : durable_of new ≡ (journal_state j).count
  known_then = ap (λ (v : CoreView T). v.durable) view ∙ o.known ∙ sym (ap (λ (s : State). s.count) kept)

  pub over_then : journal_layout j ≡ journal_layout o.journal → length (core_state new).values ≡ (journal_layout j).vars
  over_then layout = ap (λ (s : State). length s.values) state_still ∙ o.over ∙ ap (λ (l : Layout). l.vars) (sym layout)

  pub waits_then : fold (journal_state j) (waiting_of new) ≡ core_state new
  waits_then = ap (λ (a : State). fold a (waiting_of new)) kept ∙ ap (fold (journal_state o.journal)) waiting ∙ o.waits ∙ sym state_still

  pub within_then : StaysWithin (journal_state j) (waiting_of new)
  within_then = subst (StaysWithin (journal_state j)) (sym waiting) (subst (λ (s : State). StaysWithin s (waiting_of o.core)) (sym kept) o.within)

  pub waiting_then : (rest : List Effect) → waiting_of new ≡ waiting_after x (waiting_of o.core) rest
  waiting_then rest = waiting ∙ subst (λ (y : Result ℕ Fault). waiting_of o.core ≡ waiting_after y (waiting_of o.core) rest) (sym is) refl
