-- Where a run begins.
use Rattle.std.proofs.Common.{◌≡◌, ℕ, ◌-◌, List, [], length, refl, sym, ◌∙◌, ap, subst, arith, drop, take, zero, suc}
use Rattle.std.specs.Prelude.{All, None}
use Rattle.tmem_effect.specs.State.{State}
use Rattle.tmem_effect.specs.declared.effect.Effect.{Effect}
use Rattle.tmem_tree.specs.declared.tx.Tx.{Tx}
use Rattle.tmem_invariants.specs.Meanings.{Meanings, IsSound}
use Rattle.tmem_core.specs.Program.{Program, IsProgramOf}
use Rattle.tmem_core.specs.Held.{core_state, waiting_of, durable_of, is_shut_of}
use Rattle.tmem_core.specs.Verdict.{serial_state, serial_effects}
use Rattle.tmem_core.specs.declared.core_state.Core.{Core}
use Rattle.tmem_journal.specs.Held as journal
use Rattle.tmem_journal.specs.declared.journal.Journal.{Journal}
use Rattle.tmem_opening.specs.Held.{found_of, opening_position, opening_device}
use Rattle.tmem_opening.specs.declared.opening.Opening.{Opening}
use Rattle.tmem_world.specs.declared.attempt.WorldAttempt.{WorldAttempt}
use Rattle.tmem_world.specs.declared.core_and_journal.CoreAndJournal.{CoreAndJournal}
use Rattle.tmem_world.specs.declared.held.Held.TheVariants.{With}
use Rattle.tmem_world.specs.declared.world.World.{World}
use Rattle.tmem_world.specs.WorldModel.{WorldModel, Open, opening, cut, present}
use Rattle.tmem_world.specs.Represents.{Represents, BothAre, held_of, core_status}
use Rattle.tmem_world.proofs.DroppedPoints.{no_attempts_held}
use Rattle.tmem_world.proofs.Points.{in_point}

abbrev none_of : (A : Type 0) → List A
none_of A = []

nothing_taken : (n : ℕ) → take n (none_of Tx) ≡ none_of Tx
nothing_taken zero = refl
nothing_taken (suc n) = refl

nothing_behind : (n : ℕ) → none_of Effect ≡ drop n (none_of Effect)
nothing_behind zero = refl
nothing_behind (suc n) = refl

module _ {D T : Type 0} {d t : _} (program : Program) (x : Opening D T d t) (o : CoreAndJournal D T d t) (same : o.core ≡ x.core) (kept : o.journal ≡ x.journal) where
  -- a core and a journal that were just opened are at the point of a run whose order ends with what was found
  pub begun : (m : WorldModel) → found_of x ≡ present program m → (found_of x).count ≡ m.durable → none_of Effect ≡ drop (m.durable - m.opened.count) (serial_effects program m.opened m.committed)
      → found_of x ≡ cut program m m.durable → m.doubtful ≡ m.durable → opening_position x ≡ m.position → m.status ≡ Open → BothAre program o m
  begun m now counted none durable certain position stands = record {
    state = ap (λ (c : Core T t). core_state c) same ∙ now;
    number = ap (λ (c : Core T t). durable_of c) same ∙ x.known ∙ counted;
    waiting = ap (λ (c : Core T t). waiting_of c) same ∙ x.waits ∙ none;
    durable = ap (λ (j : Journal D d). journal.journal_state j) kept ∙ sym x.found ∙ durable;
    doubtful = ap (λ (j : Journal D d). journal.doubtful_of j) kept ∙ x.sure ∙ sym x.found ∙ durable ∙ ap (cut program m) (sym certain);
    position = ap (λ (j : Journal D d). journal.journal_position j) kept ∙ position;
    status = stands ∙ ap core_status (sym (ap (λ (c : Core T t). is_shut_of c) same ∙ x.running));
    certain = λ yes. certain;
  }

  module _ {S : Type 0} {z : _} (w : World D T S d t z) (some : held_of w ≡ With o) (sized : length w.attempts.items ≡ 16) (emptied : All (λ (s : WorldAttempt). s.plan ≡ None) w.attempts.items)
      (failures : ℕ) (counted : (opening_device x).failures ≡ failures) (table : T) (finds : (tests : Meanings) → t.is_stated table tests → IsSound tests (t.names table) (found_of x).names (found_of x).values) (means : IsProgramOf t table program) where
    abbrev first : WorldModel
    first = opening (found_of x) (opening_position x) failures

    cut_at : (n : ℕ) → found_of x ≡ cut program first n
    cut_at n = ap (serial_state program (found_of x)) (sym (nothing_taken (n - (found_of x).count)))

    sound : IsSound program.tests program.names (found_of x).names (found_of x).values
    sound = subst (λ (names : List (List ℕ)). IsSound program.tests names (found_of x).names (found_of x).values) (sym means.names) (finds program.tests means.tests)

    -- a world that was just opened is where a run begins
    pub opens : Represents program w first
    opens = in_point program w first o some (begun first refl refl (nothing_behind ((found_of x).count - (found_of x).count)) (cut_at (found_of x).count) refl refl refl)
        (record { opened = omega arith; durable = omega arith; doubtful = omega arith; each = tt; sound = λ n from to. subst (λ (s : State). IsSound program.tests program.names s.names s.values) (cut_at n) sound })
        (no_attempts_held program w.attempts.items sized emptied) (ap (λ (j : Journal D d). (journal.journal_device j).failures) kept ∙ counted)
