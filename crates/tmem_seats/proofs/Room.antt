-- What a crash leaves while room is made for a batch.
use Rattle.std.proofs.Common.{◌≡◌, inl, ⊎_elim, ℕ, ◌≤◌, false, List, Err, subst}
use Rattle.std.proofs.Math.Logic.{∥∥₁_map}
use Rattle.tmem_disk.specs.Disk.{DeviceView, AtEachMoment, Elapses}
use Rattle.tmem_disk.proofs.Laws.{AtEachMoment-more, either_time}
use Rattle.tmem_fault.specs.declared.fault.Fault.{Fault}
use Rattle.tmem_fault.specs.declared.fault.Fault.TheVariants as fault
use Rattle.tmem_effect.specs.State.{State}
use Rattle.tmem_effect.specs.declared.effect.Effect.{Effect}
use Rattle.tmem_journal.specs.declared.journal.Journal.{Journal}
use Rattle.tmem_journal.specs.Held.{journal_device, journal_layout, is_closed_of}
use Rattle.tmem_journal.specs.Journals.{Flushes}
use Rattle.tmem_journal.specs.Contents.{ContentRepresentsState, ContentRepresentsEither}

-- a content that represents a state represents it or for another
one_of_two : (vars slots : ℕ) (s t : State) (c : List ℕ) → ContentRepresentsState vars slots s c → ContentRepresentsEither vars slots s t c
one_of_two vars slots s t c stands = ∥∥₁_map stands (λ held. (held.0, inl held.1))

-- what held at each moment of one call and of the next held at each moment of both
pub both_times : (old mid new : DeviceView) (P Q : List ℕ → Type 0) → (new.keeps_model → mid.keeps_model) → (mid.keeps_model → old.moment ≤ mid.moment) → Elapses mid new Q
    → AtEachMoment old mid P → AtEachMoment mid new P → AtEachMoment old new P
both_times old mid new P Q model later time first second = record {
  each = λ keeps c left. ⊎_elim (λ was. first.each (model keeps) c was) (λ is. second.each keeps c is) (either_time old mid new Q model later time keeps c left);
}

-- over a journal whose log was full, a checkpoint leaves what is durable
pub while_room_is_made : {D : Type 0} {d : _} (s t u : State) (old mid new : Journal D d) → mid ≡ old → u ≡ s
    → AtEachMoment (journal_device mid) (journal_device new) (ContentRepresentsState (journal_layout mid).vars (journal_layout mid).slots u)
    → AtEachMoment (journal_device old) (journal_device new) (ContentRepresentsEither (journal_layout old).vars (journal_layout old).slots s t)
while_room_is_made s t u old mid new same is each =
    let here = subst (λ x. AtEachMoment (journal_device mid) (journal_device new) (ContentRepresentsState (journal_layout mid).vars (journal_layout mid).slots x)) is each in
    let there = subst (λ j. AtEachMoment (journal_device j) (journal_device new) (ContentRepresentsState (journal_layout j).vars (journal_layout j).slots s)) same here in
    AtEachMoment-more (journal_device old) (journal_device new) _ _ there (λ keeps c stands. one_of_two (journal_layout old).vars (journal_layout old).slots s t c stands)

-- a flush that found a full log left the journal as it was
pub was_full : {D : Type 0} {d : _} (old new : Journal D d) (es : List Effect) (f : Fault) → f ≡ fault.LogFull → Flushes old es (Err f) new → (is_closed_of old ≡ false) × (new ≡ old)
was_full old new es f is flushed = let it = subst (λ x. Flushes old es (Err x) new) is flushed in (it.0, it.2)
