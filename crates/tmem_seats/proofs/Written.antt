-- The journal stays what its seat says, after it was told to write a batch.
use Rattle.std.proofs.Common.{◌≡◌, ◌⊎◌, inl, inr, ⊎_elim, ℕ, ◌+◌, true, false, List, ◌++◌, length, refl, sym, ap, ◌∙◌, subst, arith, Result, Ok, Err, is_ok, IfOk, length-append}
use Rattle.std.proofs.Props.{props}
use Rattle.std.proofs.lemmas.List.{length-map}
use Rattle.std.proofs.Math.Logic.{∥∥₁_elim, ∥∥₁_prop}
use Rattle.tmem_disk.specs.Disk.{AtEachMoment}
use Rattle.tmem_fault.specs.declared.fault.Fault.{Fault}
use Rattle.tmem_fault.specs.declared.fault.Fault.TheVariants as fault
use Rattle.tmem_effect.specs.State.{State, fold}
use Rattle.tmem_effect.specs.declared.effect.Effect.{Effect}
use Rattle.tmem_effect.proofs.Laws.{fold-append}
use Rattle.tmem_journal.specs.declared.journal.Journal.{Journal}
use Rattle.tmem_journal.specs.Held.{journal_device, journal_layout, journal_state, doubtful_of, MayBe}
use Rattle.tmem_journal.specs.Journals.{Flushes}
use Rattle.tmem_journal.specs.Contents.{ContentRepresentsEither}
use Rattle.tmem_spine.specs.declared.view.MarkedEffect.{MarkedEffect}
use Rattle.tmem_spine.specs.History.{unmarked}
use Rattle.tmem_seats.specs.Flushing.{BatchGoesOn}
use Rattle.tmem_seats.specs.Histories.{state_after_history}
use Rattle.tmem_seats.proofs.Leaves.{either_all}

-- the state after what the journal aims at
pub aimed_state : (start : ℕ) (opening : State) (durable aimed : List MarkedEffect) (batch : List Effect) → BatchGoesOn start opening durable batch aimed → fold (state_after_history opening durable) batch ≡ state_after_history opening aimed
aimed_state start opening durable aimed batch goes = sym (fold-append opening (unmarked durable) batch) ∙ ap (λ (l : List Effect). fold opening l) (sym goes.more)

-- what a batch that was written leaves: the state, and what is in doubt
pub record Leaves {D : Type 0} {d : _} (opening : State) (durable aimed : List MarkedEffect) (j : Journal D d) : Type 0 where
  pub state : journal_state j ≡ state_after_history opening durable
  pub doubt : (doubtful_of j ≡ state_after_history opening durable) ⊎ (doubtful_of j ≡ state_after_history opening aimed)

module _ {D : Type 0} {d : _} (start : ℕ) (opening : State) (durable aimed : List MarkedEffect) (batch : List Effect) (goes : BatchGoesOn start opening durable batch aimed) (old new : Journal D d)
    (was : journal_state old ≡ state_after_history opening durable) where
  more : fold (journal_state old) batch ≡ state_after_history opening aimed
  more = ap (λ (s : State). fold s batch) was ∙ aimed_state start opening durable aimed batch goes

  pub written_ok : (r : Result ℕ Fault) → is_ok r ≡ true → Flushes old batch r new → Leaves opening aimed aimed new
  written_ok (Ok n) ok f = record { state = f.2.state ∙ more; doubt = inl (f.2.doubtful ∙ more) }
  written_ok (Err e) ok f = absurd (cc ok)

  pub written_number : (r : Result ℕ Fault) (n : ℕ) → r ≡ Ok n → Flushes old batch r new → n ≡ (state_after_history opening aimed).count
  written_number (Ok k) n is f = let same : k ≡ n = cc is in sym same ∙ (f.1 ∙ ap (λ (s : State). s.count) more)
  written_number (Err e) n is f = absurd (cc is)

  pub written_err : (r : Result ℕ Fault) → is_ok r ≡ false → (doubtful_of old ≡ state_after_history opening durable) ⊎ (doubtful_of old ≡ state_after_history opening aimed) → Flushes old batch r new → Leaves opening durable aimed new
  written_err (Ok n) err doubt f = absurd (cc err)
  written_err (Err fault.Device) err doubt f = record { state = f.2.state ∙ was; doubt = inl (f.2.doubtful ∙ was) }
  written_err (Err fault.Unknown) err doubt f = record { state = f.1.state ∙ was; doubt = inr (f.1.doubtful ∙ more) }
  written_err (Err fault.Closed) err doubt f = same_journal (f.1) was doubt
    where
      same_journal : new ≡ old → journal_state old ≡ state_after_history opening durable → (doubtful_of old ≡ state_after_history opening durable) ⊎ (doubtful_of old ≡ state_after_history opening aimed) → Leaves opening durable aimed new
      same_journal is s t = subst (λ (j : Journal D d). Leaves opening durable aimed j) (sym is) (record { state = s; doubt = t })
  written_err (Err fault.LogFull) err doubt f = subst (λ (j : Journal D d). Leaves opening durable aimed j) (sym f.2) (record { state = was; doubt = doubt })
  written_err (Err e) err doubt f = absurd f

-- a crash at any moment of the call leaves one of the two states
pub moments : {D : Type 0} {d : _} (opening : State) (durable aimed end : List MarkedEffect) (old new : Journal D d) → ∥ Leaves opening durable aimed old ∥₁ → ∥ Leaves opening end aimed new ∥₁ → (end ≡ durable) ⊎ (end ≡ aimed)
    → journal_layout new ≡ journal_layout old → AtEachMoment (journal_device old) (journal_device new) (λ c. ∥ MayBe old c ⊎ MayBe new c ∥₁)
    → AtEachMoment (journal_device old) (journal_device new) (ContentRepresentsEither (journal_layout old).vars (journal_layout old).slots (state_after_history opening durable) (state_after_history opening aimed))
moments opening durable aimed end old new was is which same each = record {
  each = λ keeps c left. ∥∥₁_elim (each.each keeps c left) ∥∥₁_prop (⊎_elim
      (λ (m : MayBe old c). ∥∥₁_elim was ∥∥₁_prop (λ w. either_all (journal_layout old).vars (journal_layout old).slots (journal_state old) (doubtful_of old) (state_after_history opening durable) (state_after_history opening aimed) c (inl w.state) w.doubt m))
      (λ (m : MayBe new c). ∥∥₁_elim is ∥∥₁_prop (λ w. either_all (journal_layout old).vars (journal_layout old).slots (journal_state new) (doubtful_of new) (state_after_history opening durable) (state_after_history opening aimed) c (to w.state) (⊎_elim (λ e. to e) (λ e. inr e) w.doubt)
      (subst (λ l. ContentRepresentsEither l.vars l.slots (journal_state new) (doubtful_of new) c) same m))));
}
  where
    to : {s : State} → s ≡ state_after_history opening end → (s ≡ state_after_history opening durable) ⊎ (s ≡ state_after_history opening aimed)
    to e = ⊎_elim (λ (w : end ≡ durable). inl (e ∙ ap (λ (l : List MarkedEffect). state_after_history opening l) w)) (λ (w : end ≡ aimed). inr (e ∙ ap (λ (l : List MarkedEffect). state_after_history opening l) w)) which

pub long_aimed : (durable aimed : List MarkedEffect) (batch : List Effect) → unmarked aimed ≡ unmarked durable ++ batch → length durable + length batch ≡ length aimed
long_aimed durable aimed batch is =
    omega (arith, ap length is, length-append (unmarked durable) batch, length-map durable (λ (e : MarkedEffect). e.effect), length-map aimed (λ (e : MarkedEffect). e.effect))

pub both : {x a : State} → (x ≡ a) ⊎ (x ≡ a) → x ≡ a
both which = ⊎_elim (λ e. e) (λ e. e) which

pub state_left : {D : Type 0} {d : _} {opening : State} {durable aimed : List MarkedEffect} {j : Journal D d} → ∥ Leaves opening durable aimed j ∥₁ → journal_state j ≡ state_after_history opening durable
state_left left = ∥∥₁_elim left (hlevel props) (λ l. l.state)

pub ok_number : (r : Result ℕ Fault) (P : ℕ → Type 0) → ((n : ℕ) → r ≡ Ok n → P n) → IfOk r P
ok_number (Ok n) P f = f n refl
ok_number (Err e) P f = tt
