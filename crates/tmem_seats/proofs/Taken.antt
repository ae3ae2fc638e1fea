-- The batch that is taken from the core goes on from what is durable to what the journal aims at.
use Rattle.std.proofs.Common.{◌≡◌, All, ℕ, ◌+◌, ◌≤◌, ◌<◌, ◌^◌, List, ◌++◌, length, take, drop, sym, ap, ◌∙◌, subst, arith, length-append, append_assoc}
use Rattle.std.proofs.lemmas.List.{length-map, take-map, take_at, take-append-drop}
use Rattle.tmem_effect.specs.Loggable.{IsLoggable}
use Rattle.tmem_effect.specs.Prefix.{IsPrefix}
use Rattle.tmem_effect.specs.State.{State, StaysWithin}
use Rattle.tmem_effect.specs.declared.effect.Effect.{Effect}
use Rattle.tmem_effect.proofs.Laws.{StaysWithin-front, StaysWithin-back}
use Rattle.tmem_spine.specs.declared.view.MarkedEffect.{MarkedEffect}
use Rattle.tmem_spine.specs.History.{count, unmarked}
use Rattle.tmem_seats.specs.Flushing.{BatchGoesOn}

module _ (committed durable aimed : List MarkedEffect) (batch rest : List Effect) (begins : IsPrefix durable committed) (ahead : IsPrefix aimed committed)
    (long : length aimed ≡ length durable + length batch) (waits : drop (length durable) (unmarked committed) ≡ batch ++ rest) where
  plain_durable : take (length durable) (unmarked committed) ≡ unmarked durable
  plain_durable = take-map (λ (e : MarkedEffect). e.effect) (length durable) committed ∙ ap unmarked begins

  whole : unmarked committed ≡ (unmarked durable ++ batch) ++ rest
  whole = sym (take-append-drop (length durable) (unmarked committed))
      ∙ (ap (λ (l : List Effect). l ++ drop (length durable) (unmarked committed)) plain_durable
      ∙ (ap (λ (l : List Effect). unmarked durable ++ l) waits ∙ sym (append_assoc (unmarked durable) batch rest)))

  long_both : length (unmarked durable ++ batch) ≡ length aimed
  long_both = omega (arith, length-append (unmarked durable) batch, length-map durable (λ (e : MarkedEffect). e.effect), long)

  pub taken_more : unmarked aimed ≡ unmarked durable ++ batch
  taken_more = ap unmarked (sym ahead) ∙ (sym (take-map (λ (e : MarkedEffect). e.effect) (length aimed) committed)
      ∙ (ap (λ (l : List Effect). take (length aimed) l) whole ∙ take_at (unmarked durable ++ batch) rest (length aimed) long_both))

pub goes_on : (start : ℕ) (opening : State) (committed durable aimed : List MarkedEffect) (batch rest : List Effect) → IsPrefix durable committed → IsPrefix durable aimed → IsPrefix aimed committed
    → length aimed ≡ length durable + length batch → drop (length durable) (unmarked committed) ≡ batch ++ rest → length batch ≤ 64 → All (IsLoggable (length opening.values)) batch
    → count start aimed < 2 ^ 64 → StaysWithin opening (unmarked committed) → BatchGoesOn start opening durable batch aimed
goes_on start opening committed durable aimed batch rest within begins ahead long waits few each countable stays = record {
  begins = begins;
  more = taken_more committed durable aimed batch rest within ahead long waits;
  few = few;
  each = each;
  countable = countable;
  room = StaysWithin-back opening (unmarked durable) batch (StaysWithin-front opening (unmarked durable ++ batch) rest
      (subst (StaysWithin opening) (whole committed durable aimed batch rest within ahead long waits) stays));
}
