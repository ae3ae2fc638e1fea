-- The effects that are taken together.
use Rattle.std.proofs.Common.{◌≡◌, ℕ, ◌+◌, ◌-◌, ◌<◌, ◌≤◌, inl, inr, ⊎_elim, List, [], ◌∷◌, ◌++◌, length, take, drop, Some, sym, ap, ◌∙◌, subst, arith}
use Rattle.std.specs.Prelude.{slice_get, All}
use Rattle.std.proofs.lemmas.List.Elements.{All-take}
use Rattle.std.proofs.lemmas.List.{drop-drop, length-drop, length-take-le, take-append-drop, take-take, take_more}
use Rattle.std.proofs.lemmas.List.Sums.{sum_by-take-le}
use Rattle.std.proofs.lemmas.Option.{get_or_from_slice_get, slice_get_within}
use Rattle.std.proofs.lemmas.Bool.{cases_lt}
use Rattle.tmem_state.specs.Batch.{record_length, records_length}
use Rattle.tmem_effect.specs.declared.effect.Effect.{Effect}
use Rattle.tmem_core.specs.Taking.{BatchHasRoom, IsTaken}

-- the first effects that wait, each of which had room
pub record IsTakenSoFar (waits taken : List Effect) : Type 0 where
  pub first : take (length taken) waits ≡ taken
  pub within : length taken ≤ length waits
  pub room : (i : ℕ) → i < length taken → BatchHasRoom (take i waits)

module _ (waits : List Effect) where
  -- where there is room for more, there was for fewer
  earlier : (i n : ℕ) → i ≤ n → n ≤ length waits → BatchHasRoom (take n waits) → BatchHasRoom (take i waits)
  earlier i n order within room =
      let fewer : records_length (take i waits) ≤ records_length (take n waits) = subst (λ (es : List Effect). records_length es ≤ records_length (take n waits)) (take-take i n waits order) (sum_by-take-le record_length (take n waits) i) in
      (omega (arith, order, within, room.0, length-take-le i waits, length-take-le n waits), omega (arith, fewer, room.1))

  module _ (taken : List Effect) (so_far : IsTakenSoFar waits taken) where
    -- one more
    pub taken_more : (e : Effect) → slice_get waits (length taken) ≡ Some e → BatchHasRoom taken → IsTakenSoFar waits (taken ++ e ∷ [])
    taken_more e there room =
        let below : length taken < length waits = slice_get_within waits (length taken) e there in
        let more : take (length taken + 1) waits ≡ taken ++ e ∷ [] =
        take_more waits (length taken) e below
        ∙ ap (λ x. take (length taken) waits ++ x ∷ []) (get_or_from_slice_get waits (length taken) e e there)
        ∙ ap (λ es. es ++ e ∷ []) so_far.first in
        let long : length (taken ++ e ∷ []) ≡ length taken + 1 = ap length (sym more) ∙ length-take-le (length taken + 1) waits (omega (arith, below)) in
        record {
          first = ap (λ (n : ℕ). take n waits) long ∙ more;
          within = omega (arith, long, below);
          room = λ i under. earlier i (length taken) (omega (arith, long, under)) so_far.within (subst BatchHasRoom (sym so_far.first) room);
        }

    -- each is one of those that wait
    pub each_taken : (P : Effect → Type 0) → All P waits → All P taken
    each_taken P each = subst (λ (es : List Effect). All P es) so_far.first (All-take P (length taken) waits each)

    -- they are no more than a batch has
    pub few_taken : length taken ≤ 64
    few_taken = ⊎_elim
        (λ none. omega (arith, none))
        (λ some. let before = (so_far.room (length taken - 1) (omega (arith, some))).0 in omega (arith, some, before, length-take-le (length taken - 1) waits (omega (arith, so_far.within))))
        (cases_lt (length taken) 1)

    -- nothing waits behind them
    pub taken_all : length waits ≤ length taken → IsTaken waits taken
    taken_all all = record { first = so_far.first; each = λ i below. (so_far.room i, λ room. omega (arith, below, all)) }

    -- there is no room for more
    pub taken_full : (BatchHasRoom taken → ⊥) → IsTaken waits taken
    taken_full full = record { first = so_far.first; each = λ i below. (so_far.room i, λ room. beneath i below room) } where
      beneath : (i : ℕ) → i < length waits → BatchHasRoom (take i waits) → i < length taken
      beneath i below room =
          elim (cases_lt i (length taken)) [
            | inl low ↦ low
            | inr high ↦ absurd (full (subst BatchHasRoom so_far.first (earlier (length taken) i high (omega (arith, below)) room)))
          ]

-- all that wait from an index on were taken
pub taken_to_end : (all taken : List Effect) (k at n : ℕ) → IsTakenSoFar (drop k all) taken → at ≡ k + length taken → n ≡ length all → n ≤ at → IsTaken (drop k all) taken
taken_to_end all taken k at n so_far here long end = taken_all (drop k all) taken so_far (omega (arith, here, long, end, length-drop k all))

-- what is left of a list behind those that were taken from an index on
pub rest_of : (all taken : List Effect) (k n : ℕ) → IsTaken (drop k all) taken → n ≡ k + length taken → drop k all ≡ taken ++ drop n all
rest_of all taken k n is same =
    sym (take-append-drop (length taken) (drop k all)) ∙ ap (λ es. es ++ drop (length taken) (drop k all)) is.first
    ∙ ap (λ es. taken ++ es) (drop-drop (length taken) k all ∙ ap (λ (m : ℕ). drop m all) (sym same))
