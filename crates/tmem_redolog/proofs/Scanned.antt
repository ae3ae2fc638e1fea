-- What the slots of a log make of a state, one after another.
use Rattle.std.proofs.Common.{◌≡◌, inl, inr, ℕ, zero, suc, ◌+◌, ◌-◌, ◌*◌, ◌<◌, ◌≤◌, ◌^◌, List, [], ◌∷◌, length, take, drop, refl, sym, ◌∙◌, ap, subst, arith}
use Rattle.std.specs.Prelude.{slice_get, slice_range}
use Rattle.std.proofs.lemmas.List.{drop-take, take-take, drop-drop}
use Rattle.tmem_gate.specs.Gate.{IsOpenOver}
use Rattle.tmem_record.specs.Layout.{slot_at}
use Rattle.tmem_record.specs.Spelling.{number_bytes, batch_bytes}
use Rattle.tmem_effect.specs.State.{State, fold}
use Rattle.tmem_effect.specs.declared.effect.Effect.{Effect}
use Rattle.tmem_state.specs.declared.version.Version.{Version}
use Rattle.tmem_effect.proofs.Laws.{StaysWithin-first}
use Rattle.tmem_record.proofs.Laws.{length-number_bytes}
use Rattle.tmem_redolog.specs.Log.{HoldsBatch, HoldsLog, StaysWithin, IsClosedOrStale, IsWithin}
use Rattle.tmem_fault.specs.declared.fault.Fault.{Fault}
use Rattle.tmem_fault.specs.declared.fault.Fault.TheVariants as fault
use Rattle.tmem_redolog.specs.Scans.{IsWhyNone, FindsLog, IsLogOf, slot_bytes, HoldsFrom, Rests, Reached, Replays, MayReplay}
use Rattle.tmem_redolog.proofs.Logs.{length-batch_bytes-le}
use Rattle.tmem_redolog.proofs.OneLog.{begins, generation_first, not_stale, not_stale_number, one_batch, spells, first_spelled, from_first, to_log, behind_one, one_more}

-- a part of a part
pub part_of : (c : List ℕ) (a n x m : ℕ) → x + m ≤ n → slice_range (slice_range c a (a + n)) x (x + m) ≡ slice_range c (a + x) (a + x + m)
part_of c a n x m fits =
    let e1 : a + n - a ≡ n = omega arith in
    let e2 : x + m - x ≡ m = omega arith in
    let e3 : a + x + m - (a + x) ≡ m = omega arith in
    let e4 : n ≡ x + (n - x) = omega arith in
    let le : m ≤ n - x = omega arith in
    ap (λ (k : ℕ). take k (drop x (take (a + n - a) (drop a c)))) e2 ∙ ap (λ (k : ℕ). take m (drop x (take k (drop a c)))) (e1 ∙ e4) ∙ ap (take m) (drop-take x (n - x) (drop a c))
    ∙ take-take m (n - x) (drop x (drop a c)) le ∙ ap (take m) (drop-drop x a c) ∙ sym (ap (λ (k : ℕ). take k (drop (a + x) c)) e3)

get_front : (n : ℕ) (xs : List ℕ) → 1 ≤ n → slice_get (take n xs) 0 ≡ slice_get xs 0
get_front zero xs some = absurd (omega (arith, some))
get_front (suc n) [] some = refl
get_front (suc n) (x ∷ xs) some = refl

get_behind : (a : ℕ) (xs : List ℕ) → slice_get (drop a xs) 0 ≡ slice_get xs a
get_behind zero [] = refl
get_behind zero (x ∷ xs) = refl
get_behind (suc a) [] = refl
get_behind (suc a) (x ∷ xs) = get_behind a xs

-- one slot, in the bytes of all of them and in the content
module _ (vars slots : ℕ) (log c : List ℕ) (is : IsLogOf vars slots log c) (k : ℕ) (below : k < slots) where
  slot_is : slot_bytes log k ≡ slice_range c (slot_at vars k) (slot_at vars k + 4096)
  slot_is =
      let offset : slot_at vars 0 + 4096 * k ≡ slot_at vars k = omega arith in
      ap (λ (l : List ℕ). slice_range l (4096 * k) (4096 * k + 4096)) is.read ∙ part_of c (slot_at vars 0) (4096 * slots) (4096 * k) 4096 (omega (arith, below)) ∙ ap (λ (n : ℕ). slice_range c n (n + 4096)) offset

  gate_is : slice_get (slot_bytes log k) 0 ≡ slice_get c (slot_at vars k)
  gate_is =
      let some : 1 ≤ slot_at vars k + 4096 - slot_at vars k = omega arith in
      ap (λ (l : List ℕ). slice_get l 0) slot_is ∙ get_front (slot_at vars k + 4096 - slot_at vars k) (drop (slot_at vars k) c) some ∙ get_behind (slot_at vars k) c

  body_is : (n : ℕ) → n ≤ 4095 → slice_range (slot_bytes log k) (0 + 1) (0 + 1 + n) ≡ slice_range c (slot_at vars k + 1) (slot_at vars k + 1 + n)
  body_is n short = ap (λ (l : List ℕ). slice_range l 1 (1 + n)) slot_is ∙ part_of c (slot_at vars k) 4096 1 n (omega (arith, short))

  pub in_slot : (part : List ℕ) → length part ≤ 4095 → IsOpenOver (slot_at vars k) part c → IsOpenOver 0 part (slot_bytes log k)
  in_slot part short cell = record { gate = gate_is ∙ cell.gate; body = body_is (length part) short ∙ cell.body }

  pub in_content : (part : List ℕ) → length part ≤ 4095 → IsOpenOver 0 part (slot_bytes log k) → IsOpenOver (slot_at vars k) part c
  in_content part short cell = record { gate = sym gate_is ∙ cell.gate; body = sym (body_is (length part) short) ∙ cell.body }

  few_bytes : (g : ℕ) → length (number_bytes 8 g) ≤ 4095
  few_bytes g = omega (arith, length-number_bytes 8 g)

  pub stale_in_slot : (generation : ℕ) → IsClosedOrStale generation (slot_at vars k) c → IsClosedOrStale generation 0 (slot_bytes log k)
  stale_in_slot generation (inl shut) = inl (record { not_open = λ open_now. shut.not_open (sym gate_is ∙ open_now) })
  stale_in_slot generation (inr it) = inr (it.0, it.1, in_slot (number_bytes 8 it.0) (few_bytes it.0) it.2)

  pub stale_in_content : (generation : ℕ) → IsClosedOrStale generation 0 (slot_bytes log k) → IsClosedOrStale generation (slot_at vars k) c
  stale_in_content generation (inl shut) = inl (record { not_open = λ open_now. shut.not_open (gate_is ∙ open_now) })
  stale_in_content generation (inr it) = inr (it.0, it.1, in_content (number_bytes 8 it.0) (few_bytes it.0) it.2)

-- nothing is replayed yet
pub reached_first : (v : Version) (vars slots generation : ℕ) (image : State) (c : List ℕ) → Reached v vars slots generation image 0 image c
reached_first v vars slots generation image c = record {
  whole = λ rest holds. record { batches = rest; holds = holds; long = none (length rest); state = refl };
  rest = λ batches holds. record { rest = batches; holds = holds };
}
  where
    none : (n : ℕ) → n ≡ 0 + n
    none n = omega arith

module _ (v : Version) (vars slots generation : ℕ) (few : vars ≤ 2 ^ 16) (fits : generation < 2 ^ 64) (image : State) (c : List ℕ) where
  -- one batch more
  pub reached_next : (slot : ℕ) (s : State) (es : List Effect) → slot < slots → StaysWithin s es → HoldsBatch v vars generation slot s.count es c → Reached v vars slots generation image slot s c → Reached v vars slots generation image (slot + 1) (fold s es) c
  reached_next slot s es below stays held before = record {
    whole = λ rest holds.
        let joined = before.whole (es ∷ rest) (one_more v vars slots generation slot s es rest c held stays holds) in
        record { batches = joined.batches; holds = joined.holds; long = joined.long ∙ longer (length rest); state = joined.state };
    rest = λ batches holds. let left = before.rest batches holds in next left.rest left.holds;
  }
    where
      longer : (n : ℕ) → slot + suc n ≡ slot + 1 + n
      longer n = omega arith

      next : (rest : List (List Effect)) → HoldsFrom v vars slots generation slot s rest c → Rests v vars slots generation (slot + 1) (fold s es) c
      next [] holds = absurd (not_stale v generation s.count (slot_at vars slot) es c fits held.cell (holds.behind slot (omega arith) below))
      next (fs ∷ rest) holds =
          let bytes = drop (slot_at vars slot + 1) c in
          let mine = spells v vars generation s.count es bytes fits (StaysWithin-first s es stays).count held.batch (begins (slot_at vars slot) (batch_bytes v generation s.count es) c held.cell) in
          let same = (one_batch v vars generation generation s.count s.count (length (batch_bytes v generation s.count fs)) (length (batch_bytes v generation s.count es)) fs es bytes few (first_spelled v vars slots generation few fits c slot s fs rest holds) mine).2 in
          record { rest = rest; holds = subst (λ (gs : List Effect). HoldsFrom v vars slots generation (slot + 1) (fold s gs) rest c) same (behind_one v vars slots generation slot s fs rest c holds) }

  module _ (log : List ℕ) (is : IsLogOf vars slots log c) where
    -- a slot that was replayed
    pub reached_by : (slot : ℕ) (s t : State) → slot < slots → Replays v vars generation s (slot_bytes log slot) t → Reached v vars slots generation image slot s c → Reached v vars slots generation image (slot + 1) t c
    reached_by slot s t below replays before =
        let cell = in_content vars slots log c is slot below (batch_bytes v generation s.count replays.es) (length-batch_bytes-le v vars generation s.count replays.es replays.batch) replays.cell in
        subst (λ (u : State). Reached v vars slots generation image (slot + 1) u c) replays.state (reached_next slot s replays.es below replays.within (record { batch = replays.batch; cell = cell }) before)

    -- where an open slot of the generation cannot be replayed, there is no log
    pub none_replayed : (slot : ℕ) (s : State) → slot < slots → IsOpenOver 0 (number_bytes 8 generation) (slot_bytes log slot) → ((es : List Effect) → MayReplay v vars generation s (slot_bytes log slot) es → ⊥) → Reached v vars slots generation image slot s c
        → (batches : List (List Effect)) → HoldsFrom v vars slots generation 0 image batches c → ⊥
    none_replayed slot s below carries none before batches holds = let left = before.rest batches holds in by_rest left.rest left.holds
      where
        by_rest : (rest : List (List Effect)) → HoldsFrom v vars slots generation slot s rest c → ⊥
        by_rest [] left =
            let cell = in_content vars slots log c is slot below (number_bytes 8 generation) (omega (arith, length-number_bytes 8 generation)) carries in
            not_stale_number generation (slot_at vars slot) c fits cell (left.behind slot (omega arith) below)
        by_rest (es ∷ rest) left = none es (record {
          batch = left.held.0.batch;
          cell = in_slot vars slots log c is slot below (batch_bytes v generation s.count es) (length-batch_bytes-le v vars generation s.count es left.held.0.batch) left.held.0.cell;
          within = left.within.0;
        })

    -- behind the last slot of the generation there is no batch
    module _ (used : ℕ) (s : State) (few_used : used ≤ slots) (ends : used < slots → IsOpenOver 0 (number_bytes 8 generation) (slot_bytes log used) → ⊥) where
      no_batch : (rest : List (List Effect)) → HoldsFrom v vars slots generation used s rest c → rest ≡ []
      no_batch [] holds = refl
      no_batch (es ∷ rest) holds =
          let below : used < slots = omega (arith, holds.fits) in
          let cell = in_slot vars slots log c is used below (batch_bytes v generation s.count es) (length-batch_bytes-le v vars generation s.count es holds.held.0.batch) holds.held.0.cell in
          absurd (ends below (carried cell))
        where
          carried : IsOpenOver 0 (batch_bytes v generation s.count es) (slot_bytes log used) → IsOpenOver 0 (number_bytes 8 generation) (slot_bytes log used)
          carried cell =
              let n : 0 + 1 + length (number_bytes 8 generation) - (0 + 1) ≡ length (number_bytes 8 generation) = omega arith in
              record {
                gate = cell.gate;
                body = ap (λ (m : ℕ). take m (drop 1 (slot_bytes log used))) n ∙ generation_first v generation s.count es (drop 1 (slot_bytes log used)) (begins 0 (batch_bytes v generation s.count es) (slot_bytes log used) cell);
              }

      -- so the log ends there, where each slot behind is stale
      pub log_found : Reached v vars slots generation image used s c → IsWithin s → ((k : ℕ) → used ≤ k → k < slots → IsClosedOrStale generation 0 (slot_bytes log k)) → FindsLog v vars slots generation image used s c
      log_found before within stale =
          let ended : HoldsFrom v vars slots generation used s [] c = record {
            fits = omega (arith, few_used);
            held = tt;
            behind = λ k above below. stale_in_content vars slots log c is k below generation (stale k (omega (arith, above)) below);
            within = within;
          } in
          let joined = before.whole [] ended in
          record { batches = joined.batches; holds = to_log fits joined.holds; is_used = joined.long ∙ none; is_state = joined.state }
        where
          none : used + 0 ≡ used
          none = omega arith

      -- and there is none where one is not
      pub no_log : Reached v vars slots generation image used s c → (batches : List (List Effect)) → HoldsLog v vars slots generation image batches c → (k : ℕ) → used ≤ k → k < slots → IsClosedOrStale generation 0 (slot_bytes log k)
      no_log before batches holds k above below =
          let left = before.rest batches (from_first holds) in
          let empty : length left.rest ≡ 0 = ap length (no_batch left.rest left.holds) in
          stale_in_slot vars slots log c is k below generation (left.holds.behind k (omega (arith, empty, above)) below)

-- damage says why nothing was found where there is none
pub as_damaged : {P : Type 0} (f : Fault) → f ≡ fault.Damaged → P → IsWhyNone P f
as_damaged {P} f is none = subst (IsWhyNone P) (sym is) none

-- what was read of all slots
pub is_log : (vars slots at n : ℕ) (c items log : List ℕ) → at ≡ slot_at vars 0 → n ≡ 4096 * slots → items ≡ slice_range c at (at + n) → log ≡ items → IsLogOf vars slots log c
is_log vars slots at n c items log offset long read same = record { read = same ∙ read ∙ ap (λ (m : ℕ). slice_range c at (at + m)) long ∙ ap (λ (p : ℕ). slice_range c p (p + 4096 * slots)) offset }
