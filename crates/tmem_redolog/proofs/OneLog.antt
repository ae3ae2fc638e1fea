-- A content holds one log at the most over an image of one generation.
use Rattle.std.proofs.Common.{◌≡◌, inl, inr, ℕ, ◌+◌, ◌-◌, ◌<◌, ◌≤◌, ◌^◌, List, [], ◌∷◌, ◌++◌, length, take, drop, refl, sym, ◌∙◌, ap, subst, arith}
use Rattle.std.proofs.lemmas.List.{take-append-drop, take-take, take_at}
use Rattle.tmem_gate.specs.Gate.{IsOpenOver}
use Rattle.tmem_state.specs.Batch.{IsBatchIn}
use Rattle.tmem_record.specs.Layout.{slot_at}
use Rattle.tmem_effect.specs.Prefix.{IsPrefix}
use Rattle.tmem_record.specs.Spelling.{number_bytes, batch_bytes, SpellsBatch}
use Rattle.tmem_effect.specs.State.{State, fold}
use Rattle.tmem_effect.specs.declared.effect.Effect.{Effect}
use Rattle.tmem_state.specs.declared.version.Version.{Version}
use Rattle.tmem_effect.proofs.Laws.{count-fold, StaysWithin-first}
use Rattle.tmem_record.proofs.Laws.{one_spelling, delimits_number, length-number_bytes}
use Rattle.tmem_redolog.specs.Log.{HoldsBatch, HoldsBatches, HoldsLog, StaysWithin, IsClosedOrStale, replayed}
use Rattle.tmem_redolog.specs.Scans.{HoldsFrom}
use Rattle.tmem_redolog.specs.Laws.{OneLog}
use Rattle.tmem_redolog.proofs.Logs.{length-batch_bytes}

-- what stands behind an open gate begins what follows the gate
pub begins : (at : ℕ) (part c : List ℕ) → IsOpenOver at part c → IsPrefix part (drop (at + 1) c)
begins at part c cell =
    let n : at + 1 + length part - (at + 1) ≡ length part = omega arith in
    ap (λ (k : ℕ). take k (drop (at + 1) c)) (sym n) ∙ cell.body

-- the generation begins a batch
parts : (v : Version) (generation first : ℕ) (es : List Effect) → take 8 (batch_bytes v generation first es) ≡ number_bytes 8 generation
unfolding batch_bytes
parts v generation first es = take_at (number_bytes 8 generation) _ 8 (length-number_bytes 8 generation)

pub generation_first : (v : Version) (generation first : ℕ) (es : List Effect) (bytes : List ℕ) → IsPrefix (batch_bytes v generation first es) bytes → IsPrefix (number_bytes 8 generation) bytes
generation_first v generation first es bytes is =
    let whole = batch_bytes v generation first es in
    let long : 8 ≤ length whole = omega (arith, length-batch_bytes v generation first es) in
    ap (λ (n : ℕ). take n bytes) (length-number_bytes 8 generation) ∙ sym (take-take 8 (length whole) bytes long) ∙ ap (take 8) is ∙ parts v generation first es

-- the same bytes begin with one number
pub one_number : (x y : ℕ) (bytes : List ℕ) → x < 2 ^ 64 → y < 2 ^ 64 → IsPrefix (number_bytes 8 x) bytes → IsPrefix (number_bytes 8 y) bytes → x ≡ y
one_number x y bytes fits_x fits_y first second =
    let same : number_bytes 8 x ≡ number_bytes 8 y = sym first ∙ ap (λ (n : ℕ). take n bytes) (length-number_bytes 8 x ∙ sym (length-number_bytes 8 y)) ∙ second in
    (delimits_number 8 x y [] [] (omega (arith, fits_x)) (omega (arith, fits_y)) (ap (λ (l : List ℕ). l ++ []) same)).0

-- a slot of a generation is not stale
pub not_stale_number : (generation at : ℕ) (c : List ℕ) → generation < 2 ^ 64 → IsOpenOver at (number_bytes 8 generation) c → IsClosedOrStale generation at c → ⊥
not_stale_number generation at c fits cell (inl closed) = closed.not_open cell.gate
not_stale_number generation at c fits cell (inr it) =
    let same = one_number it.0 generation (drop (at + 1) c) (omega (arith, it.1, fits)) fits (begins at (number_bytes 8 it.0) c it.2) (begins at (number_bytes 8 generation) c cell) in
    omega (arith, same, it.1)

-- nor is one that begins with a batch of it
pub not_stale : (v : Version) (generation first at : ℕ) (es : List Effect) (c : List ℕ) → generation < 2 ^ 64 → IsOpenOver at (batch_bytes v generation first es) c → IsClosedOrStale generation at c → ⊥
not_stale v generation first at es c fits cell (inl closed) = closed.not_open cell.gate
not_stale v generation first at es c fits cell (inr it) =
    let bytes = drop (at + 1) c in
    let same = one_number it.0 generation bytes (omega (arith, it.1, fits)) fits (begins at (number_bytes 8 it.0) c it.2) (generation_first v generation first es bytes (begins at (batch_bytes v generation first es) c cell)) in
    omega (arith, same, it.1)

-- what begins with a batch spells it there
pub spells : (v : Version) (vars generation first : ℕ) (es : List Effect) (bytes : List ℕ) → generation < 2 ^ 64 → first < 2 ^ 64 → IsBatchIn v vars es → IsPrefix (batch_bytes v generation first es) bytes → SpellsBatch v vars generation first es (take (length (batch_bytes v generation first es)) bytes)
spells v vars generation first es bytes fits_g fits_f is begin = record { generation_fits = fits_g; first_fits = fits_f; batch = is; spelled = begin }

-- and it is the only one
pub one_batch : (v : Version) (vars generation generation' first first' n m : ℕ) (es es' : List Effect) (bytes : List ℕ) → vars ≤ 2 ^ 16 → SpellsBatch v vars generation first es (take n bytes) → SpellsBatch v vars generation' first' es' (take m bytes)
    → (generation ≡ generation') × (first ≡ first') × (es ≡ es')
one_batch v vars generation generation' first first' n m es es' bytes few one other =
    let same = one_spelling v vars generation generation' first first' es es' (take n bytes) (take m bytes) (drop n bytes) (drop m bytes) few one other (take-append-drop n bytes ∙ sym (take-append-drop m bytes)) in
    (same.2, same.3, same.4)

-- batches count on
pub count-le : (s : State) (batches : List (List Effect)) → s.count ≤ (replayed s batches).count
count-le s [] = omega arith
count-le s (es ∷ batches) = omega (arith, count-fold s es, count-le (fold s es) batches)

-- the log is what the slots from the first one on hold
pub from_first : {v : Version} {vars slots generation : ℕ} {image : State} {batches : List (List Effect)} {c : List ℕ} → HoldsLog v vars slots generation image batches c → HoldsFrom v vars slots generation 0 image batches c
from_first holds = record { fits = omega (arith, holds.fits); held = holds.held; behind = λ k above below. holds.behind k (omega arith) below; within = holds.within }

pub to_log : {v : Version} {vars slots generation : ℕ} {image : State} {batches : List (List Effect)} {c : List ℕ} → generation < 2 ^ 64 → HoldsFrom v vars slots generation 0 image batches c → HoldsLog v vars slots generation image batches c
to_log fits holds = record { generation_fits = fits; fits = omega (arith, holds.fits); held = holds.held; behind = λ k above below. holds.behind k (omega arith) below; within = holds.within }

-- the rest behind its first batch
pub behind_one : (v : Version) (vars slots generation slot : ℕ) (s : State) (es : List Effect) (rest : List (List Effect)) (c : List ℕ) → HoldsFrom v vars slots generation slot s (es ∷ rest) c → HoldsFrom v vars slots generation (slot + 1) (fold s es) rest c
behind_one v vars slots generation slot s es rest c holds = record {
  fits = omega (arith, holds.fits);
  held = subst (λ (n : ℕ). HoldsBatches v vars generation (slot + 1) n rest c) (sym (count-fold s es)) holds.held.1;
  behind = λ k above below. holds.behind k (omega arith) below;
  within = holds.within.1;
}

-- with a batch in front of it
pub one_more : (v : Version) (vars slots generation slot : ℕ) (s : State) (es : List Effect) (rest : List (List Effect)) (c : List ℕ) → HoldsBatch v vars generation slot s.count es c → StaysWithin s es → HoldsFrom v vars slots generation (slot + 1) (fold s es) rest c → HoldsFrom v vars slots generation slot s (es ∷ rest) c
one_more v vars slots generation slot s es rest c first stays holds = record {
  fits = omega (arith, holds.fits);
  held = (first, subst (λ (n : ℕ). HoldsBatches v vars generation (slot + 1) n rest c) (count-fold s es) holds.held);
  behind = λ k above below. holds.behind k (omega arith) below;
  within = (stays, holds.within);
}

module _ (v : Version) (vars slots generation : ℕ) (few : vars ≤ 2 ^ 16) (fits : generation < 2 ^ 64) (c : List ℕ) where
  -- the batch at the front of what the slots from one on hold
  pub first_spelled : (slot : ℕ) (s : State) (es : List Effect) (rest : List (List Effect)) → HoldsFrom v vars slots generation slot s (es ∷ rest) c
      → SpellsBatch v vars generation s.count es (take (length (batch_bytes v generation s.count es)) (drop (slot_at vars slot + 1) c))
  first_spelled slot s es rest holds =
      spells v vars generation s.count es (drop (slot_at vars slot + 1) c) fits ((StaysWithin-first s es holds.within.0).count) holds.held.0.batch (begins (slot_at vars slot) (batch_bytes v generation s.count es) c holds.held.0.cell)

  pub one_rest : (slot : ℕ) (s : State) (rest others : List (List Effect)) → HoldsFrom v vars slots generation slot s rest c → HoldsFrom v vars slots generation slot s others c → rest ≡ others
  one_rest slot s [] [] one other = refl
  one_rest slot s [] (es ∷ others) one other =
      absurd (not_stale v generation s.count (slot_at vars slot) es c fits other.held.0.cell (one.behind slot (omega arith) (omega (arith, other.fits))))
  one_rest slot s (es ∷ rest) [] one other =
      absurd (not_stale v generation s.count (slot_at vars slot) es c fits one.held.0.cell (other.behind slot (omega arith) (omega (arith, one.fits))))
  one_rest slot s (es ∷ rest) (fs ∷ others) one other =
      let same = (one_batch v vars generation generation s.count s.count _ _ es fs (drop (slot_at vars slot + 1) c) few (first_spelled slot s es rest one) (first_spelled slot s fs others other)).2 in
      let next = subst (λ (gs : List Effect). HoldsFrom v vars slots generation (slot + 1) (fold s gs) others c) (sym same) (behind_one v vars slots generation slot s fs others c other) in
      let more = one_rest (slot + 1) (fold s es) rest others (behind_one v vars slots generation slot s es rest c one) next in
      ap (λ (l : List (List Effect)). es ∷ l) more ∙ ap (λ (gs : List Effect). gs ∷ others) same

pub one_log : OneLog
one_log v vars slots generation image batches others c few one other = one_rest v vars slots generation few one.generation_fits c 0 image batches others (from_first one) (from_first other)
