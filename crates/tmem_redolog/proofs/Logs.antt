-- Laws of logs: what they hold, how they grow, and what stays of them outside a range that is written over.
use Rattle.std.proofs.Common.{◌≡◌, ◌⊎◌, inl, inr, ⊎_elim, ℕ, suc, ◌+◌, ◌<◌, ◌≤◌, List, [], ◌∷◌, ◌++◌, length, flat_map, refl, sym, ◌∙◌, ap, subst, arith, length-append}
use Rattle.std.proofs.lemmas.Bool.{cases_lt}
use Rattle.tmem_disk.proofs.Laws.{SameOutside-wider}
use Rattle.tmem_disk.specs.Disk.{SameOutside}
use Rattle.tmem_gate.specs.Cells.{LeftClosed, LeftOpen}
use Rattle.tmem_gate.specs.Gate.{IsClosed}
use Rattle.tmem_gate.proofs.Laws.{closed_after, open_before, open_after}
use Rattle.tmem_state.specs.Batch.{records_length_in, IsBatchIn}
use Rattle.tmem_record.specs.Layout.{slot_at}
use Rattle.tmem_record.specs.Spelling.{number_bytes, record_bytes, batch_bytes}
use Rattle.tmem_effect.specs.State.{State, fold}
use Rattle.tmem_effect.specs.declared.effect.Effect.{Effect}
use Rattle.tmem_state.specs.declared.version.Version.{Version}
use Rattle.tmem_state.specs.declared.version.Version.TheVariants.{Two}
use Rattle.tmem_effect.proofs.Laws.{count-fold, StaysWithin-first, StaysWithin-last}
use Rattle.tmem_record.proofs.Laws.{length-number_bytes, length-records}
use Rattle.tmem_redolog.specs.Log.{HoldsBatch, HoldsBatches, LogWithin, StaysWithin, IsClosedOrStale, IsWithin, replayed}
use Rattle.tmem_redolog.specs.Appends.{BatchPlaced, WithoutBatch, WithBatch}

-- how many bytes a batch has
pub length-batch_bytes : (v : Version) (generation first : ℕ) (es : List Effect) → length (batch_bytes v generation first es) ≡ 18 + records_length_in v es
unfolding batch_bytes
length-batch_bytes v generation first es =
    omega (arith, length-append (number_bytes 8 generation) behind_8, length-append (number_bytes 8 first) behind_16, length-append (number_bytes 2 (length es)) (flat_map (record_bytes v) es), length-number_bytes 8 generation, length-number_bytes 8 first, length-number_bytes 2 (length es), length-records v es)
  where
    behind_16 : List ℕ
    behind_16 = number_bytes 2 (length es) ++ flat_map (record_bytes v) es

    behind_8 : List ℕ
    behind_8 = number_bytes 8 first ++ behind_16

-- it fits behind the gate of a slot
pub length-batch_bytes-le : (v : Version) (vars generation first : ℕ) (es : List Effect) → IsBatchIn v vars es → length (batch_bytes v generation first es) ≤ 4095
length-batch_bytes-le v vars generation first es is = omega (arith, length-batch_bytes v generation first es, is.fits)

-- the number behind those of these batches
abbrev pub next_number : ℕ → List (List Effect) → ℕ
next_number first [] = first
next_number first (es ∷ batches) = next_number (first + length es) batches

pub count-replayed : (s : State) (batches : List (List Effect)) → (replayed s batches).count ≡ next_number s.count batches
count-replayed s [] = refl
count-replayed s (es ∷ batches) = count-replayed (fold s es) batches ∙ ap (λ (n : ℕ). next_number n batches) (count-fold s es)

-- one batch more
pub replayed-push : (s : State) (batches : List (List Effect)) (es : List Effect) → replayed s (batches ++ es ∷ []) ≡ fold (replayed s batches) es
replayed-push s [] es = refl
replayed-push s (b ∷ batches) es = replayed-push (fold s b) batches es

-- within the limits before it and after each of its records
pub LogWithin-first : (s : State) (batches : List (List Effect)) → LogWithin s batches → IsWithin s
LogWithin-first s [] within = within
LogWithin-first s (es ∷ batches) within = StaysWithin-first s es within.0

pub LogWithin-last : (s : State) (batches : List (List Effect)) → LogWithin s batches → IsWithin (replayed s batches)
LogWithin-last s [] within = within
LogWithin-last s (es ∷ batches) within = LogWithin-last (fold s es) batches within.1

pub LogWithin-push : (s : State) (batches : List (List Effect)) (es : List Effect) → LogWithin s batches → StaysWithin (replayed s batches) es → LogWithin s (batches ++ es ∷ [])
LogWithin-push s [] es within stays = (stays, StaysWithin-last s es stays)
LogWithin-push s (b ∷ batches) es within stays = (within.0, LogWithin-push (fold s b) batches es within.1 stays)

pub HoldsBatches-push : (v : Version) (vars generation slot first : ℕ) (batches : List (List Effect)) (es : List Effect) (c : List ℕ) → HoldsBatches v vars generation slot first batches c
    → HoldsBatch v vars generation (slot + length batches) (next_number first batches) es c → HoldsBatches v vars generation slot first (batches ++ es ∷ []) c
HoldsBatches-push v vars generation slot first [] es c held last = (subst (λ (k : ℕ). HoldsBatch v vars generation k first es c) none last, tt)
  where
    none : slot + 0 ≡ slot
    none = omega arith
HoldsBatches-push v vars generation slot first (b ∷ batches) es c held last =
    (held.0, HoldsBatches-push v vars generation (slot + 1) (first + length b) batches es c held.1 (subst (λ (k : ℕ). HoldsBatch v vars generation k (next_number (first + length b) batches) es c) one last))
  where
    one : slot + suc (length batches) ≡ slot + 1 + length batches
    one = omega arith

-- batches in front of what is written stay
pub held_before : (vars used n : ℕ) (b c : List ℕ) → SameOutside (slot_at vars used) n b c → (v : Version) (generation slot first : ℕ) (batches : List (List Effect)) → slot + length batches ≤ used
    → HoldsBatches v vars generation slot first batches b → HoldsBatches v vars generation slot first batches c
held_before vars used n b c same v generation slot first [] fits held = tt
held_before vars used n b c same v generation slot first (es ∷ batches) fits held =
    let short = length-batch_bytes-le v vars generation first es held.0.batch in
    let offset : slot_at vars slot + 1 + length (batch_bytes v generation first es) ≤ slot_at vars used = omega (arith, short, fits) in (
      record { batch = held.0.batch; cell = open_before (slot_at vars used) n (slot_at vars slot) (batch_bytes v generation first es) b c same offset held.0.cell },
      held_before vars used n b c same v generation (slot + 1) (first + length es) batches (omega arith) held.1,
    )

-- and so does each slot behind the one that is written
module _ (vars used : ℕ) (b c : List ℕ) (same : SameOutside (slot_at vars used) 4096 b c) where
  pub stale_behind : (generation k : ℕ) → used < k → IsClosedOrStale generation (slot_at vars k) b → IsClosedOrStale generation (slot_at vars k) c
  stale_behind generation k above stale =
      let offset : slot_at vars used + 4096 ≤ slot_at vars k = omega arith in
      ⊎_elim
      (λ closed. inl (closed_after (slot_at vars used) 4096 (slot_at vars k) b c same offset closed))
      (λ it. inr (it.0, it.1, open_after (slot_at vars used) 4096 (slot_at vars k) (number_bytes 8 it.0) b c same offset it.2))
      stale

  pub closed_behind : (k : ℕ) → used < k → IsClosed (slot_at vars k) b → IsClosed (slot_at vars k) c
  closed_behind k above closed =
      let offset : slot_at vars used + 4096 ≤ slot_at vars k = omega arith in
      closed_after (slot_at vars used) 4096 (slot_at vars k) b c same offset closed

here_or_behind : (used k : ℕ) → used ≤ k → (used ≡ k) ⊎ (used < k)
here_or_behind used k le = ⊎_elim (λ below. inr below) (λ not_below. inl (omega (arith, not_below))) (cases_lt used k)

-- a closed slot behind the log adds nothing to it
pub without : (p : BatchPlaced) (n : ℕ) → n ≤ 4095 → (b c : List ℕ) → LeftClosed (slot_at p.vars p.slot) n b c → WithoutBatch p b c
without p n short b c left =
    let same = SameOutside-wider (slot_at p.vars p.slot) (1 + n) (slot_at p.vars p.slot) 4096 b c (omega arith) (omega arith) left.elsewhere in
    record {
      elsewhere = same;
      log = λ image batches follows holds. record {
        generation_fits = holds.generation_fits;
        fits = holds.fits;
        held = held_before p.vars p.slot 4096 b c same Two p.generation 0 image.count batches (omega (arith, follows.used)) holds.held;
        behind = λ k above below. ⊎_elim
            (λ here. inl (subst (λ (j : ℕ). IsClosed (slot_at p.vars j) c) here left.gate))
            (λ more. stale_behind p.vars p.slot b c same p.generation k more (holds.behind k above below))
            (here_or_behind p.slot k (omega (arith, follows.used)));
        within = holds.within;
      };
    }

-- an open one has the batch that goes last
pub with_batch : (p : BatchPlaced) → p.slot < p.slots → IsBatchIn Two p.vars p.batch → (seen b c : List ℕ) → LeftOpen (slot_at p.vars p.slot) (batch_bytes Two p.generation p.first p.batch) seen b c → WithBatch p b c
with_batch p room is seen b c left =
    let bytes = batch_bytes Two p.generation p.first p.batch in
    let same = SameOutside-wider (slot_at p.vars p.slot) (1 + length bytes) (slot_at p.vars p.slot) 4096 b c (omega arith) (omega (arith, length-batch_bytes-le Two p.vars p.generation p.first p.batch is)) left.elsewhere in
    record {
      elsewhere = same;
      log = λ image batches follows holds.
          let long : length (batches ++ p.batch ∷ []) ≡ p.slot + 1 = omega (arith, length-append batches (p.batch ∷ []), follows.used) in
          let next : p.first ≡ next_number image.count batches = sym follows.number ∙ count-replayed image batches in
          let here : p.slot ≡ 0 + length batches = omega (arith, follows.used) in
          let last : HoldsBatch Two p.vars p.generation p.slot p.first p.batch c = record { batch = is; cell = left.cell } in
          record {
            generation_fits = holds.generation_fits;
            fits = omega (arith, long, room);
            held = HoldsBatches-push Two p.vars p.generation 0 image.count batches p.batch c
                (held_before p.vars p.slot 4096 b c same Two p.generation 0 image.count batches (omega (arith, follows.used)) holds.held)
                (subst (λ (n : ℕ). HoldsBatch Two p.vars p.generation (0 + length batches) n p.batch c) next (subst (λ (k : ℕ). HoldsBatch Two p.vars p.generation k p.first p.batch c) here last));
            behind = λ k above below. stale_behind p.vars p.slot b c same p.generation k (omega (arith, long, above)) (holds.behind k (omega (arith, long, above, follows.used)) below);
            within = LogWithin-push image batches p.batch holds.within follows.room;
          };
    }
