-- The laws of this crate's definitions that the crates above rest on: what batches make of a state, and which logs a
-- content holds.
use Rattle.std.proofs.Common.{◌≡◌, inl, inr, ⊎_elim, ℕ, ◌+◌, ◌-◌, ◌<◌, ◌≤◌, ◌^◌, List, [], ◌∷◌, ◌++◌, length, take, drop, ◌∙◌, refl, ap, subst, arith}
use Rattle.std.proofs.lemmas.Bool.{cases_lt}
use Rattle.tmem_disk.specs.Disk.{DeviceView, LeavesOnly, SameOutside, AtEachMoment}
use Rattle.tmem_gate.specs.Gate.{IsClosed, IsOpenOver}
use Rattle.tmem_gate.proofs.Laws.{closed_after, open_after}
use Rattle.tmem_record.specs.Layout.{slot_at}
use Rattle.tmem_record.specs.Spelling.{number_bytes, batch_bytes}
use Rattle.tmem_effect.specs.State.{State, fold}
use Rattle.tmem_effect.specs.declared.effect.Effect.{Effect}
use Rattle.tmem_state.specs.declared.version.Version.{Version}
use Rattle.tmem_state.specs.declared.version.Version.TheVariants.{Two}
use Rattle.tmem_effect.proofs.Laws.{length-values-fold}
use Rattle.tmem_redolog.specs.Appends.{FollowsOn, BatchPlaced, WithoutBatch, WithBatch}
use Rattle.tmem_redolog.specs.Closes.{Keeps}
use Rattle.tmem_redolog.specs.Log.{HoldsBatches, HoldsLog, IsClosedOrStale, IsWithin, replayed}
use Rattle.tmem_gate.specs.Calls.{MadeBy}
use Rattle.tmem_redolog.proofs.OneLog.{begins, generation_first}
-- one batch more, how long one is, and what stays within the limits
pub use Rattle.tmem_redolog.proofs.Logs.{replayed-push, length-batch_bytes, length-batch_bytes-le, LogWithin-first, LogWithin-last, LogWithin-push}
pub use Rattle.tmem_redolog.proofs.OneLog.{count-le, one_log}
-- effects one after another, within the limits
pub use Rattle.tmem_redolog.proofs.Replaying.{fold_next, within_next, stays_next, of_variables}
-- what is said under the disk model alone
pub use Rattle.tmem_redolog.proofs.Closing.{reads_only_given}

-- batches set values, and make none
pub length-values-replayed : (s : State) (batches : List (List Effect)) → length (replayed s batches).values ≡ length s.values
length-values-replayed s [] = refl
length-values-replayed s (es ∷ batches) = length-values-replayed (fold s es) batches ∙ length-values-fold s es

-- what begins with a batch begins with its generation
pub carries_generation : (v : Version) (generation first at : ℕ) (es : List Effect) (c : List ℕ) → IsOpenOver at (batch_bytes v generation first es) c → IsOpenOver at (number_bytes 8 generation) c
carries_generation v generation first at es c cell =
    let n : at + 1 + length (number_bytes 8 generation) - (at + 1) ≡ length (number_bytes 8 generation) = omega arith in
    record {
      gate = cell.gate;
      body = ap (λ (m : ℕ). take m (drop (at + 1) c)) n ∙ generation_first v generation first es (drop (at + 1) c) (begins at (batch_bytes v generation first es) c cell);
    }

-- each slot of a log is open over its generation
pub each_carries : (v : Version) (vars generation slot first : ℕ) (batches : List (List Effect)) (c : List ℕ) → HoldsBatches v vars generation slot first batches c → (k : ℕ) → slot ≤ k → k < slot + length batches → IsOpenOver (slot_at vars k) (number_bytes 8 generation) c
each_carries v vars generation slot first [] c held k above below = absurd (omega (arith, above, below))
each_carries v vars generation slot first (es ∷ batches) c held k above below = ⊎_elim
    (λ more. each_carries v vars generation (slot + 1) (first + length es) batches c held.1 k (omega (arith, more)) (omega (arith, below)))
    (λ not_more.
    let here : slot ≡ k = omega (arith, above, not_more) in
    subst (λ (j : ℕ). IsOpenOver (slot_at vars j) (number_bytes 8 generation) c) here (carries_generation v generation first (slot_at vars slot) es c held.0.cell))
    (cases_lt slot k)

-- where each slot is stale the log is empty
pub no_batches : (v : Version) (vars slots generation : ℕ) (image : State) (c : List ℕ) → generation < 2 ^ 64 → IsWithin image → ((k : ℕ) → k < slots → IsClosedOrStale generation (slot_at vars k) c) → HoldsLog v vars slots generation image [] c
no_batches v vars slots generation image c fits within stale = record { generation_fits = fits; fits = omega arith; held = tt; behind = λ k above below. stale k below; within = within }

-- and so where each slot is closed, whatever the generation of the image
pub all_closed : (v : Version) (vars slots generation : ℕ) (image : State) (c : List ℕ) → generation < 2 ^ 64 → IsWithin image → ((k : ℕ) → k < slots → IsClosed (slot_at vars k) c) → HoldsLog v vars slots generation image [] c
all_closed v vars slots generation image c fits within closed = no_batches v vars slots generation image c fits within (λ k below. inl (closed k below))

-- a log is empty over an image of a greater generation, whatever the versions of both images
pub emptied : (v w : Version) (vars slots generation greater : ℕ) (image next : State) (batches : List (List Effect)) (c : List ℕ) → generation < greater → greater < 2 ^ 64 → IsWithin next → HoldsLog v vars slots generation image batches c → HoldsLog w vars slots greater next [] c
emptied v w vars slots generation greater image next batches c less fits within holds = no_batches w vars slots greater next c fits within (λ k below. ⊎_elim
    (λ used. inr (generation, less, each_carries v vars generation 0 image.count batches c holds.held k (omega arith) (omega (arith, used))))
    (λ not_used. older k (holds.behind k not_used below))
    (cases_lt k (length batches)))
  where
    older : (k : ℕ) → IsClosedOrStale generation (slot_at vars k) c → IsClosedOrStale greater (slot_at vars k) c
    older k (inl shut) = inl shut
    older k (inr it) = inr (it.0, omega (arith, it.1, less), it.2)

-- what is written in front of the slots changes no log
module _ (vars at n : ℕ) (b c : List ℕ) (same : SameOutside at n b c) (front : at + n ≤ slot_at vars 0) where
  held_behind : (v : Version) (generation slot first : ℕ) (batches : List (List Effect)) → HoldsBatches v vars generation slot first batches b → HoldsBatches v vars generation slot first batches c
  held_behind v generation slot first [] held = tt
  held_behind v generation slot first (es ∷ batches) held = (
    record { batch = held.0.batch; cell = open_after at n (slot_at vars slot) (batch_bytes v generation first es) b c same (omega (arith, front)) held.0.cell },
    held_behind v generation (slot + 1) (first + length es) batches held.1,
  )

  still_stale : (generation k : ℕ) → IsClosedOrStale generation (slot_at vars k) b → IsClosedOrStale generation (slot_at vars k) c
  still_stale generation k (inl shut) = inl (closed_after at n (slot_at vars k) b c same (omega (arith, front)) shut)
  still_stale generation k (inr it) = inr (it.0, it.1, open_after at n (slot_at vars k) (number_bytes 8 it.0) b c same (omega (arith, front)) it.2)

  pub HoldsLog-front : (v : Version) (slots generation : ℕ) (image : State) (batches : List (List Effect)) → HoldsLog v vars slots generation image batches b → HoldsLog v vars slots generation image batches c
  HoldsLog-front v slots generation image batches holds = record {
    generation_fits = holds.generation_fits;
    fits = holds.fits;
    held = held_behind v generation 0 image.count batches holds.held;
    behind = λ k above below. still_stale generation k (holds.behind k above below);
    within = holds.within;
  }

-- where all contents shared one log before an append, they share one after it
module _ (p : BatchPlaced) (old new : DeviceView) (model : new.keeps_model → old.keeps_model) (image : State) (batches : List (List Effect)) (follows : FollowsOn p.slot p.first p.batch image batches) (shared : LeavesOnly old (HoldsLog Two p.vars p.slots p.generation image batches)) where
  pub shared_with : LeavesOnly new (MadeBy (WithBatch p) old) → LeavesOnly new (HoldsLog Two p.vars p.slots p.generation image (batches ++ p.batch ∷ []))
  shared_with made = record { each = λ k c left. let from = made.each k c left in from.2.log image batches follows (shared.each (model k) from.0 from.1) }

  pub shared_without : LeavesOnly new (MadeBy (WithoutBatch p) old) → LeavesOnly new (HoldsLog Two p.vars p.slots p.generation image batches)
  shared_without made = record { each = λ k c left. let from = made.each k c left in from.2.log image batches follows (shared.each (model k) from.0 from.1) }

-- where all contents shared an empty log before the slots are closed, they share it at each moment of that, and after it
module _ (v : Version) (vars slots generation : ℕ) (image : State) (old new : DeviceView) (model : new.keeps_model → old.keeps_model) (empty : LeavesOnly old (HoldsLog v vars slots generation image [])) where
  still_empty : new.keeps_model → (c : List ℕ) → MadeBy (Keeps vars slots generation 0) old c → HoldsLog v vars slots generation image [] c
  still_empty k c from = from.2.log v image [] refl (empty.each (model k) from.0 from.1)

  pub shared_empty : LeavesOnly new (MadeBy (Keeps vars slots generation 0) old) → LeavesOnly new (HoldsLog v vars slots generation image [])
  shared_empty made = record { each = λ k c left. still_empty k c (made.each k c left) }

  pub empty_while : AtEachMoment old new (MadeBy (Keeps vars slots generation 0) old) → AtEachMoment old new (HoldsLog v vars slots generation image [])
  empty_while made = record { each = λ k c left. still_empty k c (made.each k c left) }
