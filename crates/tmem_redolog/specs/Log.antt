-- The log of a device: batches behind the open gates of its first slots.
use Rattle.std.specs.Prelude.{◌<◌, ◌≤◌, ◌+◌, ◌^◌, ℕ, List, [], ◌∷◌, length}
use Rattle.tmem_gate.specs.Gate.{IsOpenOver}
use Rattle.tmem_state.specs.Batch.{IsBatchIn}
use Rattle.tmem_record.specs.Layout.{slot_at}
use Rattle.tmem_record.specs.Spelling.{batch_bytes}
pub use Rattle.tmem_record.specs.Stale.{IsClosedOrStale}
use Rattle.tmem_effect.specs.State.{State, fold}
pub use Rattle.tmem_effect.specs.State.{IsWithin, StaysWithin}
use Rattle.tmem_effect.specs.declared.effect.Effect.{Effect}
use Rattle.tmem_state.specs.declared.version.Version.{Version}

-- a slot is open, and begins behind the gate with this batch of that generation, spelled in that version, whose first
-- record has that number
pub record HoldsBatch (v : Version) (vars generation slot first : ℕ) (es : List Effect) (c : List ℕ) : Type 0 where
  pub batch : IsBatchIn v vars es
  pub cell : IsOpenOver (slot_at vars slot) (batch_bytes v generation first es) c

-- the slots from this one on hold these batches of one generation and version, one a slot, and the numbers of their records
-- follow on from the first
abbrev pub HoldsBatches : Version → ℕ → ℕ → ℕ → ℕ → List (List Effect) → List ℕ → Type 0
HoldsBatches v vars generation slot first [] c = Unit {0}
HoldsBatches v vars generation slot first (es ∷ batches) c = HoldsBatch v vars generation slot first es c × HoldsBatches v vars generation (slot + 1) (first + length es) batches c

-- the state after these batches, one after another
abbrev pub replayed : State → List (List Effect) → State
replayed s [] = s
replayed s (es ∷ batches) = replayed (fold s es) batches

-- the state, and each one after a record of these batches, is within the limits
abbrev pub LogWithin : State → List (List Effect) → Type 0
LogWithin s [] = IsWithin s
LogWithin s (es ∷ batches) = StaysWithin s es × LogWithin (fold s es) batches

-- The content holds this log over an image of that version and generation: the first slots hold its batches, spelled in the
-- image's version, whose numbers follow on from the image's count. Each slot behind them is closed or of a lesser generation.
-- The image's state is within the limits, before the log and after each record of it.
pub record HoldsLog (v : Version) (vars slots generation : ℕ) (image : State) (batches : List (List Effect)) (c : List ℕ) : Type 0 where
  pub generation_fits : generation < 2 ^ 64
  pub fits : length batches ≤ slots
  pub held : HoldsBatches v vars generation 0 image.count batches c
  pub behind : (k : ℕ) → length batches ≤ k → k < slots → IsClosedOrStale generation (slot_at vars k) c
  pub within : LogWithin image batches
