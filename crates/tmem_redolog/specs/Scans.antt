-- What reading a log finds.
use Rattle.std.specs.Prelude.{◌≡◌, ◌<◌, ◌≤◌, ◌+◌, ◌*◌, ℕ, List, length, slice_range}
pub use Rattle.tmem_gate.specs.Calls.{IsWhyNone}
use Rattle.tmem_gate.specs.Gate.{IsOpenOver}
use Rattle.tmem_state.specs.Batch.{IsBatchIn}
use Rattle.tmem_record.specs.Layout.{slot_at}
use Rattle.tmem_record.specs.Spelling.{batch_bytes}
use Rattle.tmem_effect.specs.State.{State, fold}
use Rattle.tmem_effect.specs.declared.effect.Effect.{Effect}
use Rattle.tmem_state.specs.declared.version.Version.{Version}
use Rattle.tmem_redolog.specs.Log.{HoldsBatches, HoldsLog, LogWithin, StaysWithin, IsClosedOrStale, replayed}

-- the content holds a log of so many batches over the image of that version, and the image's state after them is this one
pub record FindsLog (v : Version) (vars slots generation : ℕ) (image : State) (used : ℕ) (s : State) (c : List ℕ) : Type 0 where
  pub batches : List (List Effect)
  pub holds : HoldsLog v vars slots generation image batches c
  pub is_used : length batches ≡ used
  pub is_state : replayed image batches ≡ s

-- The words below are for the reader of a log, who goes from slot to slot.

-- these are the bytes of all slots
pub record IsLogOf (vars slots : ℕ) (log c : List ℕ) : Type 0 where
  pub read : log ≡ slice_range c (slot_at vars 0) (slot_at vars 0 + 4096 * slots)

-- the bytes of one slot among them
abbrev pub slot_bytes : List ℕ → ℕ → List ℕ
slot_bytes log k = slice_range log (4096 * k) (4096 * k + 4096)

-- the slots from one on hold these batches over a state, each slot behind them is closed or stale, and the state stays within the
-- limits, record by record
pub record HoldsFrom (v : Version) (vars slots generation slot : ℕ) (s : State) (rest : List (List Effect)) (c : List ℕ) : Type 0 where
  pub fits : slot + length rest ≤ slots
  pub held : HoldsBatches v vars generation slot s.count rest c
  pub behind : (k : ℕ) → slot + length rest ≤ k → k < slots → IsClosedOrStale generation (slot_at vars k) c
  pub within : LogWithin s rest

-- batches over the image that end as some batches over a later state do, which come behind so many slots
pub record Joins (v : Version) (vars slots generation : ℕ) (image : State) (slot : ℕ) (s : State) (rest : List (List Effect)) (c : List ℕ) : Type 0 where
  pub batches : List (List Effect)
  pub holds : HoldsFrom v vars slots generation 0 image batches c
  pub long : length batches ≡ slot + length rest
  pub state : replayed image batches ≡ replayed s rest

-- some batches that the slots from one on hold
pub record Rests (v : Version) (vars slots generation slot : ℕ) (s : State) (c : List ℕ) : Type 0 where
  pub rest : List (List Effect)
  pub holds : HoldsFrom v vars slots generation slot s rest c

-- The slots before one make this state of the image: what follows on the state follows on the image behind them, and each
-- log over the image has a rest over the state.
pub record Reached (v : Version) (vars slots generation : ℕ) (image : State) (slot : ℕ) (s : State) (c : List ℕ) : Type 0 where
  pub whole : (rest : List (List Effect)) → HoldsFrom v vars slots generation slot s rest c → Joins v vars slots generation image slot s rest c
  pub rest : (batches : List (List Effect)) → HoldsFrom v vars slots generation 0 image batches c → Rests v vars slots generation slot s c

-- the batch that a slot begins with makes the second state of the first, and passes no limit on the way
pub record Replays (v : Version) (vars generation : ℕ) (s : State) (slot : List ℕ) (t : State) : Type 0 where
  pub es : List Effect
  pub batch : IsBatchIn v vars es
  pub cell : IsOpenOver 0 (batch_bytes v generation s.count es) slot
  pub state : fold s es ≡ t
  pub within : StaysWithin s es

-- a batch that a slot begins with, whose effects may be applied to the state, each of them within the limits
pub record MayReplay (v : Version) (vars generation : ℕ) (s : State) (slot : List ℕ) (es : List Effect) : Type 0 where
  pub batch : IsBatchIn v vars es
  pub cell : IsOpenOver 0 (batch_bytes v generation s.count es) slot
  pub within : StaysWithin s es
