-- Batches that are committed to a state while they are read. Each record of them leaves the state within the limits.
use Rattle.std.specs.Prelude.{◌≡◌, ℕ, List, ◌++◌, length, flat_map, All}
use Rattle.tmem_effect.specs.State.{State, StaysWithin, fold}
use Rattle.tmem_effect.specs.declared.effect.Effect.{Effect}
use Rattle.tmem_state.specs.Batch.{IsRecordIn, IsBatchIn}
use Rattle.tmem_state.specs.declared.version.Version.{Version}
use Rattle.tmem_record.specs.Spelling.{record_bytes, batch_bytes, SpellsBatch}

-- the bytes spell a batch that makes the second state of the first
pub record CommitsBatch (v : Version) (vars generation first : ℕ) (s : State) (bytes : List ℕ) (t : State) : Type 0 where
  pub es : List Effect
  pub spells : SpellsBatch v vars generation first es bytes
  pub within : StaysWithin s es
  pub state : fold s es ≡ t

-- such a batch stands in front of a rest
pub record CommitsFront (v : Version) (vars generation first : ℕ) (s : State) (bytes rest : List ℕ) (t : State) : Type 0 where
  pub es : List Effect
  pub batch : IsBatchIn v vars es
  pub found : bytes ≡ batch_bytes v generation first es ++ rest
  pub within : StaysWithin s es
  pub state : fold s es ≡ t

-- so do so many such records
pub record CommitsRecords (v : Version) (vars count : ℕ) (s : State) (bytes rest : List ℕ) (t : State) : Type 0 where
  pub es : List Effect
  pub counted : length es ≡ count
  pub each : All (IsRecordIn v vars) es
  pub found : bytes ≡ flat_map (record_bytes v) es ++ rest
  pub within : StaysWithin s es
  pub state : fold s es ≡ t
