-- Batches of effects, and how many bytes they have. Words that take no version speak of the second one, which is written.
use Rattle.std.specs.Prelude.{◌≡◌, ℕ, ◌+◌, ◌*◌, ◌≤◌, false, List, length, take, sum_by, All}
use Rattle.tmem_effect.specs.State.{AreWrites, AreChecks, AreApart, is_empty}
use Rattle.tmem_effect.specs.declared.effect.Effect.{Effect}
use Rattle.tmem_effect.specs.Loggable.{IsLoggable}
use Rattle.tmem_state.specs.Versions.{Version, Two, MayRetire, retired_length}

-- the bytes of a record of a version: a count of writes, ten bytes a write, a count of names, a length and the letters a
-- name, and what the version has of the retired names
abbrev pub record_length_in : Version → Effect → ℕ
record_length_in v e = 1 + 10 * length e.writes + 1 + sum_by (λ n. 1 + length n) e.names + retired_length v e.retired

-- the bytes of these records together
abbrev pub records_length_in : Version → List Effect → ℕ
records_length_in v es = sum_by (record_length_in v) es

abbrev pub record_length : Effect → ℕ
record_length e = record_length_in Two e

abbrev pub records_length : List Effect → ℕ
records_length es = records_length_in Two es

-- an effect over so many variables that a record of a version can tell: it changes something, and retires no more than the
-- version can
pub record IsRecordIn (v : Version) (vars : ℕ) (e : Effect) : Type 0 where
  pub loggable : IsLoggable vars e
  pub may_retire : MayRetire v e.retired

-- a batch of a version over so many variables: 1 to 64 such effects, whose records have at most 4077 bytes together
pub record IsBatchIn (v : Version) (vars : ℕ) (es : List Effect) : Type 0 where
  pub some : 1 ≤ length es
  pub few : length es ≤ 64
  pub each : All (IsRecordIn v vars) es
  pub fits : records_length_in v es ≤ 4077

-- a batch of the version that is written
abbrev pub IsBatch : ℕ → List Effect → Type 0
IsBatch vars es = IsBatchIn Two vars es

-- an effect in the memory of a batch, which knows of no number of variables
pub record IsBatched (e : Effect) : Type 0 where
  pub writes : AreWrites e.writes
  pub names : AreChecks e.names
  pub retired : AreChecks e.retired
  pub apart : AreApart e.names e.retired
  pub not_empty : is_empty e ≡ false

-- of 64 effects made beforehand so many are records
pub record FillsRecords (effects : List Effect) (len : ℕ) : Type 0 where
  pub made : length effects ≡ 64
  pub few : len ≤ 64
  pub each : All IsBatched (take len effects)

-- these records have so many bytes, and there is room for them
pub record FillsBatch (es : List Effect) (used : ℕ) : Type 0 where
  pub counts : used ≡ records_length es
  pub fits : used ≤ 4077
