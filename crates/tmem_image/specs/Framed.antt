-- The words below are for the reader of an image.
use Rattle.std.specs.Prelude.{◌+◌, ◌*◌, ◌-◌, ℕ, List}
use Rattle.tmem_record.specs.Layout.{pages_of}
use Rattle.tmem_record.specs.StandsAt.{StandsAt, zero_bytes}

-- zeros stand behind the values
abbrev pub IsPadded : ℕ → List ℕ → Type 0
IsPadded vars bytes = StandsAt (2047 + 8 * vars) (zero_bytes (512 * pages_of vars - 8 * vars)) bytes
