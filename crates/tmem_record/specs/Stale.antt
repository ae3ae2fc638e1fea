-- A cell whose body begins with a generation.
use Rattle.std.specs.Prelude.{◌⊎◌, ◌<◌, ℕ, List}
use Rattle.tmem_gate.specs.Gate.{IsClosed, IsOpenOver}
use Rattle.tmem_record.specs.Spelling.{number_bytes}

-- the cell at an offset is closed, or open over a lesser generation
abbrev pub IsClosedOrStale : ℕ → ℕ → List ℕ → Type 0
IsClosedOrStale generation at c = IsClosed at c ⊎ ((lesser : ℕ) × (lesser < generation) × IsOpenOver at (number_bytes 8 lesser) c)
