-- What is printed.
use Rattle.std.specs.Prelude.{◌≡◌, ℕ, List, ◌∷◌, Option, None, Some, codes, flat_map, length}
use Rattle.std.specs.Io.KnownBytes.{Appends}
pub use Rattle.tmem_lines.specs.Lines.{line}

-- texts, each with its line break
abbrev pub printed : List (List ℕ) → List ℕ
printed texts = flat_map line texts

-- the names of the columns
abbrev pub head : List ℕ
head = codes "device  job                      callers  flusher         a second  flushes    baseline   ratio"

-- how many lines there are below the head: one of the job that is wanted, or all
abbrev pub lines_wanted : Option ℕ → ℕ
lines_wanted None = 48
lines_wanted (Some job) = 1

-- the head of a table and so many lines were printed
pub record PrintsTable (before after : Option (List ℕ)) (count : ℕ) : Type 0 where
  pub lines : List (List ℕ)
  pub many : length lines ≡ count
  pub told : Appends before after (printed (head ∷ lines))
