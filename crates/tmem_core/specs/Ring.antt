-- The ring of what waits, whose elements are made as they are first used.
use Rattle.std.specs.Prelude.{◌≡◌, ◌⊎◌, ◌+◌, ◌<◌, ◌≤◌, ◌^◌, ℕ, List, length}

-- A ring of 256 elements, in memory for so many, of which these are made: all of them, or those up to the last one in use. From
-- a start on so many are in use, around the end.
pub record IsRing {X : Type 0} (entries : List X) (capacity start used : ℕ) : Type 0 where
  pub few : length entries ≤ 2 ^ 8
  pub room : 2 ^ 8 ≤ capacity
  pub begins : start < 2 ^ 8
  pub fits : used ≤ 2 ^ 8
  pub made : (length entries ≡ 2 ^ 8) ⊎ (start + used ≡ length entries)
