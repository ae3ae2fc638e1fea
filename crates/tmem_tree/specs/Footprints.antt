-- How sixteen entries hold a footprint.
use Rattle.std.specs.Prelude.{◌≡◌, ℕ, ◌≤◌, ◌-◌, List, ◌++◌, length, take, replicate}

-- these entries hold so many variables, with zeros behind them
pub record HoldsFootprint (entries : List ℕ) (len : ℕ) : Type 0 where
  pub short : len ≤ 16
  pub long : length (take len entries) ≡ len
  pub padded : entries ≡ take len entries ++ replicate (16 - len) 0
