-- A list of one.
use Rattle.std.proofs.Common.{◌≡◌, ◌<◌, ℕ, arith}

-- its only element is the first
pub first_of_one : (k : ℕ) → k < 1 → k ≡ 0
first_of_one k below = omega (arith, below)
