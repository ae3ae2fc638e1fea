-- How large a term is.
use Rattle.std.proofs.Common.{◌≤◌, ◌^◌, ℤ, arith, FitsSigned, w32, unsigned_abs}
use Rattle.std.specs.Int.Signed.{nat_abs-le}

pub number_size : (c : ℤ) → FitsSigned w32 c → unsigned_abs c ≤ 2 ^ 94
number_size c fits = let a : unsigned_abs c ≤ 2 ^ 31 = nat_abs-le c fits.sfits in omega (arith, a)
