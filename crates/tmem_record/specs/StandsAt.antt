-- What bytes spell from an offset on.
use Rattle.std.specs.Prelude.{◌≡◌, ℕ, ℤ, List, length, take, drop, flat_map, replicate}
use Rattle.tmem_record.specs.Spelling.{value_bytes}

-- these stand in the bytes from that offset on
pub record StandsAt (at : ℕ) (part bytes : List ℕ) : Type 0 where
  pub is : take (length part) (drop at bytes) ≡ part

unfoldable pub zero_bytes : ℕ → List ℕ
zero_bytes n = replicate n 0

unfoldable pub values_bytes : List ℤ → List ℕ
values_bytes zs = flat_map value_bytes zs
