-- A name is a text.
use Rattle.std.proofs.Common.{ℕ, List, arith}
use Rattle.std.specs.Prelude.{All}
use Rattle.std.specs.Str.{IsAscii}
use Rattle.std.proofs.lemmas.Str.Ascii.{IsAscii-from_all}
use Rattle.tmem_fault.specs.Name.{IsLetter}

-- letters from a to z are ASCII
pub letters-ascii : (bytes : List ℕ) → All IsLetter bytes → IsAscii bytes
letters-ascii bytes letters = IsAscii-from_all bytes (λ k d below. let letter = letters k d below in omega arith)
