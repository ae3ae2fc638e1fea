-- The writes of a transaction, each a variable and the value that it takes.
use Rattle.std.specs.Prelude.{ℕ, ℤ, ◌≤◌, List, [], ◌∷◌, length, map, Option, nat_eq, All, FitsSigned, if◌then◌else◌}
use Rattle.std.specs.Int.{w64}
use Rattle.std.specs.Map.{lookup}
use Rattle.std.proofs.Props.{props}
use Rattle.tmem_fault.specs.Distinct.{AreDistinct}

-- the variables that are written, in order
abbrev pub variables : List (ℕ × ℤ) → List ℕ
variables ws = map (λ (w : ℕ × ℤ). w.0) ws

-- the value beside the first such variable
abbrev pub value_in : List (ℕ × ℤ) → ℕ → Option ℤ
value_in ws var = lookup (nat_eq var) ws

-- with one write more: a variable keeps the place of its first write and takes the last value
abbrev pub with_write : List (ℕ × ℤ) → ℕ → ℤ → List (ℕ × ℤ)
with_write [] var value = (var, value) ∷ []
with_write (w ∷ ws) var value = if nat_eq var w.0 then (var, value) ∷ ws else w ∷ with_write ws var value

-- at most 64 writes, no variable twice, and values of 64 bits
pub record AreWrites (ws : List (ℕ × ℤ)) : Type 0 where
  pub few : length ws ≤ 64
  pub distinct : AreDistinct (variables ws)
  pub fits : All (λ (w : ℕ × ℤ). FitsSigned w64 w.1) ws

-- that is a fact: it has one proof at most
pub AreWrites-prop : (ws : List (ℕ × ℤ)) → IsProp (AreWrites ws)
AreWrites-prop ws = hlevel props
