-- The third of the builtin steps.
use Rattle.std.proofs.Common.{◌≡◌, ℕ, ℤ, List, refl, sym, subst}
use Rattle.tmem_builtins.specs.Builtins.{builtin_steps}
use Rattle.tmem_builtins.specs.Steps.{at_least}

-- what the step of number 2 answers
pub third : (index : ℕ) (args : List ℤ) → index ≡ 2 → builtin_steps index args ≡ at_least args
third index args two = subst (λ (n : ℕ). builtin_steps n args ≡ at_least args) (sym two) refl
