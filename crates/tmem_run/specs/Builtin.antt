-- What a script is played with: the builtin steps and invariants.
use Rattle.std.specs.Prelude.{ℕ, List, [], ◌∷◌}
use Rattle.tmem_core.specs.Program.{Program}
use Rattle.tmem_builtins.specs.Builtins.{builtin_steps, builtin_names, builtin_tests}
use Rattle.tmem_world.specs.WorldModel.{Setting}

-- what the steps answer and the invariants mean, of a store of so many variables
abbrev pub builtin_program : ℕ → Program
builtin_program vars = record { steps = builtin_steps; names = builtin_names vars; tests = builtin_tests }

-- how many arguments each of these steps has
abbrev pub builtin_arities : List ℕ
builtin_arities = 2 ∷ 2 ∷ 2 ∷ []

-- the same with the numbers of variables, of log slots and of each step's arguments
abbrev pub builtin_setting : ℕ → ℕ → Setting
builtin_setting vars slots = record { vars = vars; slots = slots; arities = builtin_arities; program = builtin_program vars }
