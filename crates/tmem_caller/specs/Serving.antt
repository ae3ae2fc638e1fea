-- What the store that is served is made with.
use Rattle.std.specs.Prelude.{[], ◌∷◌, codes}
use Rattle.tmem_builtins.specs.Builtins.{builtin_steps}
use Rattle.tmem_builtins.specs.Invariants.{has_no_negative}
use Rattle.tmem_core.specs.Program.{Program}

-- the stored steps, and one invariant, which is over two variables
abbrev pub solvent : Program
solvent = record {
  steps = builtin_steps;
  names = codes "solvent" ∷ [];
  tests = record { footprint = λ name. 0 ∷ 1 ∷ []; test = λ name values. has_no_negative values };
}
