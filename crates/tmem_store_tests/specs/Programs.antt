-- What the table means that a front by one caller is opened with.
use Rattle.std.specs.Prelude.{[], ◌∷◌, codes}
use Rattle.tmem_builtins.specs.Builtins.{builtin_steps}
use Rattle.tmem_builtins.specs.Invariants.{is_not_negative}
use Rattle.tmem_core.specs.Program.{Program}

-- the stored steps of scripts, and one invariant: variable 0 is at least 0
abbrev pub checked_program : Program
checked_program = record {
  steps = builtin_steps;
  names = codes "nonneg" ∷ [];
  tests = record { footprint = λ name. 0 ∷ []; test = λ name values. is_not_negative values };
}
