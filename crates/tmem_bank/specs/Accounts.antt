-- What the bank brings to its store.
use Rattle.std.specs.Prelude.{[], ◌∷◌, codes}
use Rattle.tmem_builtins.specs.Builtins.{builtin_steps}
use Rattle.tmem_builtins.specs.Invariants.{has_no_negative}
use Rattle.tmem_core.specs.Program.{Program}

-- the stored steps, and the one invariant, which is over the four accounts
abbrev pub bank : Program
bank = record {
  steps = builtin_steps;
  names = codes "solvent" ∷ [];
  tests = record { footprint = λ name. 0 ∷ 1 ∷ 2 ∷ 3 ∷ []; test = λ name accounts. has_no_negative accounts };
}
