-- The opening of a new store: nothing stands against it.
use Rattle.std.proofs.Common.{◌≡◌, ℕ, List, [], ◌∷◌, ℤ, None, refl, ap}
use Rattle.std.specs.Prelude.{option_map}
use Rattle.tmem_fault.specs.declared.fault.Fault.TheVariants.{Broken}
use Rattle.tmem_effect.specs.State.{first_state}
use Rattle.tmem_invariants.specs.Meanings.{Meanings, first_false}
use Rattle.tmem_core.specs.Opening.{opening_fault}
use Rattle.tmem_core.specs.Program.{Program}

-- none of these names is registered
none_false : (m : Meanings) (values : List ℤ) (names : List (List ℕ)) → first_false m names [] [] values ≡ None
none_false m values [] = refl
none_false m values (x ∷ xs) = none_false m values xs

-- no invariant is registered in a new store, so none is missing or false
pub first_has_no_fault : (p : Program) (vars : ℕ) → opening_fault p (first_state vars) ≡ None
first_has_no_fault p vars = ap (option_map Broken) (none_false p.tests (first_state vars).values p.names)
