-- What stands against a core of a state.
use Rattle.std.specs.Prelude.{ℕ, List, [], Option, option_map}
use Rattle.std.specs.Option.{option_or}
use Rattle.tmem_fault.specs.declared.fault.Fault.{Fault}
use Rattle.tmem_fault.specs.declared.fault.Fault.TheVariants.{Memory, Missing, Broken}
use Rattle.tmem_effect.specs.State.{State}
use Rattle.tmem_invariants.specs.Meanings.{Meanings, first_false}
use Rattle.tmem_invariants.specs.TableNames.{first_missing}
use Rattle.tmem_core.specs.Program.{Program}

-- What stands against a state, where a table has these names that mean this: the first registered name, by bytes, that the table
-- lacks; else the first in the table's order that is registered and false.
abbrev pub fault_against : List (List ℕ) → Meanings → State → Option Fault
fault_against names m s = option_or (option_map Missing (first_missing names s.names)) (option_map Broken (first_false m names s.names [] s.values))

-- the same, by a program
abbrev pub opening_fault : Program → State → Option Fault
opening_fault p s = fault_against p.names p.tests s

-- what a core of a state can be refused for
abbrev pub IsOpeningRefusal : Fault → Type 0
IsOpeningRefusal Memory = Unit {0}
IsOpeningRefusal (Missing name) = Unit {0}
IsOpeningRefusal (Broken name) = Unit {0}
IsOpeningRefusal _ = ⊥
