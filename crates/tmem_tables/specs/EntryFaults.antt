-- Why entries make no table.
use Rattle.std.specs.Prelude.{◌≡◌, ◌⊎◌, Option, Some, None}
use Rattle.tmem_fault.specs.declared.fault.Fault.{Fault}
use Rattle.tmem_fault.specs.declared.fault.Fault.TheVariants.{BadName, BadFootprint}

-- the fault of entries whose names and footprints are as a table wants them, or are not
abbrev pub IsEntryFault : Type 0 → Type 0 → Option Fault → Type 0
IsEntryFault Names Footprints None = Names × Footprints
IsEntryFault Names Footprints (Some fault) = ((fault ≡ BadName) × ¬ Names) ⊎ ((fault ≡ BadFootprint) × (Names × ¬ Footprints))
