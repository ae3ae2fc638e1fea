-- What holds of every content, whatever wrote it.
use Rattle.std.specs.Prelude.{◌≡◌, ◌≢◌, ◌≤◌, ℕ, ◌^◌, List}
use Rattle.tmem_fault.specs.declared.fault.Fault.{Fault}
use Rattle.tmem_fault.specs.declared.fault.Fault.TheVariants.{Spent}
use Rattle.tmem_effect.specs.State.{State}
use Rattle.tmem_record.specs.Layout.{IsLayout}
use Rattle.tmem_journal.specs.Contents.{Position, ContentRepresents, IsSpentAt}
use Rattle.tmem_journal.specs.Refusals.{IsRefusedBy}

-- a content represents one state at the most, at one position
abbrev pub RepresentsOne : Type 0
RepresentsOne = (vars slots : ℕ) (p p' : Position) (s s' : State) (c : List ℕ) → vars ≤ 2 ^ 16 → ContentRepresents vars slots p s c → ContentRepresents vars slots p' s' c → (p ≡ p') × (s ≡ s')

-- a content that is refused by anything but Spent represents no state
abbrev pub RefusedRepresentsNone : Type 0
RefusedRepresentsNone = (vars slots : ℕ) (p : Position) (s : State) (c : List ℕ) (f : Fault) → f ≢ Spent → IsLayout vars slots → IsRefusedBy vars slots c f → ¬ ContentRepresents vars slots p s c

-- one that is refused by Spent is of version 1 and at the last generation, wherever it represents a state
abbrev pub SpentIsAtLast : Type 0
SpentIsAtLast = (vars slots : ℕ) (p : Position) (s : State) (c : List ℕ) → vars ≤ 2 ^ 16 → IsRefusedBy vars slots c Spent → ContentRepresents vars slots p s c → IsSpentAt p
