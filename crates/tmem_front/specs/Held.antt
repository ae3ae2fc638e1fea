-- What a store that was opened holds.
use Rattle.std.specs.Prelude.{Result, Ok, Err}
use Rattle.tmem_disk.specs.Disk.{DeviceView}
use Rattle.tmem_fault.specs.declared.fault.Fault.{Fault}
use Rattle.tmem_opening.specs.Held as opening
use Rattle.tmem_opening.specs.declared.opening.Opening.{Opening}
use Rattle.tmem_core.specs.Program.{Program}
use Rattle.tmem_effect.specs.State.{State}
use Rattle.tmem_spine.specs.Views.{SpineName}
use Rattle.tmem_front.specs.declared.opened.OpenedFront.{OpenedFront}

-- what the opening of its device found
abbrev pub opening_of : {D T S : Type 0} {d t s : _} → OpenedFront D T S d t s → Opening D T d t
opening_of o = o.opening

-- the state that was found
abbrev pub front_found : {D T S : Type 0} {d t s : _} → OpenedFront D T S d t s → State
front_found o = opening.found_of o.opening

-- its device
abbrev pub front_device : {D T S : Type 0} {d t s : _} → OpenedFront D T S d t s → DeviceView
front_device o = opening.opening_device o.opening

-- its spine
abbrev pub spine_of : {D T S : Type 0} {d t s : _} → OpenedFront D T S d t s → SpineName
spine_of o = o.spine

-- what tests its invariants
abbrev pub front_table : {D T S : Type 0} {d t s : _} → OpenedFront D T S d t s → T
front_table o = opening.opening_table o.opening

-- its stored steps
abbrev pub front_steps : {D T S : Type 0} {d t s : _} → OpenedFront D T S d t s → S
front_steps o = o.steps

-- the device after opening, whatever its answer
abbrev pub front_device_after : {D T S : Type 0} {d t s : _} → Result (OpenedFront D T S d t s) (Fault × D) → DeviceView
front_device_after (Ok o) = front_device o
front_device_after {d = d} (Err e) = d.view e.1

-- such is the state that was found, whatever the closures mean
abbrev pub FrontFoundIs : {D T S : Type 0} {d t s : _} → Program → OpenedFront D T S d t s → (State → Type 0) → Type 0
FrontFoundIs p o Such = Such (front_found o)
