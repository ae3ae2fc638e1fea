-- What a store that was opened holds.
use Rattle.std.specs.Prelude.{Result, Ok, Err}
use Rattle.tmem_disk.specs.Disk.{DeviceView}
use Rattle.tmem_fault.specs.declared.fault.Fault.{Fault}
use Rattle.tmem_effect.specs.State.{State}
use Rattle.tmem_record.specs.declared.layout.Layout.{Layout}
use Rattle.tmem_core.specs.Held as core
use Rattle.tmem_journal.specs.Held as journal
use Rattle.tmem_journal.specs.Contents.{Position}
use Rattle.tmem_opening.specs.declared.opening.Opening.{Opening}

-- the state that was found
abbrev pub found_of : {D T : Type 0} {d t : _} → Opening D T d t → State
found_of o = core.core_state o.core

-- at which position of the device
abbrev pub opening_position : {D T : Type 0} {d t : _} → Opening D T d t → Position
opening_position o = journal.journal_position o.journal

-- its numbers of variables and log slots
abbrev pub opening_layout : {D T : Type 0} {d t : _} → Opening D T d t → Layout
opening_layout o = journal.journal_layout o.journal

-- its device
abbrev pub opening_device : {D T : Type 0} {d t : _} → Opening D T d t → DeviceView
opening_device o = journal.journal_device o.journal

-- what tests its invariants
abbrev pub opening_table : {D T : Type 0} {d t : _} → Opening D T d t → T
opening_table o = core.core_table o.core

-- the device after opening, whatever its answer
abbrev pub opening_device_after : {D T : Type 0} {d t : _} → Result (Opening D T d t) (Fault × D × T) → DeviceView
opening_device_after (Ok o) = opening_device o
opening_device_after {d = d} (Err e) = d.view e.1

-- its answer, without what a refusal hands back
abbrev pub answer_alone : {D T : Type 0} {d t : _} → Result (Opening D T d t) (Fault × D × T) → Result (Opening D T d t) Fault
answer_alone (Ok o) = Ok o
answer_alone (Err e) = Err e.0
