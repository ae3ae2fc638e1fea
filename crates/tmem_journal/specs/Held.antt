-- What a journal holds.
use Rattle.std.specs.Prelude.{ℕ, Bool, List, Result, Ok, Err}
use Rattle.tmem_disk.specs.Disk.{DeviceView}
use Rattle.tmem_fault.specs.declared.fault.Fault.{Fault}
use Rattle.tmem_effect.specs.State.{State, fold}
use Rattle.tmem_journal.specs.Calls.{effects_in}
use Rattle.tmem_journal.specs.Contents.{Position, position_in, ContentRepresentsEither}
use Rattle.tmem_record.specs.declared.layout.Layout.{Layout}
use Rattle.tmem_journal.specs.declared.journal.Journal.{Journal}

-- its device
abbrev pub disk_of : {D : Type 0} {d : _} → Journal D d → D
disk_of j = j.disk

-- its device, as contracts see it
abbrev pub journal_device : {D : Type 0} {d : _} → Journal D d → DeviceView
journal_device {d = d} j = d.view j.disk

-- its numbers of variables and log slots
abbrev pub journal_layout : {D : Type 0} {d : _} → Journal D d → Layout
journal_layout j = j.layout

-- the state that is known durable
abbrev pub journal_state : {D : Type 0} {d : _} → Journal D d → State
journal_state j = j.state

-- the state that may be durable in its place, after a flush with an unknown outcome
abbrev pub doubtful_of : {D : Type 0} {d : _} → Journal D d → State
doubtful_of j = fold j.state (effects_in j.doubt)

-- its image copy and that copy's generation, and how many log slots are used
abbrev pub journal_position : {D : Type 0} {d : _} → Journal D d → Position
journal_position j = position_in j.copy j.log

-- whether a failure closed it
abbrev pub is_closed_of : {D : Type 0} {d : _} → Journal D d → Bool
is_closed_of j = j.is_closed

-- the content is one that a crash may leave, as far as the journal knows
abbrev pub MayBe : {D : Type 0} {d : _} → Journal D d → List ℕ → Type 0
MayBe j c = ContentRepresentsEither j.layout.vars j.layout.slots j.state (fold j.state (effects_in j.doubt)) c

-- the device after opening, whatever its answer
abbrev pub journal_device_after : {D : Type 0} {d : _} → Result (Journal D d) (Fault × D) → DeviceView
journal_device_after {d = d} (Ok j) = d.view j.disk
journal_device_after {d = d} (Err e) = d.view e.1
