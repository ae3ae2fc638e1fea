-- What a reply tells of the device, and what it acknowledges.
use Rattle.std.specs.Prelude.{◌≡◌, ⊤, ◌⊎◌, ℕ, ◌<◌, List, [], ◌∷◌, Option, Some, Result, Ok, Err, IfSome}
use Rattle.tmem_disk.specs.Disk.{IsWriteOrSync}
use Rattle.tmem_disk.specs.declared.disk.DeviceFault.{DeviceFault}
use Rattle.tmem_disk.specs.declared.disk.DeviceFault.TheVariants.{Write}
use Rattle.tmem_fault.specs.declared.fault.Fault.{Fault}
use Rattle.tmem_fault.specs.declared.fault.Fault.TheVariants as fault
use Rattle.tmem_tree.specs.declared.settled.Settled.{Settled}
use Rattle.tmem_event.specs.declared.event.Event.{Event}
use Rattle.tmem_event.specs.declared.event.Event.TheVariants as event
use Rattle.tmem_event.specs.declared.event.Reply.{Reply}
use Rattle.tmem_event.specs.declared.event.Reply.TheVariants as reply
use Rattle.tmem_gate.specs.Calls.{failures_after, IsReadOrWrite}

-- an answer to a transaction that has ended, as a reply
abbrev pub reply_of : Result Settled Fault → Reply
reply_of (Ok settled) = reply.Settled settled
reply_of (Err f) = reply.Fault f

-- how many calls of the device have failed, once an event was answered so
abbrev pub failures_by : Reply → ℕ → ℕ
failures_by (reply.Fault f) n = failures_after f n
failures_by _ n = n

-- the same for a list of replies, one after another
abbrev pub failures_by_all : List Reply → ℕ → ℕ
failures_by_all [] n = n
failures_by_all (r ∷ rs) n = failures_by_all rs (failures_by r n)

-- A flush was answered without a write, where so many were durable before it.
abbrev pub FlushedNothing : ℕ → Reply → Type 0
FlushedNothing durable (reply.Durable n) = n ≡ durable
FlushedNothing durable (reply.Fault fault.Device) = ⊥
FlushedNothing durable (reply.Fault fault.Unknown) = ⊥
FlushedNothing durable _ = ⊤

-- A checkpoint was answered without a write.
abbrev pub CheckpointedNothing : Reply → Type 0
CheckpointedNothing reply.Checkpointed = ⊥
CheckpointedNothing (reply.Fault fault.Device) = ⊥
CheckpointedNothing (reply.Fault fault.Unknown) = ⊥
CheckpointedNothing _ = ⊤

-- The event was answered so without a call of the device: only a flush that writes, a checkpoint and opening make any.
abbrev pub CallsNoDevice : ℕ → Event → Reply → Type 0
CallsNoDevice durable event.Flush r = FlushedNothing durable r
CallsNoDevice durable event.Checkpoint r = CheckpointedNothing r
CallsNoDevice durable event.Reopen r = ⊥
CallsNoDevice durable _ r = ⊤

-- Which call of the device failed last, where a flush or a checkpoint was answered so. At Unknown it was a write or a sync. At
-- Device a flush had a write fail, and a checkpoint a read or a write.
abbrev pub IsFailedCall : Event → Reply → Option DeviceFault → Type 0
IsFailedCall event.Flush (reply.Fault fault.Device) last = last ≡ Some Write
IsFailedCall event.Flush (reply.Fault fault.Unknown) last = IfSome last IsWriteOrSync
IsFailedCall event.Checkpoint (reply.Fault fault.Device) last = IfSome last IsReadOrWrite
IsFailedCall event.Checkpoint (reply.Fault fault.Unknown) last = IfSome last IsWriteOrSync
IsFailedCall _ _ last = ⊤

-- the transactions below this number are acknowledged by the reply
abbrev pub acknowledged : Reply → ℕ
acknowledged (reply.Durable n) = n
acknowledged (reply.Looked n) = n
acknowledged (reply.Opened n) = n
acknowledged _ = 0

-- one of these replies acknowledges the transaction of this number
abbrev pub IsAcknowledged : List Reply → ℕ → Type 0
IsAcknowledged [] number = ⊥
IsAcknowledged (r ∷ rs) number = (number < acknowledged r) ⊎ IsAcknowledged rs number
