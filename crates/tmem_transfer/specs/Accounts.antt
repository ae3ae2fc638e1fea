-- What the invariant of the two accounts says, and what is made of a reply.
use Rattle.std.specs.Prelude.{ℤ, pos, ◌+ℤ◌, Bool, List, Result, Ok, Err, slice_index_or}
use Rattle.std.specs.Ordering.{int_eq}
use Rattle.tmem_event.specs.declared.event.Reply.{Reply}
use Rattle.tmem_event.specs.declared.event.Reply.TheVariants as reply
use Rattle.tmem_fault.specs.declared.fault.Fault.{Fault}

-- a reply, or the fault by which the event was refused
abbrev pub reply_or_fault : Reply → Result Reply Fault
reply_or_fault (reply.Fault fault) = Err fault
reply_or_fault other = Ok other

-- the two add up to 0
abbrev pub add_up_to_zero : List ℤ → Bool
add_up_to_zero accounts = int_eq (slice_index_or accounts 0 (pos 0) +ℤ slice_index_or accounts 1 (pos 0)) (pos 0)
