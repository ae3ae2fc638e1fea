-- Which attempts events name.
use Rattle.std.specs.Prelude.{ℕ, ◌<◌}
use Rattle.tmem_event.specs.declared.event.Event.{Event}
use Rattle.tmem_event.specs.declared.event.Event.TheVariants.{Begin, Turn, Settle, Flush, Checkpoint, Look, Reopen}

-- the number of the attempt that the event names, or 0 where it names none
abbrev pub attempt_number : Event → ℕ
attempt_number (Begin slot tx) = slot
attempt_number (Turn slot) = slot
attempt_number (Settle slot) = slot
attempt_number Flush = 0
attempt_number Checkpoint = 0
attempt_number Look = 0
attempt_number Reopen = 0

-- it is one of 16
abbrev pub NamesAttempt : Event → Type 0
NamesAttempt event = attempt_number event < 16
