-- The record of a file's calls as the code keeps it.
use Rattle.std.specs.Prelude.{◌≡◌, ◌⊎◌, ℕ, List, [], ◌∷◌, length}
use Rattle.tmem_file.specs.Record.{FileEvent, gave, holds, tore, synced, lost}
use Rattle.tmem_file.specs.Bytes.{bytes_in}
use Rattle.tmem_file.specs.declared.calls.Range.{Range}
use Rattle.tmem_file.specs.declared.record.FileCall.{FileCall}
use Rattle.tmem_file.specs.declared.record.FileCall.TheVariants.{Gave, Holds, Tore, Synced, Lost}
use Rattle.tmem_file.specs.declared.record.Calls.{Calls}
use Rattle.tmem_file.specs.declared.record.Calls.TheVariants.{Start, After'}

-- the bytes of a range
abbrev pub range_bytes : Range → List ℕ
range_bytes range = bytes_in range.bytes

-- what came of a call
abbrev pub event_of : FileCall → FileEvent
event_of (Gave range) = gave range.at (range_bytes range)
event_of (Holds range) = holds range.at (range_bytes range)
event_of (Tore at n) = tore at n
event_of (Synced it) = synced
event_of Lost = lost

-- the range that the file gave when it was opened
abbrev pub first_range : Calls → Range
first_range (Start range) = range.value
first_range (After' call shape earlier) = first_range earlier

-- the bytes of that
abbrev pub start_of : Calls → List ℕ
start_of calls = range_bytes (first_range calls)

-- what came of its calls since, the newest first
abbrev pub call_events : Calls → List FileEvent
call_events (Start range) = []
call_events (After' call shape earlier) = event_of call.value ∷ call_events earlier

-- after a write of n bytes that failed: what stands in the range now, if that could be read
abbrev pub Spoils : ℕ → ℕ → List FileEvent → List FileEvent → Type 0
Spoils at n old new = ((found : List ℕ) × (length found ≡ n) × (new ≡ holds at found ∷ old)) ⊎ (new ≡ tore at n ∷ old)
