-- What lies under the journal's lock.
use Rattle.std.specs.Prelude.{List}
use Rattle.tmem_effect.specs.declared.effect.Effect.{Effect}
use Rattle.tmem_journal.specs.declared.journal.Journal.{Journal}
use Rattle.tmem_spine.specs.Views.{JournalRoleView}
use Rattle.tmem_seats.specs.declared.journal_seat.JournalSeat.{JournalSeat}

-- the journal under its lock
abbrev pub journal_of : {D N : Type 0} {d n a b : _} → JournalSeat D N d n a b → Journal D d
journal_of j = j.journal

-- its seat
abbrev pub side_of : {D N : Type 0} {d n a b : _} → JournalSeat D N d n a b → JournalRoleView
side_of j = j.side

-- the batch of its flush
abbrev pub batch_of : {D N : Type 0} {d n a b : _} → JournalSeat D N d n a b → List Effect
batch_of j = j.batch
