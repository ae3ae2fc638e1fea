use Rattle.tmem_journal.specs.Held.{journal_device, journal_layout, journal_state, doubtful_of}
use Rattle.tmem_seats.specs.Histories.{state_after_history}
use Rattle.tmem_seats.proofs.Leaves.{leaves}
use Rattle.tmem_seats.proofs.journal_seat.JournalSeat.crash_leaves.Goals as goal

pub returns : goal.returns
returns g c =
    let seat = c.args.self.now in
    let opening = g.N.StoreNaming.opening in
    let j = seat.journal in
    leaves (journal_device j) (journal_layout j).vars (journal_layout j).slots (journal_state j) (state_after_history opening seat.side.durable) (doubtful_of j) (state_after_history opening seat.side.aimed) seat.state seat.doubt j.stands
