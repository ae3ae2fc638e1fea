use Rattle.std.proofs.Common.{ℕ, length, ap, sym, subst}
use Rattle.tmem_disk.specs.Disk.{LeavesOnly}
use Rattle.tmem_journal.specs.Held.{journal_device, journal_layout, journal_state, doubtful_of}
use Rattle.tmem_journal.specs.Contents.{ContentRepresentsEither}
use Rattle.tmem_seats.specs.Histories.{state_after_history}
use Rattle.tmem_seats.proofs.Leaves.{leaves}
use Rattle.tmem_seats.proofs.journal_seat.JournalSeat.into_disk.Goals as goal

pub returns : goal.returns
returns g c =
    let seat = c.args.self in
    let opening = g.N.StoreNaming.opening in
    let j = seat.journal in
    let left = leaves (journal_device j) (journal_layout j).vars (journal_layout j).slots (journal_state j) (state_after_history opening seat.side.durable) (doubtful_of j) (state_after_history opening seat.side.aimed) seat.state seat.doubt j.stands in
    let over = subst (λ (k : ℕ). LeavesOnly (journal_device j) (ContentRepresentsEither k (journal_layout j).slots (state_after_history opening seat.side.durable) (state_after_history opening seat.side.aimed))) seat.over left in
    subst (λ d. LeavesOnly d (ContentRepresentsEither (length opening.values) (journal_layout j).slots (state_after_history opening seat.side.durable) (state_after_history opening seat.side.aimed))) (ap (λ k. g.D.Disk.view k) (sym c.into_disk.ensures)) over
