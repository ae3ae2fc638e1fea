use Rattle.std.proofs.Common.{ap, ◌∙◌}
use Rattle.tmem_effect.specs.State.{State}
use Rattle.tmem_seats.proofs.Seated.{count-after}
use Rattle.tmem_seats.proofs.journal_seat.JournalSeat.count.Goals as goal

pub returns : goal.returns
returns g c =
    let seat = c.args.self.now in
    c.count.ensures ∙ (ap (λ (s : State). s.count) seat.state ∙ count-after g.N.StoreNaming.opening g.N.Naming.name.start seat.side.durable seat.starts)
