use Rattle.std.proofs.Common.{arith, ap}
use Rattle.tmem_spine.specs.declared.view.SeatView.{SeatView}
use Rattle.tmem_spine.proofs.Noted.{begins}
use Rattle.tmem_spine.proofs.opened.Opened.named.Goals as goal

pub split_seat-journal-requires : goal.split_seat-journal-requires
split_seat-journal-requires g c =
    let is = c.self.invariant in
    let o = c.self.inside in
    (is.2.table, omega (arith, is.1), begins o.table.shared.key o.seat.id o.seat.me.0 (ap (λ (v : SeatView). v.role) is.3) (ap (λ (v : SeatView). v.start) is.3))
