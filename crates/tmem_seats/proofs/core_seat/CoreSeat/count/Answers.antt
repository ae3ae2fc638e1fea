use Rattle.std.proofs.Common.{◌≡◌, List, ap, ◌∙◌}
use Rattle.tmem_effect.specs.State.{State}
use Rattle.tmem_spine.specs.declared.view.MarkedEffect.{MarkedEffect}
use Rattle.tmem_spine.specs.History.{count}
use Rattle.tmem_seats.specs.Seats.{CoreSeatView}
use Rattle.tmem_seats.proofs.Seated.{count-after}
use Rattle.tmem_seats.proofs.core_seat.CoreSeat.count.Goals as goal

pub returns : goal.returns
returns g c =
    let start = g.N.Naming.name.start in
    let was = c.self.invariant in
    let side = c.self.inside.side in
    let view : side.committed ≡ c.args.self.now.committed = ap (λ (v : CoreSeatView). v.committed) c.self.view_is in
    c.count.ensures ∙ ap (λ (s : State). s.count) was.state ∙ count-after g.N.StoreNaming.opening start side.committed was.starts ∙ ap (λ (l : List MarkedEffect). count start l) view
