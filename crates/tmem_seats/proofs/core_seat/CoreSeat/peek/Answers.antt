use Rattle.std.proofs.Common.{◌≡◌, List, length, ap, ◌∙◌, subst}
use Rattle.tmem_effect.specs.State.{State}
use Rattle.tmem_core.specs.Held.{core_state}
use Rattle.tmem_effect.proofs.Laws.{IsPrefix-self}
use Rattle.tmem_spine.specs.declared.view.MarkedEffect.{MarkedEffect}
use Rattle.tmem_seats.specs.Histories.{state_after_history, IsSoundState}
use Rattle.tmem_seats.specs.Seats.{CoreSeatView}
use Rattle.tmem_seats.proofs.Seated.{values-after}
use Rattle.tmem_seats.proofs.core_seat.CoreSeat.peek.Goals as goal

pub peek-requires : goal.peek-requires
peek-requires g c =
    let opening = g.N.StoreNaming.opening in
    let same : length (core_state c.self.inside.core).values ≡ length opening.values =
    ap (λ (s : State). length s.values) c.self.invariant.state ∙ values-after opening c.self.inside.side.committed in
    rw same c.requires

pub returns-clause-sound : goal.returns-clause-sound
returns-clause-sound g c =
    let log = c.self.inside.side.committed in
    subst (λ (l : List MarkedEffect). IsSoundState g.N.ProgramNaming.program (state_after_history g.N.StoreNaming.opening l)) (ap (λ (v : CoreSeatView). v.committed) c.self.view_is) (c.self.invariant.sound log (IsPrefix-self log))
