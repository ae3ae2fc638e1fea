use Rattle.std.proofs.Common.{arith, sym, ap, ◌∙◌}
use Rattle.tmem_spine.specs.declared.view.SeatView.{SeatView}
use Rattle.tmem_spine.proofs.Noted.{passes}
use Rattle.tmem_spine.proofs.spine.Spine.give_step.Goals as goal

pub split_seat-requires : goal.split_seat-requires
split_seat-requires g c =
    let spine = c.args.self.now.named in
    let given = ap (λ (v : SeatView). v.given) c.core.view_is in
    (c.core.invariant.table ∙ sym spine.0, omega (arith, spine.2), passes _ _ _ (rw c.core.view_is c.requires.role) (c.core.invariant.based ∙ sym spine.1) (omega (arith, given, c.requires.few)))
