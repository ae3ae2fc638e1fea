use Rattle.std.proofs.Common.{length, arith, sym, ap, ◌∙◌}
use Rattle.tmem_spine.specs.declared.view.SeatView.{SeatView}
use Rattle.tmem_spine.proofs.Allowed.{accepts}
use Rattle.tmem_spine.proofs.spine.Spine.accept_step.Goals as goal

pub fetch_add-requires : goal.fetch_add-requires
fetch_add-requires g c =
    let spine = c.args.self.now.named in
    let len = ap (λ (v : SeatView). length v.committed) c.core.view_is in
    (c.core.invariant.table ∙ sym spine.0, omega (arith, spine.2), accepts _ _ _ _ _ g.C.Choice.picked (rw c.core.view_is c.requires.role) (omega (arith, c.requires.room, c.core.invariant.based, len)))
