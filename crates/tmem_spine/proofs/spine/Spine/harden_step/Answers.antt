use Rattle.std.proofs.Common.{length, arith, sym, ap, ◌∙◌}
use Rattle.tmem_spine.specs.declared.view.SeatView.{SeatView}
use Rattle.tmem_spine.proofs.Allowed.{hardens}
use Rattle.tmem_spine.proofs.spine.Spine.harden_step.Goals as goal

pub fetch_add-requires : goal.fetch_add-requires
fetch_add-requires g c =
    let spine = c.args.self.now.named in
    let durable = ap (λ (v : SeatView). length v.durable) c.journal.view_is in
    let aimed = ap (λ (v : SeatView). length v.aimed) c.journal.view_is in
    (c.journal.invariant.table ∙ sym spine.0, omega (arith, spine.2), hardens _ _ _ _ _ c.args.more (rw c.journal.view_is c.requires.role) (omega (arith, c.requires.more, durable, aimed)))
