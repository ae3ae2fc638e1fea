use Rattle.std.proofs.Common.{length, arith, sym, ap, ◌∙◌}
use Rattle.tmem_spine.specs.declared.view.SeatView.{SeatView}
use Rattle.tmem_spine.proofs.Allowed.{aims}
use Rattle.tmem_spine.proofs.spine.Spine.aim_step.Goals as goal

pub load-requires : goal.load-requires
load-requires g c =
    let spine = c.args.self.now.named in
    let based = c.journal.invariant.based in
    let known = ap (λ (v : SeatView). length v.known) c.journal.view_is in
    let durable = ap (λ (v : SeatView). length v.durable) c.journal.view_is in
    (c.journal.invariant.table ∙ sym spine.0, omega (arith, spine.2), aims _ _ _ _ _ g.C.Choice.number (rw c.journal.view_is c.requires.role) (omega (arith, c.requires.least, c.requires.choice)) (omega (arith, c.requires.most, c.requires.choice)))
