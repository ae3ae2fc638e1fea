use Rattle.std.proofs.Common.{arith, sym, ◌∙◌}
use Rattle.tmem_spine.proofs.Noted.{core_hears}
use Rattle.tmem_spine.proofs.spine.Spine.core_hears.Goals as goal

pub join_seat-requires : goal.join_seat-requires
join_seat-requires g c =
    let spine = c.args.self.now.named in
    let from = c.note.invariant in
    (c.core.invariant.table ∙ sym spine.0, from.table ∙ sym spine.0, from.empty, omega (arith, spine.2), core_hears _ _ _ _ _ (rw c.core.view_is c.requires))
