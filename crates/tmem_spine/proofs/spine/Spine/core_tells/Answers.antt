use Rattle.std.proofs.Common.{arith, sym, ◌∙◌}
use Rattle.tmem_spine.proofs.Noted.{core_notes}
use Rattle.tmem_spine.proofs.spine.Spine.core_tells.Goals as goal

pub split_seat-requires : goal.split_seat-requires
split_seat-requires g c =
    let spine = c.args.self.now.named in
    (c.core.invariant.table ∙ sym spine.0, omega (arith, spine.2), core_notes _ _ _ (rw c.core.view_is c.requires) (c.core.invariant.based ∙ sym spine.1))
