use Rattle.std.proofs.Common.{arith, sym, ◌∙◌}
use Rattle.tmem_spine.proofs.Noted.{pass_notes}
use Rattle.tmem_spine.proofs.spine.Spine.pass_tells.Goals as goal

pub split_seat-requires : goal.split_seat-requires
split_seat-requires g c =
    let spine = c.args.self.now.named in
    (c.pass.invariant.table ∙ sym spine.0, omega (arith, spine.2), pass_notes _ _ _ (c.pass.invariant.based ∙ sym spine.1))
