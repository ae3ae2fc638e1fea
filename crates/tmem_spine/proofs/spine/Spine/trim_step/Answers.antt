use Rattle.std.proofs.Common.{arith, sym, ◌∙◌}
use Rattle.tmem_spine.proofs.Allowed.{trims}
use Rattle.tmem_spine.proofs.spine.Spine.trim_step.Goals as goal

pub load-requires : goal.load-requires
load-requires g c =
    let spine = c.args.self.now.named in
    (c.core.invariant.table ∙ sym spine.0, omega (arith, spine.2), trims _ _ _ _ _ (rw c.core.view_is c.requires))
