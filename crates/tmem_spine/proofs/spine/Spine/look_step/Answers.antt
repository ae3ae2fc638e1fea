use Rattle.std.proofs.Common.{arith, sym, ◌∙◌}
use Rattle.tmem_spine.proofs.Allowed.{looks}
use Rattle.tmem_spine.proofs.spine.Spine.look_step.Goals as goal

pub load-requires : goal.load-requires
load-requires g c =
    let spine = c.args.self.now.named in
    (c.pass.invariant.table ∙ sym spine.0, omega (arith, spine.2), looks _ _ _ _ _ (rw c.pass.view_is c.requires))
