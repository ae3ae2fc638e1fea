use Rattle.std.proofs.Common.{arith, sym, ◌∙◌}
use Rattle.tmem_spine.proofs.Allowed.{stays}
use Rattle.tmem_spine.proofs.spine.Spine.stay_step.Goals as goal

pub load-requires : goal.load-requires
load-requires g c =
    let spine = c.args.self.now.named in
    (c.journal.invariant.table ∙ sym spine.0, omega (arith, spine.2), stays _ _ _ _ _ (rw c.journal.view_is c.requires))
