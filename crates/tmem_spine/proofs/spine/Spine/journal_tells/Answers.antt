use Rattle.std.proofs.Common.{arith, sym, ◌∙◌}
use Rattle.tmem_spine.proofs.Noted.{journal_notes}
use Rattle.tmem_spine.proofs.spine.Spine.journal_tells.Goals as goal

pub split_seat-requires : goal.split_seat-requires
split_seat-requires g c =
    let spine = c.args.self.now.named in
    (c.journal.invariant.table ∙ sym spine.0, omega (arith, spine.2), journal_notes _ _ _ (rw c.journal.view_is c.requires) (c.journal.invariant.based ∙ sym spine.1))
