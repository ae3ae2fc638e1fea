use Rattle.std.proofs.Common.{arith, sym, ◌∙◌}
use Rattle.tmem_spine.proofs.Noted.{journal_hears}
use Rattle.tmem_spine.proofs.spine.Spine.journal_hears.Goals as goal

pub join_seat-requires : goal.join_seat-requires
join_seat-requires g c =
    let spine = c.args.self.now.named in
    let from = c.note.invariant in
    (c.journal.invariant.table ∙ sym spine.0, from.table ∙ sym spine.0, from.empty, omega (arith, spine.2), journal_hears _ _ _ _ _ (rw c.journal.view_is c.requires))
