use Rattle.std.proofs.Common.{ℕ, arith, sym, ◌∙◌, subst}
use Rattle.atomic_table.specs.Table.{Me}
use Rattle.tmem_spine.specs.declared.view.SeatView.{SeatView}
use Rattle.tmem_spine.proofs.Noted.{meets_core_note}
use Rattle.tmem_spine.proofs.Owning.{pass_more}
use Rattle.tmem_spine.specs.Rule.{IsPass}
use Rattle.tmem_spine.proofs.spine.Spine.meet_core_step.Goals as goal

pub join_seat-requires : goal.join_seat-requires
join_seat-requires g c =
    let spine = c.args.self.now.named in
    let from = c.note.invariant in
    (c.pass.invariant.table ∙ sym spine.0, from.table ∙ sym spine.0, from.empty, omega (arith, spine.2), meets_core_note _ _ _ _ _ (rw c.pass.view_is c.requires.role) (rw (c.pass.view_is, c.note.view_is) c.requires.begins))

pub returns-clause-is_pass : goal.returns-clause-is_pass
returns-clause-is_pass g c =
    subst (λ (m : Me ℕ SeatView). IsPass g.N.Naming.name.start m.0) (sym c.join_seat.ensures.2)
    (pass_more g.N.Naming.name.start c.pass.inside.seat.me.0 c.note.inside.seat.me.0.known (rw c.pass.view_is c.requires.is_pass) (rw (c.pass.view_is, c.note.view_is) c.requires.begins))
