use Rattle.std.proofs.Common.{ℕ, ◌≡◌, length, arith, sym, ap, ◌∙◌, subst}
use Rattle.atomic_table.specs.Table.{Me}
use Rattle.tmem_spine.specs.declared.view.SeatView.{SeatView}
use Rattle.tmem_spine.proofs.Noted.{gains_note}
use Rattle.tmem_spine.proofs.Owning.{pass_one}
use Rattle.tmem_spine.specs.Rule.{IsPass}
use Rattle.tmem_spine.specs.History.{marked_effect, HasAt}
use Rattle.tmem_spine.proofs.spine.Spine.gain_step.Goals as goal

pub join_seat-requires : goal.join_seat-requires
join_seat-requires g c =
    let spine = c.args.self.now.named in
    let from = c.note.invariant in
    let seat = c.pass.inside.seat in
    let note = c.note.inside.seat in
    let is = c.pass.view_is in
    let x = g.C.Choice.picked.effect in
    let known = ap (λ (v : SeatView). length v.known) is in
    let number = c.requires.choice.2 in
    let same : g.C.Choice.picked ≡ marked_effect seat.me.0.mark x = ap (λ m. marked_effect m x) (c.requires.choice.0 ∙ sym (ap (λ (v : SeatView). v.mark) is)) in
    let at : HasAt c.args.self.now.table.shared.key note.me.0.known g.C.Choice.number (marked_effect seat.me.0.mark x) = rw (c.note.view_is, spine.1, number, ← same) c.requires.stands in
    (c.pass.invariant.table ∙ sym spine.0, from.table ∙ sym spine.0, from.empty, omega (arith, spine.2), gains_note _ _ _ _ _ g.C.Choice.number x (rw is c.requires.role) (rw (is, c.note.view_is) c.requires.begins) (omega (arith, c.requires.behind, known, spine.1, number)) at)

pub returns-clause-is_pass : goal.returns-clause-is_pass
returns-clause-is_pass g c =
    let start = g.N.Naming.name.start in
    let seat = c.pass.inside.seat in
    let note = c.note.inside.seat in
    let is = c.pass.view_is in
    let x = g.C.Choice.picked.effect in
    let known = ap (λ (v : SeatView). length v.known) is in
    let number = c.requires.choice.2 in
    let same : g.C.Choice.picked ≡ marked_effect seat.me.0.mark x = ap (λ m. marked_effect m x) (c.requires.choice.0 ∙ sym (ap (λ (v : SeatView). v.mark) is)) in
    let at : HasAt start note.me.0.known g.C.Choice.number (marked_effect seat.me.0.mark x) = rw (c.note.view_is, number, ← same) c.requires.stands in
    subst (λ (m : Me ℕ SeatView). IsPass start m.0) (sym c.join_seat.ensures.2) (pass_one start seat.me.0 note.me.0.known g.C.Choice.number x (rw is c.requires.is_pass) (rw (is, c.note.view_is) c.requires.begins) (omega (arith, c.requires.behind, known, number)) at)
