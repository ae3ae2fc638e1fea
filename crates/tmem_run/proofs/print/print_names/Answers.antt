use Rattle.std.proofs.Common.{◌<◌, ℕ, List, length, sym, ◌∙◌, arith}
use Rattle.tmem_fault.specs.Name.{has_name}
use Rattle.tmem_world.specs.WorldModel.{present}
use Rattle.tmem_run.proofs.Listing.{name_written, name_passed}
use Rattle.tmem_run.proofs.print.print_names.Goals as goal
use Rattle.tmem_run.proofs.print.print_names.Goals.{then-has+in_ok-print_item, else-has}

pub loop-name-preserved : goal.loop-name-preserved
loop-name-preserved g c =
    let so = c.loop-name.invariant in
    let below : c.loop-name.name-index < length c.names-names.result = omega (arith, c.loop-name-test.true, c.type_inv.name-items) in (
      so.0,
      λ program m at.
          let p = λ (name : List ℕ). has_name (present program m).names name in
          let asked = sym (c.has.ensures program m at) in
          elim c.if-has.branch [
            | then-has+in_ok-print_item w ↦
                rw (w.out-is, w.is_first-is)
                (name_written p c.names-names.result c.loop-name.name-index c.name-item.result _ _ _ c.loop-name.is_first below (asked ∙ w.if-has.true) (so.1 program m at)
                w.in_ok-print_item.ensures.item)
            | else-has w ↦
                rw (w.out-is, w.is_first-is)
                (name_passed p c.names-names.result c.loop-name.name-index c.name-item.result _ _ c.loop-name.is_first below (asked ∙ w.if-has.false) (so.1 program m at))
          ],
    )
