use Rattle.std.proofs.Common.{rules, refl, ap, w64, ◌∙◌}
use Rattle.std.specs.Fmt.{signed_decimal}
use Rattle.std.proofs.Math.Facts.{to_z-of_z}
use Rattle.tmem_invariants.specs.Meanings.{value_of}
use Rattle.tmem_world.specs.WorldModel.{present}
use Rattle.tmem_run.proofs.Listing.{values_written}
use Rattle.tmem_run.proofs.print.print_values.Goals as goal

pub loop-var-preserved : goal.loop-var-preserved
loop-var-preserved g c = λ program m at.
    values_written (λ v. signed_decimal (value_of (present program m).values v)) c.loop-var.var _ _ _ _ _ refl (ap signed_decimal (to_z-of_z {w = w64} {z = c.value.result} (search (rules, c.value.type_inv)) ∙ c.value.ensures program m at)) (c.loop-var.invariant program m at) c.in_ok-print_item.ensures.item
