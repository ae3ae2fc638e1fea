use Rattle.std.proofs.Common.{get_or, pos, rules, w64, FitsSigned}
use Rattle.tmem_image.proofs.Pages.{number_more}
use Rattle.tmem_image.proofs.spare.recall_values.Goals as goal

pub loop-value-preserved : goal.loop-value-preserved
loop-value-preserved c =
    let fits : FitsSigned w64 (get_or c.args.values.now c.loop-value.value-index (pos 0)) = search rules in
    number_more c.args.values.now c.loop-value.value-index c.loop-value-test.true c.loop-value.invariant fits
