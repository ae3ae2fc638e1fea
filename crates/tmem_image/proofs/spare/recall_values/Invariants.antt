use Rattle.std.proofs.Common.{take}
use Rattle.tmem_image.specs.Spelling.{AreValues}
use Rattle.tmem_image.proofs.spare.recall_values.Given as goal

abbrev pub invariant-loop-value : goal.invariant-loop-value
invariant-loop-value l = AreValues (take l.value-index l.values)
