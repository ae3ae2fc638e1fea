use Rattle.std.proofs.Common.{take}
use Rattle.std.specs.Map.{keys_of}
use Rattle.tmem_fault.specs.Distinct.{AreDistinct}
use Rattle.tmem_requests.proofs.limits.are_distinct.Given as goal

abbrev pub invariant-loop-i : goal.invariant-loop-i
invariant-loop-i l = AreDistinct (take l.i (keys_of l.pairs))
