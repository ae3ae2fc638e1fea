use Rattle.std.proofs.Common.{take}
use Rattle.tmem_fault.specs.Distinct.{AreDistinct}
use Rattle.tmem_requests.proofs.limits.are_distinct_names.Given as goal

abbrev pub invariant-loop-i : goal.invariant-loop-i
invariant-loop-i l = AreDistinct (take l.i l.names)
