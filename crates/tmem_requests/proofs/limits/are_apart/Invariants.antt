use Rattle.std.proofs.Common.{take}
use Rattle.tmem_effect.specs.Names.{AreApart}
use Rattle.tmem_requests.proofs.limits.are_apart.Given as goal

abbrev pub invariant-loop-name : goal.invariant-loop-name
invariant-loop-name l = AreApart (take l.name-index l.names) l.others
