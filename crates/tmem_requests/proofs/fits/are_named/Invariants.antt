use Rattle.std.proofs.Common.{take}
use Rattle.tmem_requests.specs.Fits.{AreNamed}
use Rattle.tmem_requests.proofs.fits.are_named.Given as goal

abbrev pub invariant-loop-name : goal.invariant-loop-name
invariant-loop-name l = AreNamed l.names (take l.name-index l.all)
