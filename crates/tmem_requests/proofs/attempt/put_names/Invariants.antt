use Rattle.std.proofs.Common.{◌≡◌, take}
use Rattle.tmem_requests.proofs.attempt.put_names.Given as goal

abbrev pub invariant-loop-name : goal.invariant-loop-name
invariant-loop-name l = l.into ≡ take l.name-index l.names
