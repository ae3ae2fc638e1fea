use Rattle.std.proofs.Common.{◌≡◌, take}
use Rattle.tmem_requests.proofs.attempt.put_writes.Given as goal

abbrev pub invariant-loop-pair : goal.invariant-loop-pair
invariant-loop-pair l = l.into ≡ take l.pair-index l.pairs
