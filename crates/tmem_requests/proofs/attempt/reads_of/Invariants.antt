use Rattle.std.proofs.Common.{◌≡◌, take}
use Rattle.tmem_requests.proofs.attempt.reads_of.Given as goal

abbrev pub invariant-loop-pair : goal.invariant-loop-pair
invariant-loop-pair l = l.reads.entries ≡ take l.pair-index l.pairs
