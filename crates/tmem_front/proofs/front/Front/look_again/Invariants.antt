use Rattle.tmem_seats.specs.Settling.{SeesMore}
use Rattle.tmem_front.proofs.front.Front.look_again.Given as goal

-- the looks so far left the pass as it was, but for what it saw
abbrev pub invariant-loop : goal.invariant-loop
invariant-loop g l = SeesMore l.fn.pass l.pass
