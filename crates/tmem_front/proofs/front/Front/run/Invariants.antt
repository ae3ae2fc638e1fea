use Rattle.tmem_seats.specs.Settling.{KnowsMore}
use Rattle.tmem_front.proofs.front.Front.run.Given as goal

-- what was settled so far left the pass as it was, but for what it knows
abbrev pub invariant-loop : goal.invariant-loop
invariant-loop g l = KnowsMore l.fn.pass l.pass-inside.seat
