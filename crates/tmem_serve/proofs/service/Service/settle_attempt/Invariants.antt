use Rattle.tmem_seats.specs.Settling.{KnowsMore}
use Rattle.tmem_serve.proofs.service.Service.settle_attempt.Given as goal

-- the attempts so far committed nothing
abbrev pub invariant-loop : goal.invariant-loop
invariant-loop g l = KnowsMore l.fn.pass l.pass
