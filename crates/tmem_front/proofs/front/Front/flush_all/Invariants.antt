use Rattle.std.proofs.Common.{◌≡◌}
use Rattle.tmem_spine.specs.History.{count}
use Rattle.tmem_seats.specs.Settling.{SeesMore}
use Rattle.tmem_front.proofs.front.Front.flush_all.Given as goal

-- the pass saw more, and knows as many as were counted
abbrev pub invariant-loop : goal.invariant-loop
invariant-loop g l = record {
  sees : SeesMore l.fn.pass l.pass;
  known : l.known ≡ count g.N.Naming.name.start l.pass.known;
}
