use Rattle.std.proofs.Common.{◌≡◌}
use Rattle.tmem_world.specs.Represents.{numbers_of}
use Rattle.tmem_transfer.proofs.commit.Given as goal

abbrev pub invariant-loop : goal.invariant-loop
invariant-loop g l = numbers_of l.world ≡ numbers_of l.fn.world
