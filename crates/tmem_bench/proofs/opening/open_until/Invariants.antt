use Rattle.std.proofs.Common.{◌≡◌}
use Rattle.tmem_bench.specs.declared.figures.Work.TheVariants.{Open, ReadTwice}
use Rattle.tmem_bench.proofs.opening.open_until.Given as goal

abbrev pub invariant-loop : goal.invariant-loop
invariant-loop g l = (l.opened.work ≡ Open) × (l.read.work ≡ ReadTwice)
