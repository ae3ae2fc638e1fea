use Rattle.std.proofs.Common.{◌≡◌}
use Rattle.tmem_bench.specs.declared.figures.Work.TheVariants.{OnStore}
use Rattle.tmem_bench.proofs.service.settle_until.Given as goal

abbrev pub invariant-loop : goal.invariant-loop
invariant-loop g l = l.had.work ≡ OnStore l.job.act
