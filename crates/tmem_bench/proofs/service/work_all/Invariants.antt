use Rattle.std.proofs.Common.{◌≡◌}
use Rattle.tmem_bench.specs.declared.figures.Work.TheVariants.{OnStore}
use Rattle.tmem_bench.proofs.service.work_all.Given as goal

abbrev pub invariant-loop-had : goal.invariant-loop-had
invariant-loop-had g l = l.sum.work ≡ OnStore l.fn.job.act
