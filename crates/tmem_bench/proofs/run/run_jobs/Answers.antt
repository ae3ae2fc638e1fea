use Rattle.std.proofs.lemmas.Grind.{common_steps}
use Rattle.std.proofs.Common.{◌+◌, arith}
use Rattle.tmem_bench.proofs.Lines.{one_more}
use Rattle.tmem_bench.proofs.run.run_jobs.Goals as goal

pub loop-index-preserved : goal.loop-index-preserved
loop-index-preserved g c =
    let had = c.loop-index.invariant.0 in (
      (had.0 + 1, one_more _ _ _ had.0 c.as_str.result.now had.1 c.in_ok-print_line-2.ensures, omega (arith, had.2)),
      omega (arith, c.loop-index-test.true),
    )

pub returns : goal.returns
returns g c = grind (arith, common_steps)
