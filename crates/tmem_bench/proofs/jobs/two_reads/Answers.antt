use Rattle.std.proofs.Common.{rules}
use Rattle.tmem_bench.proofs.jobs.two_reads.Goals as goal

pub returns : goal.returns
returns c = (c.in_ok-vec.field-0, c.all_of.ensures.is, search rules)
