use Rattle.std.proofs.Common.{◌<◌, ◌^◌, arith}
use Rattle.tmem_invariants.proofs.Laws.{clear_is_less, has_index-clear}
use Rattle.tmem_tables.proofs.indices.without_index.Goals as goal

pub returns-clause-others : goal.returns-clause-others
returns-clause-others c = λ other. let fits : c.args.indices < 2 ^ 64 = omega arith in has_index-clear c.args.indices c.args.index other fits c.requires

pub returns-clause-less : goal.returns-clause-less
returns-clause-less c = λ there. clear_is_less c.args.indices c.args.index c.requires there
