use Rattle.std.proofs.Common.{◌<◌, ◌^◌, arith}
use Rattle.tmem_invariants.proofs.Laws.{lowest_is_there, none_is_lower}
use Rattle.tmem_tables.proofs.indices.lowest_index.Goals as goal

pub returns-clause-there : goal.returns-clause-there
returns-clause-there c = let fits : c.args.indices < 2 ^ 64 = omega arith in lowest_is_there c.args.indices c.requires fits

pub returns-clause-lowest : goal.returns-clause-lowest
returns-clause-lowest c = let fits : c.args.indices < 2 ^ 64 = omega arith in λ other before. none_is_lower c.args.indices c.requires fits other before
