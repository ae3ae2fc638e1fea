use Rattle.tmem_invariants.proofs.IndexSets.{has_index-set}
use Rattle.tmem_invariants.proofs.indices.with_index.Goals as goal

pub returns : goal.returns
returns c = λ other. has_index-set c.args.indices c.args.index other c.requires
