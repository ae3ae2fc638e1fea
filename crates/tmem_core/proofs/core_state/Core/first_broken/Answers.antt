use Rattle.std.proofs.Common.{length}
use Rattle.tmem_core.proofs.Indices.{writes_within}
use Rattle.tmem_core.proofs.core_state.Core.first_broken.Goals as goal

pub first_false-requires-clause-variables : goal.first_false-requires-clause-variables
first_false-requires-clause-variables g c = writes_within (length c.args.self.now.state.values) c.args.effect.now.writes c.requires.variables
