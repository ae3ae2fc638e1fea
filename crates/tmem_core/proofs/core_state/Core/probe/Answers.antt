use Rattle.std.proofs.lemmas.Option.{slice_get_within}
use Rattle.tmem_core.proofs.core_state.Core.probe.Goals as goal

pub answer-requires-clause-there : goal.answer-requires-clause-there
answer-requires-clause-there g c = slice_get_within (g.T.Invariants.names c.args.self.now.table) c.in-Some.index c.args.probe.now.name c.in-Some.ensures.index
