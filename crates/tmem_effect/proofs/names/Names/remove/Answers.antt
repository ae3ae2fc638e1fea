use Rattle.std.proofs.Common.{arith}
use Rattle.tmem_effect.proofs.NamesRemoved.{AreChecks-without_name}
use Rattle.tmem_effect.proofs.names.Names.remove.Goals as goal

pub invariant_of-self : goal.invariant_of-self
invariant_of-self c = (rw c.keep_others-self-inside.ensures.kept (AreChecks-without_name _ _ c.self.invariant.0), omega (arith, c.keep_others-self-inside.ensures.fewer, c.self.invariant.1))
