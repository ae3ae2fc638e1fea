use Rattle.std.proofs.Common.{arith}
use Rattle.std.proofs.lemmas.Grind.{elements}
use Rattle.tmem_tree.proofs.signature.signature_at.Goals as goal

pub of-requires : goal.of-requires
of-requires g c = grind (arith, elements)

pub returns-clause-within : goal.returns-clause-within
returns-clause-within g c = grind (arith, elements)

pub returns-clause-name : goal.returns-clause-name
returns-clause-name g c = c.name.ensures

pub returns-clause-footprint : goal.returns-clause-footprint
returns-clause-footprint g c = rw c.of.ensures c.footprint.ensures

pub returns-clause-meant : goal.returns-clause-meant
returns-clause-meant g c = grind (arith, elements)
