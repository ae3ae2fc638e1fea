use Rattle.std.proofs.Common.{rules}
use Rattle.tmem_explain.proofs.Amisses.{amiss_here}
use Rattle.tmem_explain.specs.declared.expected.Expected.TheVariants.{Script}
use Rattle.tmem_explain.proofs.amiss.Amiss.unknown.Goals as goal

pub returns-clause-amiss : goal.returns-clause-amiss
returns-clause-amiss c = λ d. amiss_here Script _ d (search rules) tt
