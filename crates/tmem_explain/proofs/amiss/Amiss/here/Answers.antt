use Rattle.tmem_explain.proofs.Amisses.{amiss_here}
use Rattle.tmem_explain.proofs.amiss.Amiss.here.Goals as goal

pub returns-clause-amiss : goal.returns-clause-amiss
returns-clause-amiss c = λ d is. amiss_here c.args.expected c.new.result.items d c.new.ensures.items is
