use Rattle.std.proofs.Common.{IfErr, subst}
use Rattle.tmem_explain.specs.Flaws.{TellsCause}
use Rattle.tmem_explain.proofs.amiss.inside.Goals as goal

pub returns-in-Err-clause-cause : goal.returns-in-Err-clause-cause
returns-in-Err-clause-cause g c = λ cause vars total told.
    c.behind.ensures.cause cause vars total (subst (λ found. IfErr found (λ amiss. TellsCause cause vars total amiss.expected)) c.in-Err.is told)

pub returns-in-Err-clause-told : goal.returns-in-Err-clause-told
returns-in-Err-clause-told g c = λ plan. (c.in-Err.amiss, c.in-Err.is, c.behind.ensures.told plan)
