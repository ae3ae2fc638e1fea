use Rattle.tmem_effect.proofs.NamesRemoved.{AreApart-check}
use Rattle.tmem_effect.proofs.effect.Effect.check.Goals as goal

pub returns-clause-apart : goal.returns-clause-apart
returns-clause-apart c = λ apart. rw (c.put.ensures, c.remove.ensures) (AreApart-check _ _ _ apart)
