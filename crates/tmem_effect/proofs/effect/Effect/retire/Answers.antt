use Rattle.tmem_effect.proofs.NamesRemoved.{AreApart-retire}
use Rattle.tmem_effect.proofs.effect.Effect.retire.Goals as goal

pub returns-clause-apart : goal.returns-clause-apart
returns-clause-apart c = λ apart. rw (c.put.ensures, c.remove.ensures) (AreApart-retire _ _ _ apart)
