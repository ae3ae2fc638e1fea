use Rattle.std.proofs.Common.{rules}
use Rattle.tmem_effect.proofs.WritesLaws.{is_some-value_in}
use Rattle.tmem_effect.proofs.writes.Writes.has.Goals as goal

pub returns : goal.returns
returns c = rw (is_some-value_in c.args.self.now c.args.var) (search rules)
