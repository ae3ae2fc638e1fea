use Rattle.std.proofs.Common.{rules}
use Rattle.tmem_effect.proofs.WritesLaws.{value_in-find}
use Rattle.tmem_effect.proofs.writes.Writes.get.Goals as goal

pub returns : goal.returns
returns c = rw (value_in-find c.args.self.now c.args.var) (search rules)
