use Rattle.std.proofs.Common.{arith, rules}
use Rattle.tmem_explain.proofs.Amisses.{no_name}
use Rattle.tmem_explain.proofs.plan.is_known.Goals as goal

pub returns : goal.returns
returns c = no_name c.args.vars c.args.name.now (omega (arith, c.if-vars-lt4.false)) (search rules) (search rules) (search rules)
