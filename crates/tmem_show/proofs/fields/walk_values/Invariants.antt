use Rattle.std.proofs.Common.{◌-◌}
use Rattle.tmem_show.proofs.fields.walk_values.Given as goal

abbrev pub decreases-loop-var : goal.decreases-loop-var
decreases-loop-var l = l.vars - l.var
