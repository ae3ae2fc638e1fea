use Rattle.std.proofs.Common.{◌≡◌, take}
use Rattle.tmem_core.proofs.Trials.{olds_of}
use Rattle.tmem_core.proofs.trial.save.Given as goal

abbrev pub invariant-loop-i : goal.invariant-loop-i
invariant-loop-i l = take l.i l.into ≡ olds_of l.values (take l.i l.writes)
