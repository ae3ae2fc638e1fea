use Rattle.std.proofs.Common.{◌≡◌, take, map}
use Rattle.tmem_tree.specs.Run.{register}
use Rattle.tmem_tentative.proofs.walk.gather.Given as goal

abbrev pub invariant-loop-i : goal.invariant-loop-i
invariant-loop-i l = take l.i l.into ≡ map (register l.registers) (take l.i l.args)
