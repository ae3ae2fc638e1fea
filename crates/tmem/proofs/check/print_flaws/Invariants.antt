use Rattle.std.proofs.Common.{take}
use Rattle.std.specs.Io.KnownBytes.{Appends}
use Rattle.tmem.specs.Checked.{lines_of}
use Rattle.tmem.proofs.check.print_flaws.Given as goal

abbrev pub invariant-loop-flaw : goal.invariant-loop-flaw
invariant-loop-flaw g l = Appends (g.W.Write.contents l.fn.out) (g.W.Write.contents l.out) (lines_of (take l.flaw-index l.flaws))
