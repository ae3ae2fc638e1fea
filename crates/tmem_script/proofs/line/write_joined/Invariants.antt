use Rattle.std.proofs.Common.{◌∷◌, get_or, pos, take}
use Rattle.std.specs.Fmt.{HasWritten, IsPlainFormatter}
use Rattle.tmem_script.specs.Lines.{numbers_joined}
use Rattle.tmem_script.proofs.line.write_joined.Given as goal

abbrev pub invariant-loop-other : goal.invariant-loop-other
invariant-loop-other g l =
    IsPlainFormatter l.fn.f → HasWritten g.W.Write.write_str_gives l.fn.f (numbers_joined (get_or l.numbers 0 (pos 0) ∷ take l.other-index l.others)) l.f
