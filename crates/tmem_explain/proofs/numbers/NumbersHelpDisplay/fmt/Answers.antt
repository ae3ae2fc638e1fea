use Rattle.std.proofs.Common.{sym, subst}
use Rattle.std.specs.Fmt.{HasWritten}
use Rattle.tmem_explain.specs.Helps.{numbers_help}
use Rattle.tmem_explain.proofs.numbers.NumbersHelpDisplay.fmt.Goals as goal

pub returns-in-Limits-clause-writes : goal.returns-in-Limits-clause-writes
returns-in-Limits-clause-writes g c = λ plain ok.
    subst (λ it. HasWritten g.W.Write.write_str_gives c.args.f.now (numbers_help it) c.write.new.self) (sym c.in-Limits.is) (c.write.ensures.writes plain ok)

pub returns-in-Other-clause-writes : goal.returns-in-Other-clause-writes
returns-in-Other-clause-writes g c = λ plain ok.
    subst (λ it. HasWritten g.W.Write.write_str_gives c.args.f.now (numbers_help it) c.write-in-Other.new.self) (sym c.in-Other.is) (c.write-in-Other.ensures.writes plain ok)

pub returns-in-Short-clause-writes : goal.returns-in-Short-clause-writes
returns-in-Short-clause-writes g c = λ plain ok.
    subst (λ it. HasWritten g.W.Write.write_str_gives c.args.f.now (numbers_help it) c.write-in-Short.new.self) (sym c.in-Short.is) (c.write-in-Short.ensures.writes plain ok)

pub returns-in-NoRoom-clause-writes : goal.returns-in-NoRoom-clause-writes
returns-in-NoRoom-clause-writes g c = λ plain ok.
    subst (λ it. HasWritten g.W.Write.write_str_gives c.args.f.now (numbers_help it) c.write-in-NoRoom.new.self) (sym c.in-NoRoom.is) (c.write-in-NoRoom.ensures.writes plain ok)

pub returns-in-NotBlank-clause-writes : goal.returns-in-NotBlank-clause-writes
returns-in-NotBlank-clause-writes g c = λ plain ok.
    subst (λ it. HasWritten g.W.Write.write_str_gives c.args.f.now (numbers_help it) c.write-in-NotBlank.new.self) (sym c.in-NotBlank.is) (c.write-in-NotBlank.ensures.writes plain ok)
