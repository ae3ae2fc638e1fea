use Rattle.std.proofs.Common.{codes, decimal}
use Rattle.std.proofs.Output.{has_written_of_eq}
use Rattle.std.specs.Fmt.{signed_decimal}
use Rattle.tmem_answers.specs.Answers.{texts_joined}
use Rattle.tmem_answers.proofs.Texts.{end_text}
use Rattle.tmem_answers.proofs.line.write_end.Goals as goal

pub returns : goal.returns
returns g c = λ plain ok.
    let is = end_text (codes "\"") c.args.key.now (codes "\":") (decimal c.args.number) (codes ",\"registers\":") (codes "[") (texts_joined signed_decimal c.without_last_zeros.result.now) (codes "]") in
    rw (← c.without_last_zeros.ensures) (has_written_of_eq _ _ _ _ _ is (c.write.ensures.writes plain ok))
