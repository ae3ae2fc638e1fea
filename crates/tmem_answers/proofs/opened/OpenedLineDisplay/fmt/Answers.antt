use Rattle.std.proofs.Common.{String, Global, ℕ, codes, decimal, string_bytes}
use Rattle.std.proofs.Output.{has_written_of_eq}
use Rattle.tmem_answers.specs.Answers.{name_text, texts_joined}
use Rattle.tmem_answers.proofs.Texts.{opened_text, texts_of_map}
use Rattle.tmem_answers.proofs.opened.OpenedLineDisplay.fmt.Goals as goal

pub returns-clause-writes : goal.returns-clause-writes
returns-clause-writes g c = λ plain ok.
    let names = c.args.self.now.names.now in
    let is = opened_text (codes "{\"opened\":") (decimal c.args.self.now.opened) (codes ",\"vars\":") (decimal c.args.self.now.vars) (codes ",\"names\":{")
    (texts_joined (λ (n : String Global × ℕ). name_text (string_bytes n.0, n.1)) names) (codes "}}") in
    rw (texts_of_map name_text (λ (n : String Global × ℕ). (string_bytes n.0, n.1)) names) (has_written_of_eq _ _ _ _ _ is (c.write.ensures.writes plain ok))
