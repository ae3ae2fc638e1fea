use Rattle.std.proofs.lemmas.Result.{IfOk-weaker}
use Rattle.tmem.proofs.show.show_file.Goals as goal

pub returns-clause-opens : goal.returns-clause-opens
returns-clause-opens g c = IfOk-weaker c.show_source.result _ _ (λ done so. (c.in_ok-source.source.bytes.items, so)) c.show_source.ensures.opens
