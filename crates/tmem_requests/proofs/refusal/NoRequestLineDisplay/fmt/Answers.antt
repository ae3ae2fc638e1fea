use Rattle.std.proofs.Common.{◌++◌, codes, subst}
use Rattle.std.specs.Fmt.{HasWritten, decimal}
use Rattle.tmem_requests.specs.Refusals.{place_text, request_why_text}
use Rattle.tmem_requests.proofs.Written.{six_pieces}
use Rattle.tmem_requests.proofs.refusal.NoRequestLineDisplay.fmt.Goals as goal

pub returns-clause-writes : goal.returns-clause-writes
returns-clause-writes g c = λ plain ok.
    let it = c.args.self.now in
    subst (λ bs. HasWritten g.W.Write.write_str_gives c.args.f.now (codes "{\"line\":" ++ bs) c.write.new.self)
    (six_pieces (decimal it.line) (codes ",\"fault\":0,\"word\":\"norequest\",\"why\":\"") (request_why_text it.refusal.why) (codes "\",\"at\":\"") (place_text it.refusal.at) (codes "\"}"))
    (c.write.ensures.writes plain ok)
