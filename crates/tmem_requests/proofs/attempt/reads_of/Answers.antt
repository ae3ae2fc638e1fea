use Rattle.std.proofs.Common.{pos, get_or, FitsSigned, w64, rules}
use Rattle.std.proofs.lemmas.Int.{to_z-of_z}
use Rattle.tmem_requests.proofs.Each.{read_at}
use Rattle.tmem_requests.proofs.Puts.{one_read_more}
use Rattle.tmem_requests.proofs.attempt.reads_of.Goals as goal

pub loop-pair-preserved : goal.loop-pair-preserved
loop-pair-preserved c =
    let pair = get_or c.args.pairs.now c.loop-pair.pair-index (0, pos 0) in
    let fits : FitsSigned w64 pair.1 = search rules in
    rw (c.in_ok-insert.ensures.entries, to_z-of_z w64 pair.1 fits, c.loop-pair.invariant)
    (one_read_more c.args.pairs.now c.loop-pair.pair-index pair c.loop-pair-test.true (read_at c.args.pairs.now c.loop-pair.pair-index (0, pos 0) c.loop-pair-test.true) c.requires)
