use Rattle.tmem_requests.proofs.Puts.{one_name_more}
use Rattle.tmem_requests.proofs.attempt.put_names.Goals as goal

pub loop-name-preserved : goal.loop-name-preserved
loop-name-preserved c =
    rw (c.put.ensures, c.loop-name.invariant)
    (one_name_more c.args.names.now c.loop-name.name-index c.name-item.result c.loop-name-test.true c.name-item.is c.requires.once)
