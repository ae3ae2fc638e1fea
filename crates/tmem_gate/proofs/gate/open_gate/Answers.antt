use Rattle.tmem_gate.proofs.Calls.{both_at_ok}
use Rattle.tmem_gate.proofs.Putting.{whole_meanwhile, open_stands}
use Rattle.tmem_gate.proofs.gate.open_gate.Goals as goal

pub returns-clause-any_moment : goal.returns-clause-any_moment
returns-clause-any_moment g c = λ body has.
    let it = c.write_and_sync.ensures in
    whole_meanwhile _ _ c.args.at (g.met.D.Disk.is_device c.args.disk.now) it.call.model it.elsewhere body has

pub returns-clause-stands : goal.returns-clause-stands
returns-clause-stands g c = λ body has.
    let it = c.write_and_sync.ensures in
    both_at_ok c.write_and_sync.result (open_stands _ _ c.args.at (g.met.D.Disk.is_device c.args.disk.now) it.call.model it.elsewhere body has c.requires) it.written it.durable

pub returns-clause-call : goal.returns-clause-call
returns-clause-call g c = c.write_and_sync.ensures.call

pub returns-clause-elsewhere : goal.returns-clause-elsewhere
returns-clause-elsewhere g c = c.write_and_sync.ensures.elsewhere

pub returns-clause-written : goal.returns-clause-written
returns-clause-written g c = c.write_and_sync.ensures.written

pub returns-clause-durable : goal.returns-clause-durable
returns-clause-durable g c = c.write_and_sync.ensures.durable

pub returns-clause-unsynced : goal.returns-clause-unsynced
returns-clause-unsynced g c = c.write_and_sync.ensures.unsynced
