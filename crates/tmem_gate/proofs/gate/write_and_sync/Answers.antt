use Rattle.std.proofs.Common.{length}
use Rattle.tmem_gate.proofs.Laws.{by_write, by_look, reads_only, WritesWithin-trans}
use Rattle.tmem_gate.proofs.gate.write_and_sync.Goals as goal

pub returns-clause-elsewhere : goal.returns-clause-elsewhere
returns-clause-elsewhere g c =
    let n = length c.args.bytes.now in
    let write = c.write_at.ensures in
    let sync = c.sync.ensures in
    let device = g.met.D.Disk.is_device in
    WritesWithin-trans c.args.at n _ _ _ sync.call.model (by_write c.args.at n _ _ (device c.args.disk.now) write.call.model write.elsewhere write.crash write.time)
    (by_look c.args.at n _ _ (device c.write_at.new.self) sync.call.model (reads_only _ _ sync.seen sync.crash sync.time))
