use Rattle.tmem_disk.specs.SimParts.{sim_view}
use Rattle.tmem_parts.proofs.Copies.{whole_written}
use Rattle.tmem_parts.proofs.copy.disk_of.Goals as goal

pub returns-in-Ok-clause-seen : goal.returns-in-Ok-clause-seen
returns-in-Ok-clause-seen c =
    whole_written (sim_view c.in_ok-disk.disk).seen (sim_view c.write_at.new.self).seen c.args.bytes.now c.in_ok-disk.ensures.made.capacity (c.in-Ok.ensures.written tt)
