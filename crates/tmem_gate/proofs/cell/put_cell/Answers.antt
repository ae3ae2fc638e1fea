use Rattle.std.proofs.Common.{rules, arith}
use Rattle.tmem_gate.proofs.Putting.{not_put, put_in_doubt, open_in_doubt, is_put, body_written, byte_in_front}
use Rattle.tmem_gate.proofs.cell.put_cell.Goals as goal

pub returns-in-Err-Write-clause-puts : goal.returns-in-Err-Write-clause-puts
returns-in-Err-Write-clause-puts g c = not_put _ _ c.args.at c.args.bytes.now (g.met.D.Disk.is_device c.put_body.new.disk) c.put_body.ensures.elsewhere c.put_body.ensures.any_moment

pub returns-in-Err : goal.returns-in-Err
returns-in-Err g c = record {
  uses = search rules;
  errors = search rules;
  write_failed = λ e. cc;
  gate_untouched = λ e. cc;
  gate_failed = λ e. search rules;
  body_written = λ is k. body_written (g.D.Disk.view c.args.disk.now) (g.D.Disk.view c.put_body.new.disk) c.args.at c.args.bytes.now (g.met.D.Disk.is_device c.args.disk.now) c.put_body.ensures.call.model c.requires.room (c.put_body.ensures.unsynced (search rules)) k;
  puts = put_in_doubt _ _ c.args.at c.args.bytes.now (g.met.D.Disk.is_device c.put_body.new.disk) c.put_body.ensures.elsewhere c.put_body.ensures.any_moment;
  written = search rules;
  durable = search rules;
}

pub returns-in-Ok-open_gate-clause-puts : goal.returns-in-Ok-open_gate-clause-puts
returns-in-Ok-open_gate-clause-puts g c =
    is_put _ _ c.args.at c.args.bytes.now (g.met.D.Disk.is_device c.put_body.new.disk) c.put_body.ensures.elsewhere c.put_body.ensures.any_moment
    _ (g.met.D.Disk.is_device c.open_gate.new.disk) c.open_gate.ensures.call.model c.in-Ok.ensures.stands c.in-Ok.ensures.durable c.open_gate.ensures.elsewhere
    (c.in-Ok-open_gate.ensures.stands c.args.bytes.now (record { each = λ k d left. (c.in-Ok.ensures.stands.each k d left).body }))

pub returns-in-Err-open_gate-clause-puts : goal.returns-in-Err-open_gate-clause-puts
returns-in-Err-open_gate-clause-puts g c =
    open_in_doubt _ _ c.args.at c.args.bytes.now (g.met.D.Disk.is_device c.put_body.new.disk) c.put_body.ensures.elsewhere c.put_body.ensures.any_moment
    _ (g.met.D.Disk.is_device c.open_gate.new.disk) c.open_gate.ensures.call.model c.in-Ok.ensures.stands c.in-Ok.ensures.durable c.open_gate.ensures.elsewhere

pub returns-in-Ok-open_gate-clause-written : goal.returns-in-Ok-open_gate-clause-written
returns-in-Ok-open_gate-clause-written g c = λ k.
    let before = c.open_gate.ensures.call.model k in
    let whole = (g.met.D.Disk.is_device c.args.disk.now).seen_is_whole (c.put_body.ensures.call.model before) in
    byte_in_front c.args.at 0xA5 c.args.bytes.now _ _ _ (omega (arith, whole, c.requires.room)) (c.in-Ok.ensures.written before) (c.in-Ok-open_gate.ensures.written k)
