use Rattle.std.proofs.Common.{◌-◌, ◌+◌, Option, inl, inr, refl, sym, ◌∙◌, subst, arith}
use Rattle.std.specs.Prelude.{Err, IfSome}
use Rattle.std.proofs.lemmas.Result.{err_from_is_err_and}
use Rattle.tmem_disk.specs.Disk.{IsWriteOrSync}
use Rattle.tmem_disk.specs.declared.disk.DeviceFault.{DeviceFault}
use Rattle.tmem_gate.specs.Changes.{call_outcome}
use Rattle.tmem_journal.specs.Contents.{position_at}
use Rattle.tmem_journal.proofs.Chained.{uses_after, sync_is_no_write}
use Rattle.tmem_journal.proofs.FormattedContent.{on_ok}
use Rattle.tmem_journal.proofs.Logged.{other_one}
use Rattle.tmem_journal.proofs.Recovers.{sure_current}
use Rattle.tmem_journal.proofs.Renewed.{after_writing, current_writing, beside_copy, beside_emptied, not_written, while_writing, sure_emptied, after_emptying, while_emptying, copy_within, renewed_within, settled, pages_aside, pages_in_front, pages_written}
use Rattle.tmem_journal.proofs.renewing.renew.Goals as goal

pub write_spare-requires : goal.write_spare-requires
write_spare-requires g c = record {
  room = c.requires.room;
  one = other_one c.args.copy;
  number = record { some = omega arith; fits = c.requires.number };
  sized = c.requires.sized;
  settled = settled (g.D.Disk.view c.args.disk.now) c.requires.synced;
  others = c.requires.others;
}

pub returns-in_err-write_spare : goal.returns-in_err-write_spare
returns-in_err-write_spare g c =
    let vars = c.args.layout.vars in
    let slots = c.args.layout.slots in
    let copy = c.args.copy in
    let state = c.args.state.now in
    let p = position_at c.args.version copy c.args.log.now in
    let old = g.D.Disk.view c.args.disk.now in
    let new = g.D.Disk.view c.write_spare.new.disk in
    let it = c.in_err-write_spare.ensures in
    let o = call_outcome (Err c.in_err-write_spare.field-0.0) in
    let returned = err_from_is_err_and c.from_residual.result c.from_residual.ensures.1 in
    rw (returned.1, returned.2) (record {
      uses = record { capacity = it.uses.capacity; model = it.uses.model; failures = it.uses.failures };
      errors = it.errors;
      call_failed = it.call_failed;
      gate_failed = it.gate_failed;
      gate_write_failed = it.gate_write_failed;
      elsewhere = copy_within vars slots (1 - copy) (other_one copy) old new it.puts.elsewhere;
      beside = λ k. beside_copy vars slots (1 - copy) old.seen new.seen (it.puts.elsewhere.seen k);
      any_moment = while_writing vars slots p state c.requires.number old new it.uses.model c.requires.stands o it.puts.any_moment;
      stands = after_writing vars slots p state c.requires.number old new it.uses.model c.requires.stands o it.puts.stands;
      current = λ two. current_writing vars slots p state c.requires.number old new it.uses.model c.requires.stands two o it.puts.stands;
      sure = tt;
      certain = λ is. inl (not_written vars slots p state c.requires.number old new it.uses.model c.requires.stands (Err c.in_err-write_spare.field-0.0) is it.puts.stands);
      closed = tt;
      durable = tt;
      written = tt;
      aside = λ set values. pages_aside vars copy set values c.requires.one old new it.uses.model it.puts.elsewhere;
      emptied = tt;
      stays = refl;
    })

pub returns : goal.returns
returns g c =
    let vars = c.args.layout.vars in
    let slots = c.args.layout.slots in
    let copy = c.args.copy in
    let state = c.args.state.now in
    let p = position_at c.args.version copy c.args.log.now in
    let old = g.D.Disk.view c.args.disk.now in
    let mid = g.D.Disk.view c.write_spare.new.disk in
    let new = g.D.Disk.view c.empty.new.disk in
    let it = c.in_ok-write_spare.ensures in
    let then = c.empty.ensures in
    let first = while_writing vars slots p state c.requires.number old mid it.uses.model c.requires.stands (call_outcome c.write_spare.result) c.write_spare.ensures.puts.any_moment in
    let sure = sure_emptied vars slots p state c.requires.number old mid it.uses.model c.requires.stands new then.uses.model it.puts.stands (then.closes.crash it.durable) in
    record {
      uses = uses_after c.empty.result it.uses then.uses;
      errors = then.errors;
      call_failed = then.gate_failed;
      gate_failed = λ is. subst (λ (fault : Option DeviceFault). IfSome fault IsWriteOrSync) (sym (then.sync_failed is)) (inr refl);
      gate_write_failed = λ is write. absurd (sync_is_no_write (sym (then.sync_failed is) ∙ write));
      elsewhere = renewed_within vars slots (1 - copy) (other_one copy) old mid new then.uses.model it.puts.elsewhere then.closes.elsewhere;
      beside = λ k. beside_emptied vars slots (1 - copy) (c.args.log.now.generation + 1) (other_one copy) old.seen mid.seen new.seen (it.puts.elsewhere.seen (then.uses.model k)) (then.closes.seen k);
      any_moment = while_emptying vars slots p state c.requires.number old mid it.uses.model c.requires.stands new then.uses.model it.puts.stands it.puts.elsewhere.time.later first (then.closes.time it.durable);
      stands = after_emptying vars slots p state c.requires.number old mid it.uses.model c.requires.stands new then.uses.model it.puts.stands (then.closes.crash it.durable);
      current = λ two. sure_current sure refl;
      sure = on_ok (λ synced. sure) c.empty.result (then.durable it.durable);
      certain = λ is. inr sure;
      closed = then.closed it.durable;
      durable = then.durable it.durable;
      written = on_ok (λ synced. pages_in_front vars (1 - copy) 0 0 _ state.values (other_one copy) mid new then.uses.model then.closes.elsewhere (pages_written vars p state old mid it.puts.stands)) c.empty.result (then.durable it.durable);
      aside = λ set values holds. pages_in_front vars copy set 0 _ values c.requires.one mid new then.uses.model then.closes.elsewhere (pages_aside vars copy set values c.requires.one old mid it.uses.model it.puts.elsewhere holds);
      emptied = then.emptied;
      stays = then.stays;
    }
