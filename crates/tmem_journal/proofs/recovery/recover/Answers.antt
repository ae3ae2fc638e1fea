use Rattle.std.proofs.Common.{refl, ap, ◌∙◌, arith}
use Rattle.std.proofs.lemmas.Result.{err_from_is_err_and}
use Rattle.tmem_disk.specs.Disk.{after_fault}
use Rattle.tmem_journal.specs.Contents.{position_at}
use Rattle.tmem_journal.proofs.Recovered.{looking_mends, closing_mends}
use Rattle.tmem_journal.proofs.recovery.recover.Goals as goal

pub returns-in_err-found : goal.returns-in_err-found
returns-in_err-found g c =
    let returned = err_from_is_err_and c.from_residual.result c.from_residual.ensures.1 in
    let it = c.in_err-found.ensures in
    rw (returned.1, returned.2) (record {
      uses = record { capacity = it.uses.capacity; model = it.uses.model; failures = it.uses.failures };
      found = λ _. tt;
      refused = it.refused;
      mends = looking_mends c.args.layout.vars c.args.layout.slots _ _ it.reads_only (g.met.D.Disk.is_device c.args.disk.now) it.uses.model;
      refused_reads_only = λ _. it.reads_only;
      synced = tt;
      closed = tt;
      one = tt;
      number = tt;
      sized = tt;
    })

pub returns-in-Ok : goal.returns-in-Ok
returns-in-Ok g c =
    let layout = c.args.layout in
    let found = c.in_ok-found.found in
    let it = c.in_ok-found.ensures in
    let closing = c.in-Ok.ensures in
    record {
      uses = record {
        capacity = closing.call.capacity ∙ it.uses.capacity;
        model = λ k. it.uses.model (closing.call.model k);
        failures = closing.call.ok ∙ it.uses.failures;
      };
      found = λ k. it.found (closing.call.model k);
      refused = tt;
      mends = closing_mends layout.vars layout.slots (omega (arith, layout.fits.vars_fit)) (position_at found.version found.copy found.log) it.sized.1 found.state _ _ _ it.reads_only it.synced it.uses.model closing.call.model it.found (g.met.D.Disk.is_device c.args.disk.now) closing.closes closing.idle;
      refused_reads_only = tt;
      synced = closing.durable it.synced;
      closed = closing.closed it.synced;
      one = it.one;
      number = it.number;
      sized = it.sized;
    }

pub returns-in-Err : goal.returns-in-Err
returns-in-Err g c =
    let layout = c.args.layout in
    let found = c.in_ok-found.found in
    let it = c.in_ok-found.ensures in
    let closing = c.in-Err.ensures in
    record {
      uses = record {
        capacity = closing.call.capacity ∙ it.uses.capacity;
        model = λ k. it.uses.model (closing.call.model k);
        failures = closing.call.err ∙ ap after_fault it.uses.failures;
      };
      found = λ _. tt;
      refused = tt;
      mends = closing_mends layout.vars layout.slots (omega (arith, layout.fits.vars_fit)) (position_at found.version found.copy found.log) it.sized.1 found.state _ _ _ it.reads_only it.synced it.uses.model closing.call.model it.found (g.met.D.Disk.is_device c.args.disk.now) closing.closes closing.idle;
      refused_reads_only = λ other. absurd (other refl);
      synced = tt;
      closed = tt;
      one = tt;
      number = tt;
      sized = tt;
    }
