use Rattle.std.proofs.Common.{refl, inl, arith}
use Rattle.std.proofs.lemmas.Bool.{false≢true}
use Rattle.tmem_fault.specs.declared.fault.Fault.{Fault}
use Rattle.tmem_fault.specs.declared.fault.Fault.TheVariants.{Geometry}
use Rattle.tmem_disk.proofs.Laws.{seen-left}
use Rattle.tmem_gate.proofs.Laws.{OnlyReads-refl}
use Rattle.tmem_image.specs.Image.{other_copy}
use Rattle.tmem_image.specs.Pages.{pages_at}
use Rattle.tmem_image.proofs.Laws.{HoldsOthers-all}
use Rattle.tmem_journal.specs.Calls.{FitsOn}
use Rattle.tmem_journal.specs.Refusals.{IsRefusedBy}
use Rattle.tmem_journal.proofs.Flushed.{sure_either, found_either, none_refused, wanting, not_wanted, why_fits}
use Rattle.tmem_journal.proofs.Migrated.{still_recovers}
use Rattle.tmem_journal.proofs.Opened.{fits_on, unfit_uses, unfit_refused, memory_refused}
use Rattle.tmem_journal.proofs.Recovered.{still_mends}
use Rattle.tmem_journal.proofs.Recovers.{sure_current}
use Rattle.tmem_journal.proofs.journal.Journal.open.Goals as goal

pub returns-in-Err : goal.returns-in-Err
returns-in-Err g c =
    let device = g.met.D.Disk.is_device c.args.disk in
    let view = g.D.Disk.view c.args.disk in
    let unfit : ¬ FitsOn c.args.vars c.args.slots view.capacity = λ fits. false≢true (c.in-Err.ensures.ok.1 fits.layout) in
    record {
      uses = unfit_uses c.args.vars c.args.slots view (Unit {0}) c.in-Err.fault c.in-Err.ensures.err;
      fits = tt;
      fresh = tt;
      found = tt;
      stands = tt;
      refused = unfit_refused c.args.vars c.args.slots view c.in-Err.fault c.in-Err.ensures.err unfit;
      untouched = λ _. refl;
      memory = λ _. refl;
      recovers = still_recovers c.args.vars c.args.slots view device;
      mends = λ _. still_mends c.args.vars c.args.slots view device;
      spent_mends = λ _. still_mends c.args.vars c.args.slots view device;
      migrates = λ _ _ _ _ _ _ _. refl;
      refused_reads_only = λ _ _. OnlyReads-refl view;
      either = λ s t fits left k. absurd (unfit fits);
    }

pub returns-then-size-end : goal.returns-then-size-end
returns-then-size-end g c =
    let device = g.met.D.Disk.is_device c.args.disk in
    let view = g.D.Disk.view c.args.disk in
    let unfit : ¬ FitsOn c.args.vars c.args.slots view.capacity = λ fits. omega (arith, fits.room, c.size.ensures, c.end.ensures, c.in-Ok.ensures.vars, c.in-Ok.ensures.slots, c.if-size-end.true) in
    record {
      uses = unfit_uses c.args.vars c.args.slots view (Unit {0}) Geometry refl;
      fits = tt;
      fresh = tt;
      found = tt;
      stands = tt;
      refused = unfit_refused c.args.vars c.args.slots view Geometry refl unfit;
      untouched = λ _. refl;
      memory = λ _. refl;
      recovers = still_recovers c.args.vars c.args.slots view device;
      mends = λ _. still_mends c.args.vars c.args.slots view device;
      spent_mends = λ _. still_mends c.args.vars c.args.slots view device;
      migrates = λ _ _ _ _ _ _ _. refl;
      refused_reads_only = λ _ _. OnlyReads-refl view;
      either = λ s t fits left k. absurd (unfit fits);
    }

pub returns-in-Err-new : goal.returns-in-Err-new
returns-in-Err-new g c =
    let device = g.met.D.Disk.is_device c.args.disk in
    let view = g.D.Disk.view c.args.disk in
    let fits = fits_on c.in-Ok.layout c.args.vars c.args.slots view.capacity c.in-Ok.ensures.vars c.in-Ok.ensures.slots (omega (arith, c.size.ensures, c.end.ensures, c.if-size-end.false)) in
    record {
      uses = record { capacity = refl; model = λ k. k; failures = refl };
      fits = tt;
      fresh = tt;
      found = tt;
      stands = tt;
      refused = memory_refused c.args.vars c.args.slots view fits;
      untouched = λ _. refl;
      memory = λ _. refl;
      recovers = still_recovers c.args.vars c.args.slots view device;
      mends = λ _. still_mends c.args.vars c.args.slots view device;
      spent_mends = λ _. still_mends c.args.vars c.args.slots view device;
      migrates = λ _ _ _ _ _ _ _. refl;
      refused_reads_only = λ _ _. OnlyReads-refl view;
      either = λ s t fits left k. inl refl;
    }

pub invariant_of-result : goal.invariant_of-result
invariant_of-result g c =
    let layout = c.in-Ok.layout in
    let found = c.in-Ok-recover_current.found in
    let it = c.in-Ok-recover_current.ensures in
    record {
      room = omega (arith, it.uses.capacity, c.size.ensures, c.end.ensures, c.if-size-end.false);
      sized = it.sized.0;
      one = it.one;
      number = it.number;
      few = it.sized.1;
      certain = λ _. refl;
      stands = sure_either found.state it.sure;
      current = sure_current it.sure refl;
      sure = λ _. it.sure;
      synced = λ _. it.synced;
      ahead = λ _. it.closed;
      chosen_pages = λ _. record { each = λ k content left. HoldsOthers-all (pages_at layout.vars found.copy) layout.vars found.state.values content layout.fits.vars_fit };
      spare_pages = λ _. record { each = λ k content left. HoldsOthers-all (pages_at layout.vars (other_copy found.copy)) layout.vars found.state.values content layout.fits.vars_fit };
    }

pub returns-in-Ok-recover_current : goal.returns-in-Ok-recover_current
returns-in-Ok-recover_current g c =
    let it = c.in-Ok-recover_current.ensures in
    let now = g.met.D.Disk.is_device c.recover_current.new.disk in
    let fits = fits_on c.in-Ok.layout c.args.vars c.args.slots (g.D.Disk.view c.args.disk).capacity c.in-Ok.ensures.vars c.in-Ok.ensures.slots (omega (arith, c.size.ensures, c.end.ensures, c.if-size-end.false)) in
    record {
      uses = record { capacity = it.uses.capacity; model = it.uses.model; failures = it.uses.failures };
      fits = (c.in-Ok.ensures.vars, c.in-Ok.ensures.slots, fits);
      fresh = (refl, refl);
      found = rw (c.in-Ok.ensures.vars, c.in-Ok.ensures.slots) at it.found;
      stands = rw (c.in-Ok.ensures.vars, c.in-Ok.ensures.slots) at (seen-left _ _ now it.sure);
      refused = tt;
      untouched = λ _. tt;
      memory = tt;
      recovers = rw (c.in-Ok.ensures.vars, c.in-Ok.ensures.slots) at it.recovers;
      mends = rw (c.in-Ok.ensures.vars, c.in-Ok.ensures.slots) at it.mends;
      spent_mends = tt;
      migrates = rw (c.in-Ok.ensures.vars, c.in-Ok.ensures.slots) at it.migrates;
      refused_reads_only = tt;
      either = λ s t fits left k.
          let found = it.found k in
          found_either c.args.vars c.args.slots (omega (arith, fits.layout.vars_fit)) found.position _ s t _ (rw (c.in-Ok.ensures.vars, c.in-Ok.ensures.slots) at found.stands) (seen-left _ _ (g.met.D.Disk.is_device c.args.disk) left (it.uses.model k));
    }

pub returns-in-Err-recover_current : goal.returns-in-Err-recover_current
returns-in-Err-recover_current g c =
    let it = c.in-Err-recover_current.ensures in
    let old = g.D.Disk.view c.args.disk in
    let new = g.D.Disk.view c.recover_current.new.disk in
    let fits = fits_on c.in-Ok.layout c.args.vars c.args.slots (g.D.Disk.view c.args.disk).capacity c.in-Ok.ensures.vars c.in-Ok.ensures.slots (omega (arith, c.size.ensures, c.end.ensures, c.if-size-end.false)) in
    let P : Fault → Type 0 = λ f. new.keeps_model → IsRefusedBy c.args.vars c.args.slots old.seen f in
    let why = rw (c.in-Ok.ensures.vars, c.in-Ok.ensures.slots) at it.refused in
    record {
      uses = record { capacity = it.uses.capacity; model = it.uses.model; failures = it.uses.failures };
      fits = tt;
      fresh = tt;
      found = tt;
      stands = tt;
      refused = record {
        numbers = λ unfit. absurd (unfit fits);
        why = why_fits c.in-Err-recover_current.fault P (λ f. new.keeps_model → FitsOn c.args.vars c.args.slots old.capacity → IsRefusedBy c.args.vars c.args.slots old.seen f) (λ f by k any. by k) why;
      };
      untouched = λ unfit. absurd (unfit fits);
      memory = λ is. absurd (not_wanted c.in-Err-recover_current.fault P why is);
      recovers = rw (c.in-Ok.ensures.vars, c.in-Ok.ensures.slots) at it.recovers;
      mends = rw (c.in-Ok.ensures.vars, c.in-Ok.ensures.slots) at it.mends;
      spent_mends = rw (c.in-Ok.ensures.vars, c.in-Ok.ensures.slots) at it.spent_mends;
      migrates = rw (c.in-Ok.ensures.vars, c.in-Ok.ensures.slots) at it.migrates;
      refused_reads_only = it.refused_reads_only;
      either = λ s t fits left k. wanting c.in-Err-recover_current.fault P (λ f other by. none_refused c.args.vars c.args.slots f s t _ fits.layout other (seen-left _ _ (g.met.D.Disk.is_device c.args.disk) left (it.uses.model k)) (by k)) why;
    }
