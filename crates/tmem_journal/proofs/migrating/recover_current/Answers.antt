use Rattle.std.proofs.lemmas.Result.{err_from_is_err_and}
use Rattle.std.proofs.Common.{◌≡◌, ⊎_elim, ◌≤◌, ◌^◌, ℕ, length, sym, ◌∙◌, ap, subst, arith}
use Rattle.tmem_disk.proofs.Laws.{LeavesOnly-synced}
use Rattle.tmem_fault.specs.declared.fault.Fault.{Fault}
use Rattle.tmem_fault.specs.declared.fault.Fault.TheVariants.{Spent}
use Rattle.tmem_record.specs.Layout.{end_at}
use Rattle.tmem_effect.specs.State.{State}
use Rattle.tmem_state.specs.declared.version.Version.TheVariants.{Two}
use Rattle.tmem_image.specs.Image.{other_copy}
use Rattle.tmem_journal.specs.Mended.{MendsDevice, IsFoundAt, SameBesideCopy}
use Rattle.tmem_journal.specs.Contents.{position_at, position_in, ContentRepresents}
use Rattle.tmem_journal.specs.Refusals.{IsRefusedBy}
use Rattle.tmem_journal.proofs.Chained.{uses_after}
use Rattle.tmem_journal.proofs.Flushed.{found_why}
use Rattle.tmem_journal.proofs.Recovers.{RecoversDevice-mends, SameBesideCopy-mends, SameBesideCopy-after, one_copy}
use Rattle.tmem_journal.proofs.Migrated.{mends_given, migrating, if_ok_2, if_err, not_migrated}
use Rattle.tmem_journal.proofs.migrating.recover_current.Goals as goal

pub migrate-requires : goal.migrate-requires
migrate-requires g c =
    let layout = c.args.layout in
    let found = c.in_ok-found.found in
    let it = c.in_ok-found.ensures in
    record {
      room = subst (λ (n : ℕ). end_at layout.vars layout.slots ≤ n) (sym it.uses.capacity) c.requires.fits;
      one = it.one;
      number = it.number;
      sized = it.sized;
      synced = it.synced;
      stands = LeavesOnly-synced _ _ it.synced (λ k. (it.mends.seen k).states (position_at found.version found.copy found.log) found.state (it.found k));
      closed = it.closed;
    }

pub returns-in_err-found : goal.returns-in_err-found
returns-in_err-found g c =
    let layout = c.args.layout in
    let old = g.D.Disk.view c.args.disk.now in
    let new = g.D.Disk.view c.recover.new.disk in
    let it = c.in_err-found.ensures in
    let P : Fault → Type 0 = λ f. new.keeps_model → IsRefusedBy layout.vars layout.slots old.seen f in
    let returned = err_from_is_err_and c.from_residual.result c.from_residual.ensures.1 in
    rw (returned.1, returned.2) (record {
      uses = record { capacity = it.uses.capacity; model = it.uses.model; failures = it.uses.failures };
      found = λ _. tt;
      refused = found_why c.in_err-found.field-0.0 P it.refused;
      recovers = RecoversDevice-mends layout.vars layout.slots old new it.mends;
      mends = λ _. it.mends;
      spent_mends = λ _. it.mends;
      migrates = λ k p s stands. SameBesideCopy-mends layout.vars layout.slots (other_copy p.copy) old.seen new.seen (it.mends.seen k);
      refused_reads_only = λ not_device not_spent. it.refused_reads_only not_device;
      synced = tt;
      sure = tt;
      closed = tt;
      one = tt;
      number = tt;
      sized = tt;
    })

pub returns : goal.returns
returns g c =
    let vars = c.args.layout.vars in
    let slots = c.args.layout.slots in
    let few : vars ≤ 2 ^ 16 = omega (arith, c.args.layout.fits.vars_fit) in
    let found = c.in_ok-found.found in
    let p = position_at found.version found.copy found.log in
    let old = g.D.Disk.view c.args.disk.now in
    let new = g.D.Disk.view c.migrate.new.disk in
    let it = c.in_ok-found.ensures in
    let then = c.migrate.ensures in
    record {
      uses = uses_after c.migrate.result it.uses then.uses;
      found = λ k. if_ok_2 _ _ (λ f. IsFoundAt vars slots old.seen f.state (position_in f.copy f.log))
          (λ f state position. record {
            position = p;
            stands = subst (λ s. ContentRepresents vars slots p s old.seen) (sym state) (it.found (then.uses.model k));
            goes_on = position;
          })
          c.migrate.result then.state then.position;
      refused = if_err _ _ (λ f why. not_migrated vars slots _ p found.state old.seen f (λ k. it.found (then.uses.model k)) why) c.migrate.result then.refused;
      recovers = migrating vars slots few p found.state old _ new (g.met.D.Disk.is_device c.args.disk.now) (g.met.D.Disk.is_device c.migrate.new.disk) it.uses.model then.uses.model it.mends it.found then.elsewhere then.any_moment then.stands;
      mends = λ current. mends_given vars slots old new (λ k.
          let is : found.version ≡ Two = current p found.state (it.found (then.uses.model k)) in
          subst (λ d. MendsDevice vars slots old (g.D.Disk.view d)) (sym (then.current is)) it.mends);
      spent_mends = if_err _ (λ f. f ≡ Spent → MendsDevice vars slots old new) (λ f same is. subst (λ d. MendsDevice vars slots old (g.D.Disk.view d)) (sym (same is)) it.mends) c.migrate.result then.spent;
      migrates = λ k q s stands.
          let mid = then.uses.model k in
          let copy = one_copy vars slots few p q found.state s old.seen (it.found mid) stands in
          subst (λ n. SameBesideCopy vars slots (other_copy n) old.seen new.seen) copy (SameBesideCopy-after vars slots (other_copy found.copy) _ _ _ (it.mends.seen mid) (then.beside k));
      refused_reads_only = if_err _ _ (λ f why not_device not_spent. absurd (⊎_elim not_device (λ is. not_spent is.0) why)) c.migrate.result then.refused;
      synced = then.synced;
      sure = then.sure;
      closed = then.closed;
      one = then.one;
      number = then.number;
      sized = if_ok_2 _ _ (λ f. (length f.state.values ≡ vars) × (f.log.used ≤ slots))
          (λ f state few_used. (ap (λ (s : State). length s.values) state ∙ it.sized.0, few_used))
          c.migrate.result then.state then.few;
    }
