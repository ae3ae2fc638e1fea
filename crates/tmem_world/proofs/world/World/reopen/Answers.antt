use borrow.Author.Rules.{lives}
use Rattle.std.proofs.Common.{◌≡◌, Ok, Err, refl, sym, ◌∙◌, ap, subst}
use Rattle.tmem_core.specs.Program.{IsProgramOf}
use Rattle.tmem_journal.specs.Held as journal
use Rattle.tmem_opening.specs.Held.{opening_device}
use Rattle.tmem_opening.specs.Opening.{FoundIs, IsOpened, Mending, OpeningRefused, RecoversEither}
use Rattle.tmem_opening.specs.declared.opening.Opening.{Opening}
use Rattle.tmem_world.specs.Represents.{KeepsSetting, world_disk}
use Rattle.tmem_world.proofs.HeldAttempts.{emptied_fit}
use Rattle.tmem_world.proofs.Points.{held_is}
use Rattle.tmem_world.proofs.ReopenedPoints.{taken, stays_current, refused_answered, found_answered}
use Rattle.tmem_world.proofs.world.World.reopen.Goals as goal

pub returns-in-Err : goal.returns-in-Err
returns-in-Err g c =
    let w = c.args.self.now in
    let parts = c.into_parts-disk.ensures in
    let so = c.in-Err.ensures in
    let was = taken w c.unwrap.result c.into_parts-disk.result.0 c.into_parts-disk.result.1 (held_is w.held w.here c.unwrap.result (sym c.take.ensures.value ∙ c.unwrap.ensures)) parts.disk parts.table in
    let new = g.D.Disk.view c.in-Err.disk in
    let it = was (λ x y. OpeningRefused (IsProgramOf g.T.Invariants y) w.layout.vars w.layout.slots (g.D.Disk.view x) c.in-Err.fault new) so.refused in
    refused_answered w _ (record { numbers = refl; steps = refl; table = was (λ x y. c.in-Err.table ≡ y) so.back; model = it.uses.model }) c.clear.ensures.emptied (c.clear.ensures.len ∙ w.sized) c.in-Err.fault (λ none. none) it
    (was (λ x y. RecoversEither {A = Opening g.row.D.Denot g.row.T.Denot g.D.Disk g.T.Invariants} FoundIs (IsProgramOf g.T.Invariants y) w.layout.vars w.layout.slots (g.D.Disk.view x) new (Err c.in-Err.fault)) so.recovers)
    c.spent_is_at_last.ensures (g.met.D.Disk.is_device (world_disk w))

pub returns-in-Ok : goal.returns-in-Ok
returns-in-Ok g c =
    let w = c.args.self.now in
    let parts = c.into_parts-disk.ensures in
    let x = c.in-Ok.opening in
    let so = c.in-Ok.ensures.opened in
    let begun = c.of-both.ensures in
    let was = taken w c.unwrap.result c.into_parts-disk.result.0 c.into_parts-disk.result.1 (held_is w.held w.here c.unwrap.result (sym c.take.ensures.value ∙ c.unwrap.ensures)) parts.disk parts.table in
    let it = was (λ disk table. IsOpened w.layout.vars w.layout.slots table (g.D.Disk.view disk) x) so in
    let either = was (λ disk table. RecoversEither FoundIs (IsProgramOf g.T.Invariants table) w.layout.vars w.layout.slots (g.D.Disk.view disk) (opening_device x) (Ok x)) c.in-Ok.ensures.recovers in
    let kept : KeepsSetting w _ = record {
      numbers = refl;
      steps = refl;
      table = ap (λ k. k.table) begun.core ∙ it.holds;
      model = λ k. it.uses.model (subst (λ j. (journal.journal_device j).keeps_model) begun.journal k);
    } in
    found_answered w _ kept c.clear.ensures.emptied (c.clear.ensures.len ∙ w.sized) x it either c.of-both.result.0 refl begun.core begun.journal c.count-count.result c.count-count.ensures c.represents_one.ensures (g.met.D.Disk.is_device (world_disk w))

pub invariant_of-left-clause-current : goal.invariant_of-left-clause-current
invariant_of-left-clause-current g c =
    let w = c.args.self.now in
    let parts = c.into_parts-disk.ensures in
    let so = c.in-Err.ensures.refused in
    let was = taken w c.unwrap.result c.into_parts-disk.result.0 c.into_parts-disk.result.1 (held_is w.held w.here c.unwrap.result (sym c.take.ensures.value ∙ c.unwrap.ensures)) parts.disk parts.table in
    let new = g.D.Disk.view c.in-Err.disk in
    stays_current w new c.represents_one.ensures (g.met.D.Disk.is_device (world_disk w)) (was (λ x y. new.keeps_model → (g.D.Disk.view x).keeps_model) so.uses.model) (was (λ x y. Mending w.layout.vars w.layout.slots (g.D.Disk.view x) new) so.mends)

pub invariant_of-self-in-Err : goal.invariant_of-self-in-Err
invariant_of-self-in-Err g c =
    let w = c.args.self.now in
    let parts = c.into_parts-disk.ensures in
    let was = taken w c.unwrap.result c.into_parts-disk.result.0 c.into_parts-disk.result.1 (held_is w.held w.here c.unwrap.result (sym c.take.ensures.value ∙ c.unwrap.ensures)) parts.disk parts.table in
    let table = was (λ x y. c.in-Err.table ≡ y) c.in-Err.ensures.back in
    record {
      sized = c.clear.ensures.len ∙ w.sized;
      here = refl;
      same_vars = refl;
      same_slots = refl;
      named = w.named ∙ ap (λ t. g.T.Invariants.names t) (sym table);
      meant = λ tests is. w.meant tests (subst (λ t. g.T.Invariants.is_stated t tests) table is);
      within = w.within;
      fit = emptied_fit _ _ _ _ _ c.clear.new.attempts.items c.clear.ensures.emptied;
    }

pub invariant_of-self : goal.invariant_of-self
invariant_of-self g c =
    let w = c.args.self.now in
    let parts = c.into_parts-disk.ensures in
    let x = c.in-Ok.opening in
    let begun = c.of-both.ensures in
    let was = taken w c.unwrap.result c.into_parts-disk.result.0 c.into_parts-disk.result.1 (held_is w.held w.here c.unwrap.result (sym c.take.ensures.value ∙ c.unwrap.ensures)) parts.disk parts.table in
    let it = was (λ disk table. IsOpened w.layout.vars w.layout.slots table (g.D.Disk.view disk) x) c.in-Ok.ensures.opened in
    let table = ap (λ k. k.table) begun.core ∙ it.holds in
    record {
      sized = c.clear.ensures.len ∙ w.sized;
      here = refl;
      same_vars = ap (λ j. (journal.journal_layout j).vars) begun.journal ∙ it.fits.0;
      same_slots = ap (λ j. (journal.journal_layout j).slots) begun.journal ∙ it.fits.1;
      named = w.named ∙ ap (λ t. g.T.Invariants.names t) (sym table);
      meant = λ tests is. w.meant tests (subst (λ t. g.T.Invariants.is_stated t tests) table is);
      within = w.within;
      fit = emptied_fit _ _ _ _ _ c.clear.new.attempts.items c.clear.ensures.emptied;
    }

pub take-requires : goal.take-requires
take-requires g c κs within = search (lives, within) depth 24 fits 20000
