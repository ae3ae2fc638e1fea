use Rattle.std.proofs.Common.{ℕ, List, inl, inr, refl, sym, ◌∙◌, ap, subst}
use Rattle.std.specs.Prelude.{slice_get}
use Rattle.tmem_disk.proofs.Laws.{LeavesOnly-synced}
use Rattle.tmem_fault.specs.declared.fault.Fault.{Fault}
use Rattle.tmem_fault.specs.declared.fault.Fault.TheVariants.{Device}
use Rattle.tmem_gate.specs.Calls.{failures_after}
use Rattle.tmem_gate.specs.Gate.{IsClosed}
use Rattle.tmem_gate.proofs.Laws.{closed_along}
use Rattle.tmem_image.proofs.Spared.{while_shut, Spares-read_only}
use Rattle.tmem_image.proofs.spare.shut.Goals as goal

pub returns-in-Ok-false-clause-spares : goal.returns-in-Ok-false-clause-spares
returns-in-Ok-false-clause-spares g c =
    let it = c.close_if_open.ensures in
    while_shut _ _ c.args.at (g.met.D.Disk.is_device c.args.disk.now) c.requires.settled it.call.model it.within it.idle

pub returns-in-Ok-false-clause-closed : goal.returns-in-Ok-false-clause-closed
returns-in-Ok-false-clause-closed g c =
    let reads_only = c.in-Ok-false.ensures.reads_only c.in-Ok-false.field-0-test in
    record { each = λ k d left. let before = c.close_if_open.ensures.call.model k in closed_along (c.requires.settled.each before d (reads_only.crash.each k d left) ∙ sym (ap (λ (l : List ℕ). slice_get l c.args.at) (reads_only.seen k))) (c.in-Ok-false.ensures.closed k) }

pub returns-in-Err-clause-spares : goal.returns-in-Err-clause-spares
returns-in-Err-clause-spares g c =
    let it = c.close_if_open.ensures in
    while_shut _ _ c.args.at (g.met.D.Disk.is_device c.args.disk.now) c.requires.settled it.call.model it.within it.idle

pub returns-in-Ok-clause-spares : goal.returns-in-Ok-clause-spares
returns-in-Ok-clause-spares g c =
    let it = c.close_if_open.ensures in
    Spares-read_only c.args.at 1 _ _ (g.met.D.Disk.is_device c.close_if_open.new.disk) (while_shut _ _ c.args.at (g.met.D.Disk.is_device c.args.disk.now) c.requires.settled it.call.model it.within it.idle) _ c.sync.ensures.uses.model c.sync.ensures.reads_only

pub returns-in-Err-sync-clause-spares : goal.returns-in-Err-sync-clause-spares
returns-in-Err-sync-clause-spares g c =
    let it = c.close_if_open.ensures in
    Spares-read_only c.args.at 1 _ _ (g.met.D.Disk.is_device c.close_if_open.new.disk) (while_shut _ _ c.args.at (g.met.D.Disk.is_device c.args.disk.now) c.requires.settled it.call.model it.within it.idle) _ c.sync.ensures.uses.model c.sync.ensures.reads_only

pub returns-in-Ok-clause-closed : goal.returns-in-Ok-clause-closed
returns-in-Ok-clause-closed g c =
    LeavesOnly-synced _ (IsClosed c.args.at) c.in-Ok.ensures.synced (λ k. subst (λ (l : List ℕ). IsClosed c.args.at l) (sym (c.sync.ensures.reads_only.seen k)) (c.in-Ok-true.ensures.closed (c.sync.ensures.uses.model k)))

pub returns-in-Ok-false-clause-uses : goal.returns-in-Ok-false-clause-uses
returns-in-Ok-false-clause-uses g c =
    let call = c.in-Ok-false.ensures.call in
    record { capacity = call.capacity; model = call.model; failures = call.ok }

pub returns-in-Err-clause-uses : goal.returns-in-Err-clause-uses
returns-in-Err-clause-uses g c =
    let call = c.in-Err.ensures.call in
    record { capacity = call.capacity; model = call.model; failures = call.err }

pub returns-in-Ok-clause-uses : goal.returns-in-Ok-clause-uses
returns-in-Ok-clause-uses g c =
    let call = c.in-Ok-true.ensures.call in
    let uses = c.in-Ok.ensures.uses in
    record { capacity = uses.capacity ∙ call.capacity; model = λ k. call.model (uses.model k); failures = uses.failures ∙ call.ok }

pub returns-in-Err-sync-clause-uses : goal.returns-in-Err-sync-clause-uses
returns-in-Err-sync-clause-uses g c =
    let call = c.in-Ok-true.ensures.call in
    let uses = c.in-Err-sync.ensures.uses in
    record {
      capacity = uses.capacity ∙ call.capacity;
      model = λ k. call.model (uses.model k);
      failures = uses.failures ∙ ap (λ (f : Fault). failures_after f (g.D.Disk.view c.close_if_open.new.disk).failures) c.in-Err-sync.ensures.err ∙ ap (failures_after Device) call.ok;
    }

pub returns-in-Err-clause-errors : goal.returns-in-Err-clause-errors
returns-in-Err-clause-errors g c = inl refl

pub returns-in-Err-sync-clause-errors : goal.returns-in-Err-sync-clause-errors
returns-in-Err-sync-clause-errors g c = inr refl
