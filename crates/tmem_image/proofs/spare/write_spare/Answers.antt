use Rattle.std.proofs.Common.{◌≡◌, ◌+◌, ◌*◌, ◌∙◌, ℕ, ℤ, List, length, inl, sym, ap, subst, rules, arith}
use Rattle.std.specs.Prelude.{Err}
use Rattle.std.proofs.lemmas.Result.{err_from_is_err_and}
use Rattle.tmem_fault.specs.declared.fault.Fault.{Fault}
use Rattle.tmem_disk.specs.Disk.{DeviceView, IsDevice, LeavesOnly, AtEachMoment}
use Rattle.tmem_disk.proofs.Laws.{LeavesOnly-moment}
use Rattle.tmem_gate.specs.Calls.{WritesWithin}
use Rattle.tmem_gate.specs.Changes.{call_outcome}
use Rattle.tmem_record.specs.Layout.{pages_of, image_at}
use Rattle.tmem_state.specs.declared.version.Version.TheVariants.{Two}
use Rattle.tmem_image.specs.Pages.{HoldsOthers, pages_at}
use Rattle.tmem_image.specs.Spare.{image_placed}
use Rattle.tmem_image.specs.Spelling.{IsImage}
use Rattle.tmem_image.proofs.Changed.{HoldsOthers-after, moments_none, moments_write, moments_both}
use Rattle.tmem_image.proofs.Lengths.{length-header_body}
use Rattle.tmem_image.proofs.Spared.{Uses-trans, gate_within, pages_within, header_within, once_shut, once_paged, closed_once_paged, put_last, spared, paged, image_stands, is_begun}
use Rattle.tmem_image.proofs.spare.write_spare.Goals as goal

pub returns-in_err-shut-clause-puts : goal.returns-in_err-shut-clause-puts
returns-in_err-shut-clause-puts g c =
    let returned = err_from_is_err_and c.from_residual.result c.from_residual.ensures.1 in
    let p = image_placed c.args.layout c.args.copy c.args.generation c.args.state.now in
    spared p _ _ (g.met.D.Disk.is_device c.shut.new.disk) (once_shut p c.image-at.result c.image-at.ensures _ _ c.shut.ensures.spares)
    c.from_residual.result c.in_err-shut.field-0.0 (returned.1 ∙ ap (λ (f : Fault). Err f) returned.2) c.in_err-shut.ensures.errors

pub returns-in_err-write_pages-clause-puts : goal.returns-in_err-write_pages-clause-puts
returns-in_err-write_pages-clause-puts g c =
    let returned = err_from_is_err_and c.from_residual-in_err-write_pages.result c.from_residual-in_err-write_pages.ensures.1 in
    let p = image_placed c.args.layout c.args.copy c.args.generation c.args.state.now in
    let it = c.write_pages.ensures in
    spared p _ _ (g.met.D.Disk.is_device c.write_pages.new.disk) (once_paged p c.image-at.result c.image-at.ensures _ _ c.shut.ensures.spares _ (g.met.D.Disk.is_device c.shut.new.disk) c.in_ok-shut.ensures.closed it.elsewhere it.uses.model)
    c.from_residual-in_err-write_pages.result c.in_err-write_pages.field-0.0 (returned.1 ∙ ap (λ (f : Fault). Err f) returned.2) (inl c.in_err-write_pages.ensures.err)

pub put_cell-requires-clause-closed : goal.put_cell-requires-clause-closed
put_cell-requires-clause-closed g c =
    let p = image_placed c.args.layout c.args.copy c.args.generation c.args.state.now in
    let it = c.write_pages.ensures in
    closed_once_paged p c.image-at.result c.image-at.ensures _ _ c.shut.ensures.spares _ (g.met.D.Disk.is_device c.shut.new.disk) c.in_ok-shut.ensures.closed it.elsewhere it.uses.model

pub returns-clause-puts : goal.returns-clause-puts
returns-clause-puts g c =
    let vars = c.args.layout.vars in
    let p = image_placed c.args.layout c.args.copy c.args.generation c.args.state.now in
    let at = c.image-at.result in
    let mid = g.D.Disk.view c.shut.new.disk in
    let device = g.met.D.Disk.is_device c.shut.new.disk in
    let pages = c.write_pages.ensures in
    let fits : IsImage vars c.args.state.now = search rules in
    put_last p c.header_of.result c.requires.number fits _ _ _ (g.met.D.Disk.is_device c.write_pages.new.disk) (once_paged p at c.image-at.ensures _ _ c.shut.ensures.spares _ device c.in_ok-shut.ensures.closed pages.elsewhere pages.uses.model)
    (paged p at c.image-at.ensures c.header_of.result c.header_of.ensures.bytes c.header_of.ensures.names c.requires.sized _ c.values-2.result.now c.values-2.ensures c.in_ok-write_pages.ensures.stand)
    (call_outcome c.put_cell.result) (is_begun c.put_cell.result c.put_cell.ensures.errors) c.put_cell.ensures.uses.model (rw c.image-at.ensures at c.put_cell.ensures.puts)

pub returns-clause-gate_write_failed : goal.returns-clause-gate_write_failed
returns-clause-gate_write_failed g c = λ unknown write.
    let vars = c.args.layout.vars in
    let p = image_placed c.args.layout c.args.copy c.args.generation c.args.state.now in
    let at = c.image-at.result in
    let mid = g.D.Disk.view c.shut.new.disk in
    let device = g.met.D.Disk.is_device c.shut.new.disk in
    let pages = c.write_pages.ensures in
    let put = rw c.image-at.ensures at c.put_cell.ensures.puts in
    let body = rw c.image-at.ensures at c.put_cell.ensures.body_written in
    record {
      body = λ k. image_stands p c.header_of.result _ (paged p at c.image-at.ensures c.header_of.result c.header_of.ensures.bytes c.header_of.ensures.names c.requires.sized (g.D.Disk.view c.write_pages.new.disk) c.values-2.result.now c.values-2.ensures c.in_ok-write_pages.ensures.stand)
          (c.put_cell.ensures.uses.model k) _ (body unknown k) (put.elsewhere.seen k);
      elsewhere = (returns-clause-puts g c).elsewhere.seen;
    }

-- once the gate is closed
module _ (vars copy at pages : ℕ) (offset : at ≡ image_at vars copy) (values : List ℤ) (old shut : DeviceView) (device : IsDevice old) (after : IsDevice shut) (model : shut.keeps_model → old.keeps_model) (others : LeavesOnly old (HoldsOthers (pages_at vars copy) vars pages values)) (writes : WritesWithin at 1 old shut) where
  abbrev Kept : List ℕ → Type 0
  Kept = HoldsOthers (pages_at vars copy) vars pages values

  kept_shut : AtEachMoment old shut Kept
  kept_shut = moments_write Kept old old device (moments_none Kept old device others) (λ k. omega arith) at 1 shut model (λ b c same. HoldsOthers-after at 1 (pages_at vars copy) vars pages values b c same (omega (arith, offset))) writes

  behind : pages_at vars copy ≡ at + 2048
  behind = omega (arith, offset)

  left_shut : (values' : List ℤ) → values ≡ values' → LeavesOnly shut (HoldsOthers (at + 2048) vars pages values')
  left_shut values' same = subst (λ (zs : List ℤ). LeavesOnly shut (HoldsOthers (at + 2048) vars pages zs)) same
      (subst (λ (k : ℕ). LeavesOnly shut (HoldsOthers k vars pages values)) behind (LeavesOnly-moment old shut Kept after writes.time.later kept_shut))

  -- and then pages are written
  module _ (values' : List ℤ) (same : values' ≡ values) (n : ℕ) (paged : DeviceView) (model_now : paged.keeps_model → shut.keeps_model) (paging : WritesWithin (at + 2048) n shut paged) (kept : AtEachMoment shut paged (HoldsOthers (at + 2048) vars pages values')) where
    kept_paged : AtEachMoment old paged Kept
    kept_paged = moments_both Kept old shut after kept_shut writes.time.later paged _ model_now paging.time
        (subst (λ (zs : List ℤ). AtEachMoment shut paged (HoldsOthers (pages_at vars copy) vars pages zs)) same (subst (λ (k : ℕ). AtEachMoment shut paged (HoldsOthers k vars pages values')) (sym behind) kept))

    -- and then the header
    kept_put : IsDevice paged → (header : ℕ) → header ≡ 2047 → (new : DeviceView) → (new.keeps_model → paged.keeps_model) → WritesWithin at (1 + header) paged new → AtEachMoment old new Kept
    kept_put device_now header long new model_then puts =
        moments_write Kept old paged device_now kept_paged (λ k. let a = writes.time.later (model_now k) in let b = paging.time.later k in omega arith) at (1 + header) new model_then
        (λ b c outside. HoldsOthers-after at (1 + header) (pages_at vars copy) vars pages values b c outside (omega (arith, offset, long))) puts

pub write_pages-requires-clause-others : goal.write_pages-requires-clause-others
write_pages-requires-clause-others g c =
    left_shut c.args.layout.vars c.args.copy c.image-at.result c.args.pages c.image-at.ensures c.args.state.now.values _ _ (g.met.D.Disk.is_device c.args.disk.now) (g.met.D.Disk.is_device c.shut.new.disk) c.shut.ensures.uses.model c.requires.others c.shut.ensures.spares.within
    c.values-2.result.now (sym c.values-2.ensures)

pub returns-in_err-shut-clause-kept : goal.returns-in_err-shut-clause-kept
returns-in_err-shut-clause-kept g c =
    kept_shut c.args.layout.vars c.args.copy c.image-at.result c.args.pages c.image-at.ensures c.args.state.now.values _ _ (g.met.D.Disk.is_device c.args.disk.now) (g.met.D.Disk.is_device c.shut.new.disk) c.shut.ensures.uses.model c.requires.others c.shut.ensures.spares.within

pub returns-in_err-write_pages-clause-kept : goal.returns-in_err-write_pages-clause-kept
returns-in_err-write_pages-clause-kept g c =
    let it = c.write_pages.ensures in
    kept_paged c.args.layout.vars c.args.copy c.image-at.result c.args.pages c.image-at.ensures c.args.state.now.values _ _ (g.met.D.Disk.is_device c.args.disk.now) (g.met.D.Disk.is_device c.shut.new.disk) c.shut.ensures.uses.model c.requires.others c.shut.ensures.spares.within
    c.values-2.result.now c.values-2.ensures (512 * pages_of c.args.layout.vars) _ it.uses.model it.elsewhere it.kept

pub returns-clause-kept : goal.returns-clause-kept
returns-clause-kept g c =
    let it = c.write_pages.ensures in
    let long : length c.header_of.result ≡ 2047 = ap length c.header_of.ensures.bytes ∙ length-header_body Two c.args.generation c.args.state.now c.header_of.ensures.names in
    kept_put c.args.layout.vars c.args.copy c.image-at.result c.args.pages c.image-at.ensures c.args.state.now.values _ _ (g.met.D.Disk.is_device c.args.disk.now) (g.met.D.Disk.is_device c.shut.new.disk) c.shut.ensures.uses.model c.requires.others c.shut.ensures.spares.within
    c.values-2.result.now c.values-2.ensures (512 * pages_of c.args.layout.vars) _ it.uses.model it.elsewhere it.kept (g.met.D.Disk.is_device c.write_pages.new.disk) (length c.header_of.result) long _ c.put_cell.ensures.uses.model c.put_cell.ensures.puts.elsewhere

pub shut-requires-clause-at : goal.shut-requires-clause-at
shut-requires-clause-at g c = gate_within c.args.layout.vars c.args.layout.slots c.args.copy c.image-at.result _ c.image-at.ensures c.requires.one c.requires.room

pub write_pages-requires-clause-room : goal.write_pages-requires-clause-room
write_pages-requires-clause-room g c = pages_within c.args.layout.vars c.args.layout.slots c.args.copy c.image-at.result _ c.image-at.ensures c.requires.one c.requires.room _ c.shut.ensures.uses.capacity

pub write_pages-requires-clause-sized : goal.write_pages-requires-clause-sized
write_pages-requires-clause-sized g c = ap length c.values-2.ensures ∙ c.requires.sized

pub put_cell-requires-clause-room : goal.put_cell-requires-clause-room
put_cell-requires-clause-room g c =
    let long : length c.header_of.result ≡ 2047 = ap length c.header_of.ensures.bytes ∙ length-header_body Two c.args.generation c.args.state.now c.header_of.ensures.names in
    header_within c.args.layout.vars c.args.layout.slots c.args.copy c.image-at.result _ c.image-at.ensures c.requires.one c.requires.room (length c.header_of.result) _ long (c.write_pages.ensures.uses.capacity ∙ c.shut.ensures.uses.capacity)

pub returns-in_err-shut-clause-durable : goal.returns-in_err-shut-clause-durable
returns-in_err-shut-clause-durable g c = rw (err_from_is_err_and c.from_residual.result c.from_residual.ensures.1).1 tt

pub returns-in_err-write_pages-clause-durable : goal.returns-in_err-write_pages-clause-durable
returns-in_err-write_pages-clause-durable g c = rw (err_from_is_err_and c.from_residual-in_err-write_pages.result c.from_residual-in_err-write_pages.ensures.1).1 tt

pub returns-clause-durable : goal.returns-clause-durable
returns-clause-durable g c = c.put_cell.ensures.durable

pub returns-in_err-shut-clause-errors : goal.returns-in_err-shut-clause-errors
returns-in_err-shut-clause-errors g c =
    let returned = err_from_is_err_and c.from_residual.result c.from_residual.ensures.1 in
    rw (returned.1, returned.2) c.in_err-shut.ensures.errors

pub returns-in_err-write_pages-clause-errors : goal.returns-in_err-write_pages-clause-errors
returns-in_err-write_pages-clause-errors g c =
    let returned = err_from_is_err_and c.from_residual-in_err-write_pages.result c.from_residual-in_err-write_pages.ensures.1 in
    rw (returned.1, returned.2) (inl c.in_err-write_pages.ensures.err)

pub returns-clause-errors : goal.returns-clause-errors
returns-clause-errors g c = c.put_cell.ensures.errors

pub returns-clause-uses : goal.returns-clause-uses
returns-clause-uses g c = Uses-trans _ _ _ tt _ (Uses-trans _ _ _ tt _ c.in_ok-shut.ensures.uses c.in_ok-write_pages.ensures.uses) c.put_cell.ensures.uses
