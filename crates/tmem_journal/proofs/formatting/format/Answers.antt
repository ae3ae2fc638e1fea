use Rattle.std.proofs.Common.{◌∙◌, inl, inr, refl, ap, arith, rules}
use Rattle.std.proofs.lemmas.Bool.{false≢true}
use Rattle.std.proofs.lemmas.Result.{err_from_is_err_and, IfErr-weaker}
use Rattle.tmem_fault.specs.declared.fault.Fault.{Fault}
use Rattle.tmem_gate.specs.Calls.{failures_after}
use Rattle.tmem_record.specs.Layout.{end_at}
use Rattle.tmem_gate.proofs.Laws.{WritesWithin-refl, WritesWithin-wider, WritesWithin-trans}
use Rattle.tmem_journal.proofs.Building.{still_zeros, same_rest}
use Rattle.tmem_journal.proofs.Chained.{uses_after, device_is_not_geometry, geometry_is_not_there}
use Rattle.tmem_journal.proofs.FormattedContent.{formatted_device, on_ok, on_ok_2}
use Rattle.tmem_journal.proofs.Opened.{fits_on}
use Rattle.tmem_journal.proofs.formatting.format.Goals as goal

pub returns-in_err-layout : goal.returns-in_err-layout
returns-in_err-layout g c =
    let failed = c.in_err-layout.ensures in
    let view = g.D.Disk.view c.args.disk.now in
    let returned = err_from_is_err_and c.from_residual.result c.from_residual.ensures.1 in
    rw (returned.1, returned.2, failed.err) (record {
      uses = record { capacity = refl; model = λ k. k; failures = refl };
      fits = tt;
      geometry = λ _ fits. false≢true (failed.ok.1 fits.layout);
      unfit = λ _. refl;
      untouched = λ _. refl;
      errors = inl refl;
      stands = tt;
      written = tt;
      durable = tt;
      elsewhere = WritesWithin-refl 0 (end_at c.args.vars c.args.slots) view (g.met.D.Disk.is_device c.args.disk.now);
    })

pub returns-then-size-end : goal.returns-then-size-end
returns-then-size-end g c =
    let view = g.D.Disk.view c.args.disk.now in
    record {
      uses = record { capacity = refl; model = λ k. k; failures = refl };
      fits = tt;
      geometry = λ _ fits. absurd (omega (arith, fits.room, c.size.ensures, c.end-end.ensures, c.in_ok-layout.ensures.vars, c.in_ok-layout.ensures.slots, c.if-size-end.true));
      unfit = λ _. refl;
      untouched = λ _. refl;
      errors = inl refl;
      stands = tt;
      written = tt;
      durable = tt;
      elsewhere = WritesWithin-refl 0 (end_at c.args.vars c.args.slots) view (g.met.D.Disk.is_device c.args.disk.now);
    }

pub returns-in_err-erase : goal.returns-in_err-erase
returns-in_err-erase g c =
    let view = g.D.Disk.view c.args.disk.now in
    let end = end_at c.args.vars c.args.slots in
    let it = c.in_err-erase.ensures in
    let vars = c.in_ok-layout.ensures.vars in
    let slots = c.in_ok-layout.ensures.slots in
    let fits = fits_on c.in_ok-layout.layout c.args.vars c.args.slots view.capacity vars slots (omega (arith, c.size.ensures, c.end-end.ensures, c.if-size-end.false)) in
    let returned = err_from_is_err_and c.from_residual-in_err-erase.result c.from_residual-in_err-erase.ensures.1 in
    rw (returned.1, returned.2, it.err) (record {
      uses = record { capacity = it.uses.capacity; model = it.uses.model; failures = it.uses.failures ∙ ap (λ (f : Fault). failures_after f view.failures) it.err };
      fits = tt;
      geometry = λ is. absurd (device_is_not_geometry is);
      unfit = λ unfit. absurd (unfit fits);
      untouched = λ is. absurd (device_is_not_geometry is);
      errors = inr refl;
      stands = tt;
      written = tt;
      durable = tt;
      elsewhere = WritesWithin-wider 0 c.end-end.result 0 end (omega arith) (omega (arith, vars, slots, c.end-end.ensures)) _ _ it.elsewhere;
    })

pub build-requires : goal.build-requires
build-requires g c = record {
  room = search rules;
  zeros = λ k. still_zeros c.end-end.result _ (g.D.Disk.view c.args.disk.now).seen _ c.end-end.ensures (search rules);
  synced = search rules;
}

pub returns : goal.returns
returns g c =
    let end = end_at c.args.vars c.args.slots in
    let layout = c.in_ok-layout.layout in
    let vars = c.in_ok-layout.ensures.vars in
    let slots = c.in_ok-layout.ensures.slots in
    let fits = fits_on layout c.args.vars c.args.slots (g.D.Disk.view c.args.disk.now).capacity vars slots (omega (arith, c.size.ensures, c.end-end.ensures, c.if-size-end.false)) in
    let it = c.in_ok-erase.ensures in
    let then = c.build.ensures in
    record {
      uses = uses_after c.build.result it.uses then.uses;
      fits = on_ok (λ _. fits) c.build.result then.durable;
      geometry = λ is. absurd (geometry_is_not_there c.build.result then.err is);
      unfit = λ unfit. absurd (unfit fits);
      untouched = λ is. absurd (geometry_is_not_there c.build.result then.err is);
      errors = IfErr-weaker c.build.result _ _ (λ f is. inr is) then.err;
      stands = on_ok_2 (λ written synced. formatted_device c.args.vars c.args.slots fits.layout _ _
          (λ k. written k ∙ same_rest _ _ c.args.vars c.args.slots c.end-end.result _ _ vars slots c.end-end.ensures (it.zeros (then.uses.model k))) synced)
          c.build.result then.written then.durable;
      written = on_ok (λ written k. written k ∙ same_rest _ _ c.args.vars c.args.slots c.end-end.result _ _ vars slots c.end-end.ensures (it.zeros (then.uses.model k)))
          c.build.result then.written;
      durable = then.durable;
      elsewhere = WritesWithin-trans 0 end _ _ _ then.uses.model (WritesWithin-wider 0 c.end-end.result 0 end (omega arith) (omega (arith, vars, slots, c.end-end.ensures)) _ _ it.elsewhere)
          (WritesWithin-wider 0 (end_at layout.vars layout.slots) 0 end (omega arith) (omega (arith, vars, slots)) _ _ then.elsewhere);
    }
