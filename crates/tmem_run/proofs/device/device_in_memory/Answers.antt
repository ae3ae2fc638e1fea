use Rattle.std.proofs.Common.{◌∙◌, Err, ap, arith, inl, inr}
use Rattle.std.proofs.lemmas.Result.{err_from_is_err_and}
use Rattle.tmem_run.proofs.Laws.{second_of}
use Rattle.tmem_run.proofs.device.device_in_memory.Goals as goal

pub returns : goal.returns
returns c = record {
  stands = c.in_ok-format.ensures.stands;
  capacity = c.in_ok-format.ensures.uses.capacity ∙ c.in_ok-disk.ensures.made.capacity ∙ c.end.ensures;
  failures = c.in_ok-format.ensures.uses.failures ∙ c.in_ok-disk.ensures.made.failures;
  refused = tt;
}

pub returns-in_err-disk : goal.returns-in_err-disk
returns-in_err-disk c =
    let p = err_from_is_err_and c.from_residual.result c.from_residual.ensures.1 in
    rw (p.1, p.2) record { stands = tt; capacity = tt; failures = tt; refused = inl c.in_err-disk.ensures.refused }

pub returns-in_err-format : goal.returns-in_err-format
returns-in_err-format c =
    let p = err_from_is_err_and c.from_residual-in_err-format.result c.from_residual-in_err-format.ensures.1 in
    let so = c.in_err-format.ensures in
    let made = c.in_ok-disk.ensures.made in
    rw (p.1, p.2) record {
      stands = tt;
      capacity = tt;
      failures = tt;
      refused = inr (second_of so.errors (λ geometry. so.geometry (ap Err geometry) (record { layout = c.args.layout.fits; room = omega (arith, made.capacity, c.end.ensures) })));
    }
