use Rattle.std.proofs.Common.{inr, refl}
use Rattle.std.proofs.lemmas.Result.{err_from_is_err_and}
use Rattle.tmem_run.proofs.device.device_in_file.Goals as goal

pub returns-in-Err : goal.returns-in-Err
returns-in-Err g c = record { device = tt; failures = tt; refused = inr refl }

pub returns-in_ok-open-in-Ok-true : goal.returns-in_ok-open-in-Ok-true
returns-in_ok-open-in-Ok-true g c =
    let opened = c.in_ok-open-in-Ok-true.ensures.opened in
    record { device = opened; failures = opened.failures; refused = tt }

pub returns-in_err-open-in-Ok-true : goal.returns-in_err-open-in-Ok-true
returns-in_err-open-in-Ok-true g c =
    let p = err_from_is_err_and c.from_residual.result c.from_residual.ensures.1 in
    rw (p.1, p.2) record { device = tt; failures = tt; refused = inr c.in_err-open-in-Ok-true.ensures.refused }

pub returns-in_ok-disk-in-Ok-false : goal.returns-in_ok-disk-in-Ok-false
returns-in_ok-disk-in-Ok-false g c =
    let so = c.in_ok-disk-in-Ok-false.ensures in
    record { device = so.made; failures = so.failures; refused = tt }

pub returns-in_err-disk-in-Ok-false : goal.returns-in_err-disk-in-Ok-false
returns-in_err-disk-in-Ok-false g c =
    let p = err_from_is_err_and c.from_residual-in_err-disk-in-Ok-false.result c.from_residual-in_err-disk-in-Ok-false.ensures.1 in
    rw (p.1, p.2) record { device = tt; failures = tt; refused = c.in_err-disk-in-Ok-false.ensures.refused }
