-- What is known of a call of a device that failed, and of one that did not, from what each changes.
use Rattle.std.proofs.Common.{◌≡◌, refl, arith}
use Rattle.std.specs.Prelude.{Some, Ok, Err}
use Rattle.std.proofs.lemmas.Bool.{false≢true}
use Rattle.tmem_disk.specs.declared.disk.DeviceFault.{DeviceFault}
use Rattle.tmem_disk.specs.Disk.{DeviceView, IsCall, after_fault}

pub call_fails : {T : Type 0} (old new : DeviceView) (fault : DeviceFault) → new.capacity ≡ old.capacity → new.failures ≡ after_fault old.failures → new.last_fault ≡ Some fault → (new.keeps_model → old.keeps_model)
    → IsCall {T = T} old new (Err fault) (λ f. f ≡ fault)
call_fails old new fault capacity failures last model = record {
  capacity = capacity;
  ok = tt;
  err = failures;
  rose = λ short. (λ failed. omega (arith, failures, short), λ rose. refl);
  fault = refl;
  last = last;
  model = model;
}

pub call_works : {T : Type 0} (old new : DeviceView) (fault : DeviceFault) (value : T) → new.capacity ≡ old.capacity → new.failures ≡ old.failures → new.last_fault ≡ old.last_fault → (new.keeps_model → old.keeps_model)
    → IsCall old new (Ok value) (λ f. f ≡ fault)
call_works old new fault value capacity failures last model = record {
  capacity = capacity;
  ok = failures;
  err = tt;
  rose = λ short. (λ failed. absurd (false≢true failed), λ rose. absurd (omega (arith, failures, rose)));
  fault = tt;
  last = last;
  model = model;
}
