-- What two calls of a device say together.
use Rattle.std.proofs.Common.{◌≡◌, ◌⊎◌, inl, inr, ℕ, ◌∙◌, ap, subst}
use Rattle.std.specs.Prelude.{Result, Ok, Err, Some, MatchResult, IfErr, IsErrOf}
use Rattle.tmem_disk.specs.Disk.{DeviceView}
use Rattle.tmem_disk.specs.declared.disk.DeviceFault.TheVariants.{Write, Sync}
use Rattle.tmem_fault.specs.declared.fault.Fault.{Fault}
use Rattle.tmem_fault.specs.declared.fault.Fault.TheVariants.{Device, Unknown, Geometry}
use Rattle.tmem_gate.specs.Calls.{Uses, failures_after}

-- a call after one that succeeded
pub uses_after : {S T : Type 0} {old mid new : DeviceView} {x : S} (r : Result T Fault) → Uses {T = S} old mid (Ok x) → Uses mid new r → Uses old new r
uses_after {new = new} r first then = record {
  capacity = then.capacity ∙ first.capacity;
  model = λ k. first.model (then.model k);
  failures = subst (λ (n : ℕ). MatchResult r (λ _. new.failures ≡ n) (λ f. new.failures ≡ failures_after f n)) first.failures then.failures;
}

-- a failed call is one whatever it is told as
pub device_failed : (f : Fault) (n m : ℕ) → (f ≡ Device) ⊎ (f ≡ Unknown) → m ≡ failures_after f n → m ≡ failures_after Device n
device_failed f n m (inl is) failed = failed ∙ ap (λ (g : Fault). failures_after g n) is
device_failed f n m (inr is) failed = failed ∙ ap (λ (g : Fault). failures_after g n) is

-- a failed sync is no failed write
pub sync_is_no_write : Some Sync ≡ Some Write → ⊥
sync_is_no_write e = cc

-- what a failed call is told as says nothing of the numbers
pub device_is_not_geometry : {T : Type 0} → IsErrOf {T = T} (Err Device) Geometry → ⊥
device_is_not_geometry e = cc

pub geometry_is_not_there : {T : Type 0} (r : Result T Fault) → IfErr r (λ f. f ≡ Device) → IsErrOf r Geometry → ⊥
geometry_is_not_there {T = T} r device is = told (subst (λ (x : Result T Fault). IfErr x (λ f. f ≡ Device)) is device)
  where
    told : Geometry ≡ Device → ⊥
    told e = cc
