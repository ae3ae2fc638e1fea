-- What is looked at of a device, and what holds where a call answers `Ok`.
use Rattle.std.proofs.Common.{Result, Ok, Err}
use Rattle.std.specs.Result.{OnOk}
use Rattle.tmem_disk.specs.Disk.{DeviceView}
use Rattle.tmem_gate.specs.Calls.{OnlyReads}

-- what follows where it answers `Ok` from two facts that hold there
pub both_at_ok : {T E A B C : Type 0} (r : Result T E) → (A → B → C) → OnOk r A → OnOk r B → OnOk r C
both_at_ok (Ok x) follows a b = follows a b
both_at_ok (Err f) follows a b = tt

-- nothing is said of a device that does not keep the model
pub reads_only_never : (old new : DeviceView) → (new.keeps_model → ⊥) → OnlyReads old new
reads_only_never old new not = record {
  seen = λ k. absurd (not k);
  crash = record { each = λ k c left. absurd (not k) };
  time = record {
    later = λ k. absurd (not k);
    nothing_else = λ k t c since left. absurd (not k);
    keeps = λ k t c since left. absurd (not k);
    before_or_since = λ k t c since left. absurd (not k);
  };
}
