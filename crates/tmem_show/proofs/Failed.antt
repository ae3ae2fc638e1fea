-- What comes of a call that failed.
use Rattle.std.proofs.Common.{◌≡◌, ◌≢◌, Bool, true, false, refl, inl, inr}
use Rattle.std.specs.Prelude.{◌⊎◌}
use Rattle.std.specs.contracts.io.ErrorKind.{the_type}
use Rattle.std.specs.declared.io.ErrorKind.{ErrorKind}
use Rattle.std.specs.declared.io.ErrorKind.TheVariants.{OutOfMemory}
use Rattle.tmem_fault.specs.declared.fault.Fault.{Fault}
use Rattle.tmem_fault.specs.declared.fault.Fault.TheVariants.{Memory, Device}
use denote.Enum.Bare.{sameb, same_true, same_false}

-- of whatever kind it was, it is told as one of the two
pub one_of_two : (kind : ErrorKind) (fault : Fault) → (kind ≡ OutOfMemory → fault ≡ Memory) → (kind ≢ OutOfMemory → fault ≡ Device) → (fault ≡ Memory) ⊎ (fault ≡ Device)
one_of_two kind fault memory device = by (sameb the_type kind OutOfMemory) refl
  where
    by : (same : Bool) → sameb the_type kind OutOfMemory ≡ same → (fault ≡ Memory) ⊎ (fault ≡ Device)
    by true is = inl (memory (same_true the_type tt kind OutOfMemory is))
    by false is = inr (device (same_false the_type kind OutOfMemory is))
