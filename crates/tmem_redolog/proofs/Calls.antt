-- Why a call of a device failed.
use Rattle.std.proofs.Common.{◌≡◌, ◌⊎◌, inl, inr, refl}
use Rattle.tmem_disk.specs.declared.disk.DeviceFault.{DeviceFault}
use Rattle.tmem_disk.specs.declared.disk.DeviceFault.TheVariants.{Read, Write, Sync}

-- a fault that no sync made
pub not_of_sync : (f : DeviceFault) → (f ≡ Sync → ⊥) → (f ≡ Read) ⊎ (f ≡ Write)
not_of_sync Read not = inl refl
not_of_sync Write not = inr refl
not_of_sync Sync not = absurd (not refl)
