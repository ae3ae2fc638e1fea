-- How the content of a new store gets onto a device that is there.
use Rattle.std.specs.Prelude.{◌≡◌, ◌⊎◌, ⊤, ◌<◌, ℕ, List, length, drop, take, slice_index}
use Rattle.tmem_disk.specs.Disk.{AtEachMoment, DeviceView}
use Rattle.tmem_fault.specs.declared.fault.Fault.TheVariants.{Device, Unknown}
use Rattle.tmem_file.specs.FileView.{file_view}
use Rattle.tmem_file.specs.Opening.{IsFreshlyOpened}
use Rattle.tmem_file.specs.declared.disk.FileDisk.{FileDisk}
use Rattle.tmem_gate.specs.Calls.{OnlyReads}
use Rattle.tmem_gate.specs.Gate.{IsClosed, IsOpenOver}
use Rattle.tmem_init.specs.declared.error.InitError.{InitError}
use Rattle.tmem_init.specs.declared.error.InitError.TheVariants.{Refused}

-- the gate of block 0 is 0, and each byte is 0 or as this content has it: the device is blank, or the content was begun there
pub record IsBlankFor (content found : List ℕ) : Type 0 where
  pub gate : slice_index found 0 ≡ 0
  pub each : (k : ℕ) → k < length found → (slice_index found k ≡ 0) ⊎ (slice_index found k ≡ slice_index content k)

-- the gate is as it was found, and each byte is as it was found or as this content has it
pub record IsBetween (content found left : List ℕ) : Type 0 where
  pub size : length left ≡ length found
  pub gate : slice_index left 0 ≡ slice_index found 0
  pub each : (k : ℕ) → k < length left → (slice_index left k ≡ slice_index found k) ⊎ (slice_index left k ≡ slice_index content k)

-- block 0 is closed, or the whole content stands behind its open gate
abbrev pub IsNotHalf : List ℕ → List ℕ → Type 0
IsNotHalf content c = IsClosed 0 c ⊎ IsOpenOver 0 (drop 1 content) c

-- a crash might have left it before, or it is not half made
abbrev pub LeftByMaking : List ℕ → DeviceView → List ℕ → Type 0
LeftByMaking content old c = old.may_leave c ⊎ IsNotHalf content c

-- it tells of something else than a call that failed
abbrev pub IsEarly : InitError → Type 0
IsEarly (Refused Device) = ⊥
IsEarly (Refused Unknown) = ⊥
IsEarly _ = ⊤

-- A file was opened that was blank for this content, and is the device now. A crash at any moment since then leaves what one might have
-- left before, or a content that is not half made.
pub record IsPutOnBlank (content : List ℕ) (d : DeviceView) : Type 0 where
  pub found : FileDisk
  pub opened : IsFreshlyOpened (file_view found)
  pub blank : d.keeps_model → IsBlankFor content (take (length content) (file_view found).seen)
  pub moments : AtEachMoment (file_view found) d (LeftByMaking content (file_view found))

-- A file was opened that was not blank for this content, and was read alone.
pub record FindsOther (content : List ℕ) : Type 0 where
  pub found : FileDisk
  pub opened : IsFreshlyOpened (file_view found)
  pub handed : FileDisk
  pub reads_only : OnlyReads (file_view found) (file_view handed)
  pub other : (file_view handed).keeps_model → ¬ IsBlankFor content (take (length content) (file_view found).seen)
