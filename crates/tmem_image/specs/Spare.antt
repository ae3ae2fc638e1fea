-- What a crash leaves of the copy that an image is written to.
use Rattle.std.specs.Prelude.{◌≡◌, ℕ, List, slice_get}
use Rattle.tmem_disk.specs.Disk.{DeviceView, SameOutside, SameSeenOutside, LeavesOnly, AtEachMoment}
use Rattle.tmem_gate.specs.Calls.{MadeBy, WritesWithin}
use Rattle.tmem_gate.specs.Gate.{HasBody}
use Rattle.tmem_record.specs.Stale.{IsClosedOrStale}
use Rattle.tmem_effect.specs.State.{State}
use Rattle.tmem_record.specs.Layout.{image_at, image_size}
use Rattle.tmem_record.specs.declared.layout.Layout.{Layout}
use Rattle.tmem_state.specs.declared.version.Version.TheVariants.{Two}
use Rattle.tmem_image.specs.Image.{HoldsImage}
use Rattle.tmem_image.specs.Spelling.{image_body}

-- Which image goes where: over so many variables, to this copy, of this generation, of this state.
pub record ImagePlaced : Type 0 where
  pub vars : ℕ
  pub copy : ℕ
  pub generation : ℕ
  pub state : State

abbrev pub image_placed : Layout → ℕ → ℕ → State → ImagePlaced
image_placed layout copy generation s = record { vars = layout.vars; copy = copy; generation = generation; state = s }

-- The second content is the first outside n bytes from an offset on, and the cell there is closed or stale for each
-- generation that it was so for.
pub record Left (at n : ℕ) (b c : List ℕ) : Type 0 where
  pub elsewhere : SameOutside at n b c
  pub stale : (generation : ℕ) → IsClosedOrStale generation at b → IsClosedOrStale generation at c

-- every crash leaves the gate at an offset as a read gives it
abbrev pub GateIsSynced : ℕ → DeviceView → Type 0
GateIsSynced at d = LeavesOnly d (λ c. slice_get c at ≡ slice_get d.seen at)

-- What calls do to the cell there that make it ready: nothing outside the n bytes is written, and a crash at each moment of them
-- leaves the cell closed or stale, as it was.
pub record Spares (at n : ℕ) (old new : DeviceView) : Type 0 where
  pub within : WritesWithin at n old new
  pub during : AtEachMoment old new (MadeBy (Left at n) old)

-- nothing outside the copy changes, and the copy is closed or stale, as it was
abbrev pub WithoutImage : ImagePlaced → List ℕ → List ℕ → Type 0
WithoutImage p b c = Left (image_at p.vars p.copy) (image_size p.vars) b c

-- nothing outside the copy changes, and the copy holds the image, of version 2
pub record WithImage (p : ImagePlaced) (b c : List ℕ) : Type 0 where
  pub elsewhere : SameOutside (image_at p.vars p.copy) (image_size p.vars) b c
  pub image : HoldsImage Two p.vars p.copy p.generation p.state c

-- Where the write of the gate that opens the image failed: the whole image, of version 2, stands behind that gate, and a
-- read gives outside the copy what it gave before.
pub record AwaitsGate (p : ImagePlaced) (old new : DeviceView) : Type 0 where
  pub body : new.keeps_model → HasBody (image_at p.vars p.copy) (image_body Two p.vars p.generation p.state) new.seen
  pub elsewhere : SameSeenOutside (image_at p.vars p.copy) (image_size p.vars) old new
