-- The parts of a device, and their offsets.
use Rattle.std.specs.Prelude.{ℕ, ◌+◌, ◌*◌, ◌/◌, ◌≤◌}

-- how many pages of 64 values hold so many variables
abbrev pub pages_of : ℕ → ℕ
pages_of vars = (vars + 63) / 64

-- an image: a header of 2048 bytes, and its pages of 512
abbrev pub image_size : ℕ → ℕ
image_size vars = 2048 + 512 * pages_of vars

-- where an image copy begins, behind block 0
abbrev pub image_at : ℕ → ℕ → ℕ
image_at vars copy = 512 + copy * image_size vars

-- where a log slot begins, behind both images
abbrev pub slot_at : ℕ → ℕ → ℕ
slot_at vars slot = 512 + 2 * image_size vars + 4096 * slot

-- the first offset behind the last slot
abbrev pub end_at : ℕ → ℕ → ℕ
end_at vars slots = slot_at vars slots

-- the numbers of variables and log slots that a device may have
pub record IsLayout (vars slots : ℕ) : Type 0 where
  pub some_vars : 1 ≤ vars
  pub vars_fit : vars ≤ 1024
  pub some_slots : 2 ≤ slots
  pub slots_fit : slots ≤ 64
