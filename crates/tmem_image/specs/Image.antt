-- The two copies of an image, and which of them is chosen.
use Rattle.std.specs.Prelude.{◌<◌, ◌≤◌, ◌-◌, ◌^◌, ℕ, List, Option, Some, None}
use Rattle.tmem_gate.specs.Gate.{IsClosed, IsOpenOver}
use Rattle.tmem_record.specs.Stale.{IsClosedOrStale}
use Rattle.tmem_effect.specs.State.{State}
use Rattle.tmem_record.specs.Spelling.{number_bytes}
use Rattle.tmem_record.specs.Layout.{image_at}
use Rattle.tmem_state.specs.declared.version.Version.{Version}
use Rattle.tmem_image.specs.Spelling.{image_body, IsImage}

-- a number that a generation of images may have
pub record IsGeneration (generation : ℕ) : Type 0 where
  pub some : 1 ≤ generation
  pub fits : generation < 2 ^ 64

-- this copy is open over the image of that version, generation and state
pub record HoldsImage (v : Version) (vars copy generation : ℕ) (s : State) (c : List ℕ) : Type 0 where
  pub number : IsGeneration generation
  pub fits : IsImage vars s
  pub cell : IsOpenOver (image_at vars copy) (image_body v vars generation s) c

-- the other one of two copies
abbrev pub other_copy : ℕ → ℕ
other_copy copy = 1 - copy

-- This copy is open over that generation, and the other one is closed or open over a lesser one. Of the other one nothing
-- but its gate and its generation counts.
pub record IsChosen (vars copy generation : ℕ) (c : List ℕ) : Type 0 where
  pub one : copy ≤ 1
  pub fits : generation < 2 ^ 64
  pub cell : IsOpenOver (image_at vars copy) (number_bytes 8 generation) c
  pub other : IsClosedOrStale generation (image_at vars (other_copy copy)) c

-- this copy is chosen, whatever its generation
abbrev pub ChoosesCopy : ℕ → ℕ → List ℕ → Type 0
ChoosesCopy vars copy c = (generation : ℕ) × IsChosen vars copy generation c

-- the cell at an offset is open over this generation; or it is closed
abbrev pub HasHead : ℕ → Option ℕ → List ℕ → Type 0
HasHead at (Some generation) c = IsOpenOver at (number_bytes 8 generation) c
HasHead at None c = IsClosed at c
