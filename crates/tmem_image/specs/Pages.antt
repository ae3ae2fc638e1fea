-- Sets of at most 16 pages, as the bits of a number, and where the pages of an image copy hold given values.
use Rattle.std.specs.Prelude.{◌≡◌, ◌<◌, ◌+◌, ◌*◌, ◌/◌, ◌==◌, ℕ, ℤ, Bool, false, List}
use Rattle.std.specs.Int.{bit_at}
use Rattle.std.specs.List.{list_any}
use Rattle.tmem_record.specs.Layout.{pages_of, image_at}
use Rattle.tmem_record.specs.StandsAt.{StandsAt}
use Rattle.tmem_effect.specs.declared.effect.Effect.{Effect}
use Rattle.tmem_image.specs.Spelling.{page_bytes}

-- whether a set has a page: the bit there is 1
unfoldable pub has_page : ℕ → ℕ → Bool
has_page pages page = bit_at pages page == 1

-- whether some of these writes is to a variable of a page: each page has 64 variables
abbrev pub is_page_written : List (ℕ × ℤ) → ℕ → Bool
is_page_written ws page = list_any (λ (w : ℕ × ℤ). w.0 / 64 == page) ws

-- whether some of these effects writes such a variable
abbrev pub is_page_changed : List Effect → ℕ → Bool
is_page_changed es page = list_any (λ (e : Effect). is_page_written e.writes page) es

-- where the pages of an image copy begin
abbrev pub pages_at : ℕ → ℕ → ℕ
pages_at vars copy = image_at vars copy + 2048

-- Each page that is not in a set holds these values, where the pages begin at an offset.
pub record HoldsOthers (at vars pages : ℕ) (values : List ℤ) (c : List ℕ) : Type 0 where
  pub each : (page : ℕ) → page < pages_of vars → has_page pages page ≡ false → StandsAt (at + 512 * page) (page_bytes values page) c
