-- What the cell of a copy says of the image that it holds.
use Rattle.std.proofs.Common.{◌+◌, ◌<◌, ◌∷◌, ◌++◌, ℕ, List, length, sym, ◌∙◌}
use Rattle.tmem_gate.specs.Gate.{HasBody, IsOpenOver}
use Rattle.tmem_record.specs.Layout.{image_at}
use Rattle.tmem_record.specs.Spelling.{number_bytes}
use Rattle.tmem_record.specs.Stale.{IsClosedOrStale}
use Rattle.tmem_record.specs.StandsAt.{StandsAt}
use Rattle.tmem_effect.specs.State.{State}
use Rattle.tmem_state.specs.Versions.{version_byte}
use Rattle.tmem_state.specs.declared.version.Version.{Version}
use Rattle.tmem_record.proofs.Laws.{between_is, first_part}
use Rattle.tmem_image.specs.Spelling.{names_body, pages_body, image_body}
use Rattle.tmem_image.specs.Image.{HoldsImage}
use Rattle.tmem_image.specs.Laws.{OneImage}
use Rattle.tmem_image.proofs.Choices.{one_body, below_stale}
use Rattle.tmem_image.proofs.Imaging.{one_state}
use Rattle.tmem_image.proofs.Lengths.{length-image_body}

-- that a body stands behind a gate, in both words
pub body_stands : (at : ℕ) (body c : List ℕ) → HasBody at body c → StandsAt (at + 1) body c
body_stands at body c has = record { is = sym (between_is (at + 1) (length body) c) ∙ has }

body_from : (at : ℕ) (body c : List ℕ) → StandsAt (at + 1) body c → HasBody at body c
body_from at body c stands = between_is (at + 1) (length body) c ∙ stands.is

-- the front of a body stands behind the same gate
front_of_body : (at : ℕ) (a b c : List ℕ) → IsOpenOver at (a ++ b) c → IsOpenOver at a c
front_of_body at a b c cell = record { gate = cell.gate; body = body_from at a c (first_part (at + 1) a b c (body_stands at (a ++ b) c cell.body)) }

-- the generation stands in front of an image
pub front_of_image : (v : Version) (vars generation at : ℕ) (s : State) (c : List ℕ) → IsOpenOver at (image_body v vars generation s) c → IsOpenOver at (number_bytes 8 generation) c
unfolding image_body
front_of_image v vars generation at s c cell = front_of_body at (number_bytes 8 generation) (number_bytes 8 s.count ++ (names_body s.names ++ (version_byte v ∷ pages_body vars s.values))) c cell

-- a copy that holds an image is stale only for a generation above the image's
pub lesser_of : (v : Version) (vars copy generation later : ℕ) (s : State) (c : List ℕ) → HoldsImage v vars copy generation s c → IsClosedOrStale later (image_at vars copy) c → generation < later
lesser_of v vars copy generation later s c holds stale = below_stale generation later (image_at vars copy) c holds.number.fits (front_of_image v vars generation (image_at vars copy) s c holds.cell) stale

pub one_image : OneImage
one_image v w vars copy g h s t c one other =
    let long = length-image_body v vars g s one.fits.names one.fits.values ∙ sym (length-image_body w vars h t other.fits.names other.fits.values) in
    one_state v w vars g h s t one.number.fits other.number.fits one.fits other.fits (one_body (image_at vars copy) (image_body v vars g s) (image_body w vars h t) c long one.cell other.cell)
