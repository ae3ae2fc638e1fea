-- The laws of this crate's definitions that the crates above rest on.

-- how long the parts of an image are
pub use Rattle.tmem_image.proofs.Lengths.{joined, length-names_body, length-pages_body, length-image_body}
-- the generations of two cells, and which of them is chosen
pub use Rattle.tmem_image.proofs.Choices.{one_body, one_head, stale_below, below_stale, one_generation, one_choice}
-- what a cell says of the image that it holds
pub use Rattle.tmem_image.proofs.Images.{front_of_image, lesser_of, one_image}
-- each version has a byte of its own
pub use Rattle.tmem_image.proofs.Imaging.{one_version}
-- the pages of a copy that hold given values
pub use Rattle.tmem_image.proofs.Changed.{HoldsOthers-before, HoldsOthers-after, HoldsOthers-all, HoldsOthers-fold, HoldsOthers-image}
