-- Memory for an image that is read.
use Rattle.std.specs.Prelude.{◌≡◌, ◌≤◌, ℕ, [], length, vec_capacity}
use Rattle.tmem_record.specs.Layout.{image_size}
use Rattle.tmem_image.specs.declared.room.ImageRoom.{ImageRoom}

-- room for an image over so many variables, in which nothing was read yet
pub record IsImageRoom (vars : ℕ) (room : ImageRoom) : Type 0 where
  pub bytes : length room.bytes.items ≡ image_size vars
  pub names : room.names ≡ []
  pub values : room.values.items ≡ []
  pub capacity : vars ≤ vec_capacity room.values
