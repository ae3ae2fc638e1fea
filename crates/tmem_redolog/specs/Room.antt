-- Memory for a log that is read.
use Rattle.std.specs.Prelude.{◌≡◌, ◌*◌, ℕ, length}
use Rattle.tmem_redolog.specs.declared.room.LogRoom.{LogRoom}

-- room for the bytes of so many slots
abbrev pub IsLogRoom : ℕ → LogRoom → Type 0
IsLogRoom slots room = length room.bytes.items ≡ 4096 * slots
