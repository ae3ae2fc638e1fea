-- What contracts see of the lines of what was read.
use Rattle.std.specs.Prelude.{ℕ, Bool, List}

-- the line that was cut off last, what is held behind it, whether a line began before that and is too long already, and how many bytes
-- are held in all
pub record LinesView : Type 0 where
  pub line : List ℕ
  pub rest : List ℕ
  pub is_long : Bool
  pub held : ℕ
