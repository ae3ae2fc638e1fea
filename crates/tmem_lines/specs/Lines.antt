-- Lines of a text, and what is held of one whose last line has not ended.
use Rattle.std.specs.Prelude.{◌≡◌, ◌≢◌, ◌≤◌, ◌<◌, ◌++◌, ◌∷◌, [], ℕ, List, length, All, MatchBool}
use Rattle.tmem_lines.specs.Views.{LinesView}

-- a line as it stands in a text: its bytes, and a line break
abbrev pub line : List ℕ → List ℕ
line bytes = bytes ++ 10 ∷ []

-- no line break is among these bytes
abbrev pub IsUnbroken : List ℕ → Type 0
IsUnbroken bytes = All (λ byte. byte ≢ 10) bytes

abbrev pub IsLine : List ℕ → Type 0
IsLine bytes = length bytes ≤ 65536

abbrev pub IsLongLine : List ℕ → Type 0
IsLongLine bytes = 65536 < length bytes

-- the beginning of a line that was too long to be held
pub record IsForgotten (before : List ℕ) : Type 0 where
  pub unbroken : IsUnbroken before
  pub long : IsLongLine before

-- What is held is the rest of a text, behind the lines that were cut off: it is that text, or of a line that is too long no more than its
-- end.
abbrev pub HoldsRestOf : LinesView → List ℕ → Type 0
HoldsRestOf v text =
    MatchBool v.is_long ((before : List ℕ) × (text ≡ before ++ v.rest) × IsForgotten before) (text ≡ v.rest)

-- the text begins with a line of these bytes, and what is held is the rest
pub record IsCutOff (text bytes : List ℕ) (new : LinesView) : Type 0 where
  pub rest : List ℕ
  pub is : text ≡ line bytes ++ rest
  pub unbroken : IsUnbroken bytes
  pub stands : HoldsRestOf new rest
