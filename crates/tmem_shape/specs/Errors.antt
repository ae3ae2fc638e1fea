-- Why a text was not read.
use Rattle.std.specs.Prelude.{◌≡◌, ℕ, List, All}
use Rattle.tmem_tables.specs.declared.linear.Linear.{Linear}
use Rattle.tmem_shape.specs.Shapes.{BreaksFirst, CanHold}
use Rattle.tmem_shape.specs.declared.error.ShapeError.{ShapeError}
use Rattle.tmem_shape.specs.declared.error.ShapeError.TheVariants.{Memory, NoShape}
use Rattle.tmem_shape.specs.declared.key.Key.TheVariants.{Least}
use Rattle.tmem_shape.specs.declared.place.ShapePlace.TheVariants.{InvariantMember}
use Rattle.tmem_shape.specs.declared.why.ShapeFlaw.TheVariants.{Crossed}

-- where nothing but the text is at fault, this holds
abbrev pub RefusesText : ShapeError → Type 0 → Type 0
RefusesText (Memory e) P = Unit {0}
RefusesText (NoShape why at) P = P

-- the place of the least of the first one of these whose bounds cross, and that they do
abbrev pub TellsFirstCrossed : List Linear → ShapeError → Type 0
TellsFirstCrossed invariants e =
    (i : ℕ) × (e ≡ NoShape Crossed (InvariantMember i Least)) × BreaksFirst (All CanHold) invariants i
