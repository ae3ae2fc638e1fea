-- How the input of a served store is answered: what was read of it, and what was printed for that.
use Rattle.std.specs.Prelude.{◌≡◌, ◌⊎◌, ℕ, List, [], ◌∷◌, ◌++◌, Option}
use Rattle.std.specs.Io.KnownBytes.{Appends, Consumes}
use Rattle.tmem_lines.specs.Views.{LinesView}
use Rattle.tmem_desk.specs.Asking.{Store}
use Rattle.tmem_desk.specs.Desks.{DeskView}
use Rattle.tmem_desk.specs.Failing.{EndsBy, IsLast, TellsAll}
use Rattle.tmem_desk.specs.Serving.{RunsEnd, RunsPiece, ServesPiece, ServesEnd, Splits}
use Rattle.tmem_desk.specs.declared.failure.DeskFailure.{DeskFailure}

-- One read of the input: the bytes that it gave, and what was printed for them.
pub record InputTurn : Type 0 where
  pub piece : List ℕ
  pub answers : List ℕ

-- Turns stand with the newest first.

-- all that was read in them
abbrev pub read_in : List InputTurn → List ℕ
read_in [] = []
read_in (turn ∷ earlier) = read_in earlier ++ turn.piece

-- all that was printed in them
abbrev pub printed_in : List InputTurn → List ℕ
printed_in [] = []
printed_in (turn ∷ earlier) = printed_in earlier ++ turn.answers

-- From v to w the piece of a turn was served, behind the beginning of a line that came before it, and its answers were printed. This
-- beginning of a line is left behind it.
pub record ServesTurn (s : Store) (before : List ℕ) (turn : InputTurn) (v w : DeskView) (left : List ℕ) : Type 0 where
  pub held : LinesView
  pub served : ServesPiece s (before ++ turn.piece) held v w (λ text. text ≡ turn.answers)
  pub rest : left ≡ served.runs.takes.splits.rest

-- From v to w these turns were served, one after another, and this beginning of a line is left.
abbrev pub ServesTurns : Store → List InputTurn → DeskView → DeskView → List ℕ → Type 0
ServesTurns s [] v w left = (w ≡ v) × (left ≡ [])
ServesTurns s (turn ∷ earlier) v w left =
    (mid : DeskView) × (before : List ℕ) × ServesTurns s earlier v mid before × ServesTurn s before turn mid w left

-- From v an input was served to its end: all that was read of it, in these turns, and then what is left at the end. Every byte that was
-- read was served once, in order, and nothing else was printed.
pub record ServesInput (s : Store) (v : DeskView) (unread rest before after : Option (List ℕ)) : Type 0 where
  pub turns : List InputTurn
  pub met : DeskView
  pub left : List ℕ
  pub served : ServesTurns s turns v met left
  pub last : List ℕ
  pub w : DeskView
  pub end : ServesEnd s left met w (λ text. text ≡ last)
  pub read : Consumes unread rest (read_in turns)
  pub printed : Appends before after (printed_in turns ++ last)

-- Each that was due is told, and each line that has ended of what was left and of this piece; or at the end of the input what was left. The
-- desk is w then. Where the output failed, no more was printed than the beginning of that.
abbrev pub TellsStop : Store → List ℕ → List ℕ → DeskView → (List ℕ → Type 0) → DeskFailure → Type 0
TellsStop s left piece v prints f =
    ((held : LinesView) × (w : DeskView) × TellsAll s (λ (texts : List (List ℕ)). Splits (left ++ piece) texts held) (RunsPiece s (left ++ piece) held v) v w prints f)
    ⊎ ((w : DeskView) × TellsAll s (IsLast left) (RunsEnd s left v) v w prints f)

-- From v these turns were served, and then serving ended early, at a piece that was read, or at the end: as the desk says.
pub record StopsInput (s : Store) (v : DeskView) (unread rest before after : Option (List ℕ)) (f : DeskFailure) : Type 0 where
  pub turns : List InputTurn
  pub met : DeskView
  pub left : List ℕ
  pub served : ServesTurns s turns v met left
  pub piece : List ℕ
  pub read : Consumes unread rest (read_in turns ++ piece)
  pub between : Option (List ℕ)
  pub printed : Appends before between (printed_in turns)
  pub ends : EndsBy (Appends between after) f
  pub told : TellsStop s left piece met (Appends between after) f
