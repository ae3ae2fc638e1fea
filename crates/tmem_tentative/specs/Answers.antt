-- The answers that a cursor was given.
use Rattle.std.specs.Prelude.{Bool, List, [], ◌∷◌, ◌++◌}
use Rattle.tmem_tentative.specs.declared.answers.Answers.{Answers}
use Rattle.tmem_tentative.specs.declared.answers.Answers.TheVariants.{Start, After'}

-- the first one first
abbrev pub answers_of : Answers → List Bool
answers_of Start = []
answers_of (After' held signature earlier) = answers_of earlier ++ held.value ∷ []
