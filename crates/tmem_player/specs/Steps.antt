-- What the stored steps answer.
use Rattle.std.specs.Prelude.{nat_eq, if◌then◌else◌}
use Rattle.tmem_builtins.specs.Steps.{sum_of, difference_of, at_least}
use Rattle.tmem_tree.specs.StepAnswers.{StepMeanings}

-- step 0 adds, step 1 subtracts, and each other one needs a number
abbrev pub player_answer : StepMeanings
player_answer index args = if nat_eq index 0 then sum_of args else (if nat_eq index 1 then difference_of args else at_least args)
