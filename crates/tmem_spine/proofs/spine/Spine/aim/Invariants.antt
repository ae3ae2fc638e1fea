use Rattle.tmem_effect.specs.State.{no_effect}
use Rattle.tmem_spine.specs.History.{marked_effect}
use Rattle.tmem_spine.proofs.spine.Spine.aim.Given as goal

-- up to the number in hand
abbrev pub ghosts-aim_step : goal.ghosts-aim_step
ghosts-aim_step g a = record { picked = marked_effect 0 no_effect; number = a.upto }
