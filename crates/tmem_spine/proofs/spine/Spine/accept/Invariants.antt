use Rattle.tmem_spine.specs.History.{marked_effect}
use Rattle.tmem_spine.proofs.spine.Spine.accept.Given as goal

-- the effect in hand, under the mark of the pass in hand
abbrev pub ghosts-accept_step : goal.ghosts-accept_step
ghosts-accept_step g a = record { picked = marked_effect a.pass.now.mark a.effect.now; number = 0 }

-- the same, at its number
abbrev pub ghosts-gain_step : goal.ghosts-gain_step
ghosts-gain_step g a = record { picked = marked_effect a.pass.now.mark a.effect.now; number = a.number }
