use Rattle.tmem_layer_tests.proofs.tests.spine.a_look_is_fresh.Given as goal

-- the spine that was just opened
abbrev pub ghosts-one_effect : goal.ghosts-one_effect
ghosts-one_effect g a = record { name = a.opened }
