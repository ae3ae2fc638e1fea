use Rattle.tmem_layer_tests.proofs.tests.spine.passes_look_while_effects_become_durable.Given as goal

-- the spine that was just opened
abbrev pub ghosts-together : goal.ghosts-together
ghosts-together g a = record { name = a.opened }
