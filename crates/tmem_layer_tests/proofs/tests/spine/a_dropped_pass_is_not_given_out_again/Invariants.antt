use Rattle.tmem_layer_tests.proofs.tests.spine.a_dropped_pass_is_not_given_out_again.Given as goal

-- the spine that was just opened
abbrev pub ghosts-passes : goal.ghosts-passes
ghosts-passes g a = record { name = a.opened }
