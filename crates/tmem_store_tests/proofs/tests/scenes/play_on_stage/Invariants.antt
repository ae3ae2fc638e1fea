use Rattle.tmem_front.specs.Held.{front_found, spine_of}
use Rattle.tmem_store_tests.specs.Examples.{adding}
use Rattle.tmem_store_tests.proofs.tests.scenes.play_on_stage.Given as goal

-- the store that was just opened
abbrev pub ghosts-play_named-N-Naming : goal.ghosts-play_named-N-Naming
ghosts-play_named-N-Naming g a = record { name = spine_of a.opened }

abbrev pub ghosts-play_named-N-ProgramNaming : goal.ghosts-play_named-N-ProgramNaming
ghosts-play_named-N-ProgramNaming g a = record { program = adding }

abbrev pub ghosts-play_named-N-StoreNaming : goal.ghosts-play_named-N-StoreNaming
ghosts-play_named-N-StoreNaming g a = record { opening = front_found a.opened }
