use Rattle.tmem_front.specs.Held.{front_found, spine_of}
use Rattle.tmem_store_tests.specs.Programs.{checked_program}
use Rattle.tmem_store_tests.proofs.tests.fronts.play_new_store.Given as goal

-- the store that was just opened
abbrev pub ghosts-play_opened-N-Naming : goal.ghosts-play_opened-N-Naming
ghosts-play_opened-N-Naming g a = record { name = spine_of a.opened }

abbrev pub ghosts-play_opened-N-ProgramNaming : goal.ghosts-play_opened-N-ProgramNaming
ghosts-play_opened-N-ProgramNaming g a = record { program = checked_program }

abbrev pub ghosts-play_opened-N-StoreNaming : goal.ghosts-play_opened-N-StoreNaming
ghosts-play_opened-N-StoreNaming g a = record { opening = front_found a.opened }
