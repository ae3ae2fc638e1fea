use Rattle.tmem_front.specs.Held.{front_found, spine_of}
use Rattle.tmem_caller.specs.Refusals.{refusals_program}
use Rattle.tmem_caller.proofs.refusals.opening.open.Given as goal

-- the store that was just opened
abbrev pub ghosts-with_front-N-Naming : goal.ghosts-with_front-N-Naming
ghosts-with_front-N-Naming g a = record { name = spine_of a.opened }

abbrev pub ghosts-with_front-N-ProgramNaming : goal.ghosts-with_front-N-ProgramNaming
ghosts-with_front-N-ProgramNaming g a = record { program = refusals_program }

abbrev pub ghosts-with_front-N-StoreNaming : goal.ghosts-with_front-N-StoreNaming
ghosts-with_front-N-StoreNaming g a = record { opening = front_found a.opened }
