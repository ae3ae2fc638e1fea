use Rattle.tmem_front.specs.Held.{front_found, spine_of}
use Rattle.tmem_bench.specs.Counting.{counting}
use Rattle.tmem_bench.proofs.totals.open_and_count.Given as goal

-- the store that was just opened
abbrev pub ghosts-count_opened-N-Naming : goal.ghosts-count_opened-N-Naming
ghosts-count_opened-N-Naming g a = record { name = spine_of a.opened }

abbrev pub ghosts-count_opened-N-ProgramNaming : goal.ghosts-count_opened-N-ProgramNaming
ghosts-count_opened-N-ProgramNaming g a = record { program = counting }

abbrev pub ghosts-count_opened-N-StoreNaming : goal.ghosts-count_opened-N-StoreNaming
ghosts-count_opened-N-StoreNaming g a = record { opening = front_found a.opened }
