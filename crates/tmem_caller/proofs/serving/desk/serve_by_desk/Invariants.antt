use Rattle.std.specs.Prelude.{[], ◌∷◌}
use Rattle.tmem_front.specs.Held.{front_found, spine_of}
use Rattle.tmem_caller.specs.Serving.{solvent}
use Rattle.tmem_caller.proofs.serving.desk.serve_by_desk.Given as goal

-- the store that was just opened
abbrev pub ghosts-serve_opened-N-Naming : goal.ghosts-serve_opened-N-Naming
ghosts-serve_opened-N-Naming g a = record { name = spine_of a.opened }

abbrev pub ghosts-serve_opened-N-ProgramNaming : goal.ghosts-serve_opened-N-ProgramNaming
ghosts-serve_opened-N-ProgramNaming g a = record { program = solvent }

abbrev pub ghosts-serve_opened-N-StoreNaming : goal.ghosts-serve_opened-N-StoreNaming
ghosts-serve_opened-N-StoreNaming g a = record { opening = front_found a.opened }

abbrev pub ghosts-serve_opened-N-ServedNaming : goal.ghosts-serve_opened-N-ServedNaming
ghosts-serve_opened-N-ServedNaming g a = record { arities = 2 ∷ 2 ∷ 2 ∷ []; always = [] }
