use Rattle.tmem_front.specs.Held.{front_found, spine_of, front_steps}
use Rattle.tmem_serve.proofs.serving.serve_store.Given as goal

-- the store that was just opened, under the program that it is served with
abbrev pub ghosts-serve_opened-N-Naming : goal.ghosts-serve_opened-N-Naming
ghosts-serve_opened-N-Naming g a = record { name = spine_of a.opened }

abbrev pub ghosts-serve_opened-N-ProgramNaming : goal.ghosts-serve_opened-N-ProgramNaming
ghosts-serve_opened-N-ProgramNaming g a = record { program = g.program }

abbrev pub ghosts-serve_opened-N-StoreNaming : goal.ghosts-serve_opened-N-StoreNaming
ghosts-serve_opened-N-StoreNaming g a = record { opening = front_found a.opened }

abbrev pub ghosts-serve_opened-N-ServedNaming : goal.ghosts-serve_opened-N-ServedNaming
ghosts-serve_opened-N-ServedNaming g a = record { arities = g.S.StoredSteps.arities (front_steps a.opened); always = a.served.always.now }
