use Rattle.tmem_caller.specs.Serving.{solvent}
use Rattle.tmem_caller.proofs.serving.store.serve_row.Given as goal

-- what the store is made with
abbrev pub ghost-serve_store : goal.ghost-serve_store
ghost-serve_store g a = solvent
