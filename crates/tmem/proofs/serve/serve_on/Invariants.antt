use Rattle.tmem.specs.Shaped.{program_of}
use Rattle.tmem.proofs.serve.serve_on.Given as goal

-- what the invariants of the shape bring to the store
abbrev pub ghost-serve_store : goal.ghost-serve_store
ghost-serve_store g a = program_of a.table.entries.items
