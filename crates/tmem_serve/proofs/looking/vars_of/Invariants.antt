use Rattle.std.proofs.Common.{◌≡◌, take}
use Rattle.std.specs.Map.{keys_of}
use Rattle.tmem_serve.proofs.looking.vars_of.Given as goal

-- the variables so far
abbrev pub invariant-loop-read : goal.invariant-loop-read
invariant-loop-read l = l.vars.items ≡ keys_of (take l.read-index l.reads)
