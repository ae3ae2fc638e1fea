use Rattle.std.proofs.Common.{◌≡◌, ◌++◌, ℕ, List}
use Rattle.std.specs.Io.KnownBytes.{Appends}
use Rattle.tmem_desk.proofs.told.write_flushed.Given as goal

-- what is not left of these bytes was written
abbrev pub invariant-loop : goal.invariant-loop
invariant-loop g l = (done : List ℕ) × (l.fn.bytes ≡ done ++ l.rest) × Appends (g.W.Write.contents l.fn.out) (g.W.Write.contents l.out) done
