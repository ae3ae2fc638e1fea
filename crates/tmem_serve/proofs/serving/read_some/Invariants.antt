use Rattle.std.specs.Prelude.{◌≤◌, length}
use Rattle.std.specs.Io.KnownBytes.{Keeps}
use Rattle.tmem_serve.proofs.serving.read_some.Given as goal

-- nothing was read yet
abbrev pub invariant-loop : goal.invariant-loop
invariant-loop g l = record {
  kept : Keeps (g.I.Read.remaining l.fn.input) (g.I.Read.remaining l.input);
  room : 1 ≤ length l.piece;
}
