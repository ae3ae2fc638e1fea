use Rattle.std.proofs.Common.{◌≡◌, List, ℕ, length}
use Rattle.tmem_redolog.specs.Log.{IsWithin}
use Rattle.tmem_redolog.specs.Scans.{IsLogOf, Reached}
use Rattle.tmem_redolog.proofs.scanning.replay.Given as goal

abbrev pub invariant-loop-k : goal.invariant-loop-k
invariant-loop-k l = record {
  sized : length l.state.values ≡ l.layout.vars;
  within : IsWithin l.state;
  reached : (c : List ℕ) → IsLogOf l.layout.vars l.layout.slots l.log c → Reached l.version l.layout.vars l.layout.slots l.generation l.fn.state l.k l.state c;
}
