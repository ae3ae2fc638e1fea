use Rattle.std.proofs.Common.{◌≡◌, ◌*◌, ◌++◌, drop, replicate}
use Rattle.tmem_disk.specs.Disk.{ReadsAs}
use Rattle.tmem_gate.specs.Calls.{WritesWithin}
use Rattle.tmem_journal.proofs.formatting.erase.Given as goal

abbrev pub invariant-loop-piece : goal.invariant-loop-piece
invariant-loop-piece g l =
    let now = g.D.Disk.view l.disk in
    let before = g.D.Disk.view l.fn.disk in
    record {
      capacity : now.capacity ≡ before.capacity;
      model : now.keeps_model → before.keeps_model;
      failures : now.failures ≡ before.failures;
      zeros : ReadsAs now (replicate (16384 * l.piece) 0 ++ drop (16384 * l.piece) before.seen);
      elsewhere : WritesWithin 0 l.«end» before now;
    }
