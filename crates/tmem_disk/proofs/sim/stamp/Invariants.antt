use Rattle.std.proofs.Common.{◌≡◌, length, take}
use Rattle.tmem_disk.specs.Sim.{stamped}
use Rattle.tmem_disk.proofs.sim.stamp.Given as goal

abbrev pub invariant-loop-i : goal.invariant-loop-i
invariant-loop-i l = record {
  long : length l.unsynced ≡ length l.present.items;
  so_far : l.present.items ≡ stamped l.byte l.initial.present.items (take l.i l.unsynced);
}
