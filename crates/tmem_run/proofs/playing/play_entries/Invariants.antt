use Rattle.std.proofs.Common.{◌≡◌, ◌++◌}
use Rattle.std.specs.Io.KnownBytes.{Appends}
use Rattle.tmem_world.specs.Represents.{KeepsSetting, WritesInStore, numbers_of, world_view}
use Rattle.tmem_run.specs.Chains.{PlaysEntriesOn}
use Rattle.tmem_run.specs.Printed.{PlaysEntries}
use Rattle.tmem_run.proofs.playing.play_entries.Given as goal

abbrev pub invariant-loop-entry : goal.invariant-loop-entry
invariant-loop-entry g l = record {
  kept : KeepsSetting l.fn.world l.world;
  parts : l.yielded ++ l.entry-iterator.rest.items ≡ l.fn.entries.items;
  elsewhere : WritesInStore (numbers_of l.fn.world) (world_view l.fn.world) (world_view l.world);
  chain : PlaysEntriesOn l.fn.world l.yielded l.world (Appends (g.W.Write.contents l.fn.out) (g.W.Write.contents l.out));
  played : PlaysEntries l.fn.world (g.W.Write.contents l.fn.out) l.yielded l.world (g.W.Write.contents l.out);
}
