use Rattle.std.proofs.Common.{◌≡◌, ◌≤◌, ◌-◌, ◌++◌, length, max, replicate, vec_len}
use Rattle.tmem_tentative.specs.Stages.{no_save}
use Rattle.tmem_tentative.proofs.cursor.make_room.Given as goal

abbrev pub decreases-loop-saves : goal.decreases-loop-saves
decreases-loop-saves l = l.many - vec_len l.saves

abbrev pub invariant-loop-saves : goal.invariant-loop-saves
invariant-loop-saves l = record {
  added : l.saves.items ≡ l.fn.saves.items ++ replicate (length l.saves.items - l.had) no_save;
  more : l.had ≤ length l.saves.items;
  no_more : length l.saves.items ≤ max l.had l.many;
}
