use Rattle.std.proofs.Common.{◌≡◌, map, take, All}
use Rattle.serde_json.specs.View.{view}
use Rattle.tmem_script.specs.Scripts.{entry_form, EntryInRange}
use Rattle.tmem_script.proofs.entry.entries_of.Given as goal

abbrev pub invariant-loop-item : goal.invariant-loop-item
invariant-loop-item l = record {
  read : map entry_form l.entries.items ≡ map view (take l.item-index l.item-items);
  in_range : All EntryInRange l.entries.items;
}
