use Rattle.std.proofs.Common.{◌≡◌, map, take, All}
use Rattle.serde_json.specs.View.{view}
use Rattle.tmem_requests.proofs.items.list_of.Given as goal

abbrev pub invariant-loop-item : goal.invariant-loop-item
invariant-loop-item g l = record {
  read : map g.T.Item.form l.items.items ≡ map view (take l.item-index l.item-items);
  in_range : All g.T.Item.fits l.items.items;
}
