use Rattle.std.proofs.Common.{◌≡◌, map, take, All}
use Rattle.serde_json.specs.View.{view}
use Rattle.tmem_forms.specs.TxForms.{tx_form, TxInRange}
use Rattle.tmem_forms.proofs.tx.+tx.Given as goal

abbrev pub invariant-seq_of-loop-item : goal.invariant-seq_of-loop-item
invariant-seq_of-loop-item l = record {
  read : map tx_form l.row.items ≡ map view (take l.item-index l.item-items);
  in_range : All TxInRange l.row.items;
}
