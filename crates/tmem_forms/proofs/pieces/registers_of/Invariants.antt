use Rattle.std.proofs.Common.{◌≡◌, map, take, All}
use Rattle.serde_json.specs.View.{view}
use Rattle.tmem_forms.specs.TxForms.{IsByte, natural}
use Rattle.tmem_forms.proofs.pieces.registers_of.Given as goal

abbrev pub invariant-loop-item : goal.invariant-loop-item
invariant-loop-item l = record {
  read : map natural l.registers.items ≡ map view (take l.item-index l.item-items);
  in_range : All IsByte l.registers.items;
}
