use Rattle.std.proofs.Common.{◌≡◌, ◌*◌, take, drop, flat_map}
use Rattle.tmem_record.specs.Spelling.{value_bytes}
use Rattle.tmem_image.specs.Spelling.{AreValues}
use Rattle.tmem_image.proofs.spelling.put_values.Given as goal

abbrev pub invariant-loop-value : goal.invariant-loop-value
invariant-loop-value l = record {
  at : l.at ≡ 8 * l.value-index;
  front : take l.at l.into ≡ flat_map value_bytes (take l.value-index l.values);
  rest : drop l.at l.into ≡ drop l.at l.fn.into;
  numbers : AreValues (take l.value-index l.values);
}
