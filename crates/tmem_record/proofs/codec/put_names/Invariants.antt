use Rattle.std.proofs.Common.{◌≡◌, ◌+◌, ◌++◌, length, take, drop, flat_map, sum_by}
use Rattle.tmem_record.specs.Spelling.{name_bytes}
use Rattle.tmem_record.proofs.codec.put_names.Given as goal

abbrev pub invariant-loop-name : goal.invariant-loop-name
invariant-loop-name l = record {
  at : l.at ≡ l.start + sum_by (λ n. 1 + length n) (take l.name-index l.names);
  front : take l.at l.into ≡ take l.start l.fn.into ++ flat_map name_bytes (take l.name-index l.names);
  rest : drop l.at l.into ≡ drop l.at l.fn.into;
}
