use Rattle.std.proofs.Common.{◌≡◌, ◌≤◌, length, vec_capacity}
use Rattle.tmem_record.specs.StandsAt.{StandsAt, values_bytes}
use Rattle.tmem_image.specs.Spelling.{AreValues}
use Rattle.tmem_image.proofs.reading.read_values.Given as goal

abbrev pub invariant-loop-k : goal.invariant-loop-k
invariant-loop-k l = record {
  count : length l.values.items ≡ l.k;
  room : l.count ≤ vec_capacity l.values;
  fits : AreValues l.values.items;
  values : StandsAt l.from (values_bytes l.values.items) l.bytes;
}
