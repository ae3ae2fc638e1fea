use Rattle.std.proofs.Common.{◌≡◌, ◌+◌, ◌*◌, ◌++◌, take, flat_map}
use Rattle.tmem_record.specs.Spelling.{write_bytes}
use Rattle.tmem_record.proofs.codec.put_writes.Given as goal

abbrev pub invariant-loop-write : goal.invariant-loop-write
invariant-loop-write l = record {
  at : l.at ≡ l.start + 10 * l.write-index;
  front : take l.at l.into ≡ take l.start l.fn.into ++ flat_map write_bytes (take l.write-index l.writes);
}
