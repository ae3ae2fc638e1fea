use Rattle.std.proofs.Common.{◌≡◌, ◌+◌, ◌++◌, take, flat_map}
use Rattle.tmem_state.specs.Batch.{records_length}
use Rattle.tmem_record.specs.Spelling.{record_bytes}
use Rattle.tmem_state.specs.declared.version.Version.TheVariants.{Two}
use Rattle.tmem_record.proofs.codec.put_records.Given as goal

abbrev pub invariant-loop-effect : goal.invariant-loop-effect
invariant-loop-effect l = record {
  at : l.at ≡ l.start + records_length (take l.effect-index l.effects);
  front : take l.at l.into ≡ take l.start l.fn.into ++ flat_map (record_bytes Two) (take l.effect-index l.effects);
}
