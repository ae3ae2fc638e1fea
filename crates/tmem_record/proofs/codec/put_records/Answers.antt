use Rattle.std.proofs.Common.{ap, arith}
use Rattle.std.proofs.lemmas.List.Sums.{sum_by_more}
use Rattle.tmem_state.specs.Batch.{record_length}
use Rattle.tmem_record.specs.Spelling.{record_bytes}
use Rattle.tmem_state.specs.declared.version.Version.TheVariants.{Two}
use Rattle.tmem_record.proofs.CodecWrites.{part_more}
use Rattle.tmem_record.proofs.codec.put_records.Goals as goal

pub loop-effect-preserved : goal.loop-effect-preserved
loop-effect-preserved c =
    let more = sum_by_more record_length c.args.effects.now c.loop-effect.effect-index c.effect-item.result c.loop-effect-test.true in
    record {
      at = omega (arith, more, ap record_length c.effect-item.is, c.put_record-at.ensures.next, c.loop-effect.invariant.at);
      front = part_more (record_bytes Two) c.args.effects.now c.loop-effect.effect-index c.effect-item.result c.loop-effect-test.true _ _ _ _ c.loop-effect.invariant.front c.put_record-at.ensures.front (ap (record_bytes Two) c.effect-item.is);
    }
