use Rattle.std.proofs.Common.{arith}
use Rattle.tmem_record.proofs.CodecWrites.{batch_is}
use Rattle.tmem_record.proofs.codec.encode_batch.Goals as goal

pub returns-clause-bytes : goal.returns-clause-bytes
returns-clause-bytes c =
    let records = rw c.effects-effects.ensures.effects at c.put_records.ensures.front in
    let count = rw c.effects-effects.ensures.effects at c.to_le_bytes-3.ensures in
    batch_is c.args.generation c.args.first c.args.batch.now _ _ _ _ _ _ _ c.put-at.ensures.front c.put-at-2.ensures.front c.put-at-3.ensures.front records c.to_le_bytes.ensures c.to_le_bytes-2.ensures count

pub returns-clause-spells : goal.returns-clause-spells
returns-clause-spells c = λ vars within. record {
  generation_fits = omega (arith, c.ranges.generation);
  first_fits = omega (arith, c.ranges.first);
  batch = c.effects-effects.ensures.is_batch vars c.requires.some within;
  spelled = returns-clause-bytes c;
}
