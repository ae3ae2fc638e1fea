use Rattle.std.proofs.Common.{ℤ, ◌∙◌, ap, length, arith, get_or, pos, rules, w64, FitsSigned}
use Rattle.std.proofs.lemmas.Int.{to_z-of_z}
use Rattle.std.specs.Int.{cast_unsigned}
use Rattle.byteorder.specs.Endian.{little_bytes}
use Rattle.tmem_record.proofs.CodecWrites.{write_put}
use Rattle.tmem_record.proofs.codec.put_writes.Goals as goal

pub loop-write-preserved : goal.loop-write-preserved
loop-write-preserved c =
    let fits : FitsSigned w64 (get_or c.args.writes.now c.loop-write.write-index (0, pos 0)).1 = search rules in
    let same = ap (λ (z : ℤ). little_bytes 8 (cast_unsigned w64 z)) (to_z-of_z w64 _ fits) in
    record {
      at = omega (arith, ap length c.to_le_bytes.ensures, ap length c.to_le_bytes-in-loop-write.ensures);
      front = write_put c.args.writes.now c.loop-write.write-index (omega arith) _ _ _ _ _ _ c.loop-write.invariant.front c.put-at.ensures.front c.put-at-in-loop-write.ensures.front c.to_le_bytes.ensures (c.to_le_bytes-in-loop-write.ensures ∙ same);
    }
