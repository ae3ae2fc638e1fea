use Rattle.std.proofs.Common.{◌≡◌, ◌+◌, ap, length, sum_by, arith}
use Rattle.tmem_record.specs.Spelling.{names_bytes}
use Rattle.tmem_record.proofs.CodecWrites.{record_is, length-names}
use Rattle.tmem_record.proofs.codec.put_record.Goals as goal

pub write_names-at-requires-clause-room : goal.write_names-at-requires-clause-room
write_names-at-requires-clause-room c =
    let names : length (names_bytes c.as_slice.result.now) ≡ 1 + sum_by (λ n. 1 + length n) c.args.effect.now.names = rw c.as_slice.ensures.names (length-names c.args.effect.now.names) in
    omega (arith, c.requires, ap length c.as_slice-writes.ensures.writes, c.put-at.ensures.next, c.put_writes-at.ensures.next, names, c.put-at.auto.into, c.put_writes-at.auto.into)

pub write_names-requires-clause-room : goal.write_names-requires-clause-room
write_names-requires-clause-room c =
    let names : length (names_bytes c.as_slice.result.now) ≡ 1 + sum_by (λ n. 1 + length n) c.args.effect.now.names = rw c.as_slice.ensures.names (length-names c.args.effect.now.names) in
    let retired : length (names_bytes c.as_slice-2.result.now) ≡ 1 + sum_by (λ n. 1 + length n) c.args.effect.now.retired = rw c.as_slice-2.ensures.names (length-names c.args.effect.now.retired) in
    omega (arith, c.requires, ap length c.as_slice-writes.ensures.writes, c.put-at.ensures.next, c.put_writes-at.ensures.next, c.write_names-at.ensures.next, names, retired, c.put-at.auto.into, c.put_writes-at.auto.into, c.write_names-at.auto.into)

pub returns-clause-next : goal.returns-clause-next
returns-clause-next c =
    let names : length (names_bytes c.as_slice.result.now) ≡ 1 + sum_by (λ n. 1 + length n) c.args.effect.now.names = rw c.as_slice.ensures.names (length-names c.args.effect.now.names) in
    let retired : length (names_bytes c.as_slice-2.result.now) ≡ 1 + sum_by (λ n. 1 + length n) c.args.effect.now.retired = rw c.as_slice-2.ensures.names (length-names c.args.effect.now.retired) in
    omega (arith, ap length c.as_slice-writes.ensures.writes, c.put-at.ensures.next, c.put_writes-at.ensures.next, c.write_names-at.ensures.next, c.write_names.ensures.next, names, retired)

pub returns-clause-front : goal.returns-clause-front
returns-clause-front c =
    let writes = rw c.as_slice-writes.ensures.writes at c.put_writes-at.ensures.front in
    let names = rw c.as_slice.ensures.names at c.write_names-at.ensures.front in
    let retired = rw c.as_slice-2.ensures.names at c.write_names.ensures.front in
    record_is c.args.effect.now _ _ _ _ _ _ c.put-at.ensures.front writes names retired (ap length c.as_slice-writes.ensures.writes)
