use Rattle.std.proofs.Common.{◌≤◌, ◌<◌, ◌+◌, ◌^◌, sym, ◌∙◌, length, arith}
use Rattle.tmem_record.proofs.CodecReads.{or_none, no_room_for_head, no_such_count, no_records_there, batch_found, too_long, records_read}
use Rattle.tmem_record.proofs.codec.batch_of.Goals as goal
use Rattle.tmem_record.proofs.codec.batch_of.Goals.{then-count-eq0-via-then-count-eq0, then-count-eq0-via-else-count-eq0+then-count-gt-MAX_RECORDS}

pub returns-then-bytes-lt-HEAD_BYTES-clause-none : goal.returns-then-bytes-lt-HEAD_BYTES-clause-none
returns-then-bytes-lt-HEAD_BYTES-clause-none c = λ generation first es rest fits_generation fits_first is same. no_room_for_head c.args.version c.args.bytes.now generation first es rest (omega arith) same

pub returns-then-count-eq0-clause-none : goal.returns-then-count-eq0-clause-none
returns-then-count-eq0-clause-none c =
    no_such_count c.args.version c.args.vars c.number_of-generation.result.0 c.number_of-first.result.0 c.short_of-count.result.0 c.args.bytes.now c.number_of-generation.result.1.now c.number_of-first.result.1.now c.short_of-count.result.1.now (omega arith) (omega arith) (omega arith) c.number_of-generation.ensures.parts c.number_of-first.ensures.parts c.short_of-count.ensures.parts (λ some few. elim c.then-count-eq0.branch [
      | then-count-eq0-via-then-count-eq0 w ↦ absurd (omega (arith, w.if-count-eq0))
      | then-count-eq0-via-else-count-eq0+then-count-gt-MAX_RECORDS w ↦ absurd (omega (arith, w.if-count-gt-MAX_RECORDS))
    ])

pub returns-in_err-rest-clause-none : goal.returns-in_err-rest-clause-none
returns-in_err-rest-clause-none c =
    or_none _ (no_records_there c.args.version c.args.vars c.number_of-generation.result.0 c.number_of-first.result.0 c.short_of-count.result.0 c.args.bytes.now c.number_of-generation.result.1.now c.number_of-first.result.1.now c.short_of-count.result.1.now (omega arith) (omega arith) (omega arith) c.number_of-generation.ensures.parts c.number_of-first.ensures.parts c.short_of-count.ensures.parts (λ es t counted is same. c.in_err-rest.ensures.none es t counted is.each same))

pub returns-then-behind-rest-gt-BATCH_BYTES-clause-none : goal.returns-then-behind-rest-gt-BATCH_BYTES-clause-none
returns-then-behind-rest-gt-BATCH_BYTES-clause-none c =
    let few : c.args.vars ≤ 2 ^ 16 = omega (arith, c.ranges.vars) in
    let long : 4077 + length c.in_ok-rest.rest.now < length c.short_of-count.result.1.now = omega (arith, c.if-behind-rest-gt-BATCH_BYTES.true) in
    no_records_there c.args.version c.args.vars c.number_of-generation.result.0 c.number_of-first.result.0 c.short_of-count.result.0 c.args.bytes.now c.number_of-generation.result.1.now c.number_of-first.result.1.now c.short_of-count.result.1.now (omega arith) (omega arith) (omega arith) c.number_of-generation.ensures.parts c.number_of-first.ensures.parts c.short_of-count.ensures.parts
    (λ es t counted is same. too_long c.args.version c.args.vars few c.records_of.new.records c.short_of-count.result.1.now c.in_ok-rest.rest.now c.in_ok-rest.ensures.each c.in_ok-rest.ensures.found long es t (counted ∙ sym c.in_ok-rest.ensures.counted) is same)

pub returns-clause-is_batch : goal.returns-clause-is_batch
returns-clause-is_batch c =
    let read = records_read c.args.version c.records_of.new.records c.short_of-count.result.1.now c.in_ok-rest.rest.now c.in_ok-rest.ensures.found in
    record {
      some = omega (arith, c.in_ok-rest.ensures.counted, c.if-count-eq0.false);
      few = omega (arith, c.in_ok-rest.ensures.counted, c.if-count-gt-MAX_RECORDS.false);
      each = c.in_ok-rest.ensures.each;
      fits = omega (arith, read, c.if-behind-rest-gt-BATCH_BYTES.false);
    }

pub returns-clause-found : goal.returns-clause-found
returns-clause-found c =
    batch_found c.args.version c.args.vars c.number_of-generation.result.0 c.number_of-first.result.0 c.short_of-count.result.0 c.args.bytes.now c.number_of-generation.result.1.now c.number_of-first.result.1.now c.short_of-count.result.1.now (omega arith) (omega arith) (omega arith) c.number_of-generation.ensures.parts c.number_of-first.ensures.parts c.short_of-count.ensures.parts c.records_of.new.records c.in_ok-rest.rest.now c.in_ok-rest.ensures.counted c.in_ok-rest.ensures.found
