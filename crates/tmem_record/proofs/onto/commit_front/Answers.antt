use Rattle.std.proofs.Common.{◌≤◌, ◌<◌, ◌+◌, ◌^◌, sym, ◌∙◌, length, arith}
use Rattle.tmem_record.proofs.CodecReads.{or_none, no_room_for_head, no_such_count, split_batch, batch_found, too_long, records_read}
use Rattle.tmem_record.proofs.ReadOnto.{no_records_onto}
use Rattle.tmem_record.proofs.onto.commit_front.Goals as goal
use Rattle.tmem_record.proofs.onto.commit_front.Goals.{then-count-eq0-via-then-count-eq0, then-count-eq0-via-else-count-eq0+then-count-gt-MAX_RECORDS}

pub returns-then-bytes-lt-HEAD_BYTES-clause-none : goal.returns-then-bytes-lt-HEAD_BYTES-clause-none
returns-then-bytes-lt-HEAD_BYTES-clause-none c = λ generation first es rest fits_generation fits_first is same within. no_room_for_head c.args.version c.args.bytes.now generation first es rest (omega arith) same

pub returns-then-count-eq0-clause-none : goal.returns-then-count-eq0-clause-none
returns-then-count-eq0-clause-none c = λ generation first es rest fits_generation fits_first is same within.
    no_such_count c.args.version c.args.vars c.number_of-generation.result.0 c.number_of-first.result.0 c.short_of-count.result.0 c.args.bytes.now c.number_of-generation.result.1.now c.number_of-first.result.1.now c.short_of-count.result.1.now (omega arith) (omega arith) (omega arith) c.number_of-generation.ensures.parts c.number_of-first.ensures.parts c.short_of-count.ensures.parts (λ some few. elim c.then-count-eq0.branch [
      | then-count-eq0-via-then-count-eq0 w ↦ absurd (omega (arith, w.if-count-eq0))
      | then-count-eq0-via-else-count-eq0+then-count-gt-MAX_RECORDS w ↦ absurd (omega (arith, w.if-count-gt-MAX_RECORDS))
    ]) generation first es rest fits_generation fits_first is same

pub returns-in_err-rest-clause-none : goal.returns-in_err-rest-clause-none
returns-in_err-rest-clause-none c =
    or_none _ (no_records_onto c.args.version c.args.vars c.number_of-generation.result.0 c.number_of-first.result.0 c.short_of-count.result.0 c.args.bytes.now c.number_of-generation.result.1.now c.number_of-first.result.1.now c.short_of-count.result.1.now (omega arith) (omega arith) (omega arith) c.number_of-generation.ensures.parts c.number_of-first.ensures.parts c.short_of-count.ensures.parts c.args.state.now c.in_err-rest.ensures.none)

pub returns-then-behind-rest-gt-BATCH_BYTES-clause-none : goal.returns-then-behind-rest-gt-BATCH_BYTES-clause-none
returns-then-behind-rest-gt-BATCH_BYTES-clause-none c = λ generation first es rest fits_generation fits_first is same within.
    let few : c.args.vars ≤ 2 ^ 16 = omega (arith, c.ranges.vars) in
    let had = c.in_ok-rest.ensures.found in
    let long : 4077 + length c.in_ok-rest.rest.now < length c.short_of-count.result.1.now = omega (arith, c.if-behind-rest-gt-BATCH_BYTES.true) in
    let split = split_batch c.args.version c.args.vars c.number_of-generation.result.0 c.number_of-first.result.0 c.short_of-count.result.0 c.args.bytes.now c.number_of-generation.result.1.now c.number_of-first.result.1.now c.short_of-count.result.1.now (omega arith) (omega arith) (omega arith) c.number_of-generation.ensures.parts c.number_of-first.ensures.parts c.short_of-count.ensures.parts generation first es rest fits_generation fits_first is same in
    too_long c.args.version c.args.vars few had.es c.short_of-count.result.1.now c.in_ok-rest.rest.now had.each had.found long es rest (sym split.0 ∙ sym had.counted) is split.1

pub returns-clause-found : goal.returns-clause-found
returns-clause-found c =
    let had = c.in_ok-rest.ensures.found in
    let read = records_read c.args.version had.es c.short_of-count.result.1.now c.in_ok-rest.rest.now had.found in
    record {
      es = had.es;
      batch = record {
        some = omega (arith, had.counted, c.if-count-eq0.false);
        few = omega (arith, had.counted, c.if-count-gt-MAX_RECORDS.false);
        each = had.each;
        fits = omega (arith, read, c.if-behind-rest-gt-BATCH_BYTES.false);
      };
      found = batch_found c.args.version c.args.vars c.number_of-generation.result.0 c.number_of-first.result.0 c.short_of-count.result.0 c.args.bytes.now c.number_of-generation.result.1.now c.number_of-first.result.1.now c.short_of-count.result.1.now (omega arith) (omega arith) (omega arith) c.number_of-generation.ensures.parts c.number_of-first.ensures.parts c.short_of-count.ensures.parts had.es c.in_ok-rest.rest.now had.counted had.found;
      within = had.within;
      state = had.state;
    }
