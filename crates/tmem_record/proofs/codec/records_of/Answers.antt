use Rattle.std.proofs.Common.{◌≡◌, ◌<◌, ◌≤◌, ◌^◌, ℕ, arith}
use Rattle.tmem_record.proofs.CodecReads.{or_none, record_more, no_record_next}
use Rattle.tmem_record.proofs.codec.records_of.Goals as goal

-- one more is within the limit, as not all were read
one_more : (n i count limit : ℕ) → n ≡ i → i < count → count ≤ limit → n < limit
one_more n i count limit counted more few = omega (arith, counted, more, few)

all_read : (n i count : ℕ) → n ≡ i → i ≤ count → count ≤ i → n ≡ count
all_read n i count counted few end = omega (arith, counted, few, end)

pub returns-in_err-next-clause-none : goal.returns-in_err-next-clause-none
returns-in_err-next-clause-none c =
    let few : c.args.vars ≤ 2 ^ 16 = omega (arith, c.ranges.vars) in
    or_none _ (no_record_next c.args.version c.args.vars c.args.count few c.args.bytes.now c.loop.counter c.loop.records c.loop.rest.now c.loop.invariant c.loop-test.true c.in_err-next.ensures.none)

pub push-requires-clause-room : goal.push-requires-clause-room
push-requires-clause-room c = one_more _ _ _ _ c.loop.invariant.counted c.loop-test.true c.requires.few

pub push-requires-clause-not_empty : goal.push-requires-clause-not_empty
push-requires-clause-not_empty c = c.in_ok-next.ensures.is_record.loggable.not_empty

pub push-requires-clause-apart : goal.push-requires-clause-apart
push-requires-clause-apart c = c.in_ok-next.ensures.is_record.loggable.effect.apart

pub loop-preserved : goal.loop-preserved
loop-preserved c =
    let it = c.in_ok-next.ensures in
    rw c.push.ensures (record_more c.args.version c.args.vars c.loop.counter c.loop.records c.record_of.new.effect c.args.bytes.now c.loop.rest.now c.in_ok-next.next.now c.loop.invariant it.is_record it.found)

pub returns-clause-counted : goal.returns-clause-counted
returns-clause-counted c = all_read _ c.loop.counter _ c.loop.invariant.counted c.loop.auto.counter-end c.loop-test.false

pub returns-clause-each : goal.returns-clause-each
returns-clause-each c = c.loop.invariant.valid

pub returns-clause-found : goal.returns-clause-found
returns-clause-found c = c.loop.invariant.left
