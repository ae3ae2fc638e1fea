use Rattle.std.proofs.Common.{◌≤◌, ◌+◌, ◌^◌, ℕ, ℤ, List, sym, ◌∙◌, ap, subst, arith}
use Rattle.std.specs.Int.{w64}
use Rattle.std.proofs.lemmas.Int.{to_z-of_z}
use Rattle.tmem_effect.specs.Writes.{with_write}
use Rattle.tmem_record.specs.Spelling.{write_bytes}
use Rattle.tmem_record.proofs.SpellingLaws.{IsWriteWithin, AreWritesWithin}
use Rattle.tmem_record.proofs.CodecReads.{of_writes, ReadWrites, or_none, written, no_bytes, too_many, read_none, no_writes, none_more, written_twice, write_more, all_found}
use Rattle.tmem_record.proofs.codec.writes_of.Goals as goal

pub returns-in_err-count-clause-none : goal.returns-in_err-count-clause-none
returns-in_err-count-clause-none c =
    let few : c.args.vars ≤ 2 ^ 16 = omega (arith, c.ranges.vars) in
    or_none _ (of_writes c.args.vars c.args.bytes.now (no_bytes (written c.args.vars few) c.args.bytes.now c.in_err-count.ensures.none))

pub returns-then-count-gt-MAX_WRITES-clause-none : goal.returns-then-count-gt-MAX_WRITES-clause-none
returns-then-count-gt-MAX_WRITES-clause-none c =
    let few : c.args.vars ≤ 2 ^ 16 = omega (arith, c.ranges.vars) in
    of_writes c.args.vars c.args.bytes.now (too_many (written c.args.vars few) c.in_ok-count.count c.args.bytes.now c.in_ok-count.behind.now c.in_ok-count.ensures.found (omega arith))

pub loop-init : goal.loop-init
loop-init c =
    subst (λ (ws : List (ℕ × ℤ)). ReadWrites c.args.vars 0 ws c.in_ok-count.behind.now c.in_ok-count.behind.now) (sym c.requires) (read_none (AreWritesWithin c.args.vars) write_bytes c.in_ok-count.behind.now (no_writes c.args.vars))

pub returns-in_err-write-clause-none : goal.returns-in_err-write-clause-none
returns-in_err-write-clause-none c =
    let few : c.args.vars ≤ 2 ^ 16 = omega (arith, c.ranges.vars) in
    or_none _ (of_writes c.args.vars c.args.bytes.now (none_more (written c.args.vars few) c.in_ok-count.count c.args.bytes.now c.in_ok-count.behind.now c.in_ok-count.ensures.found c.loop.counter c.loop.writes c.loop.rest.now c.loop.invariant c.loop-test.true (λ w rest is. c.in_err-write.ensures.none w rest is.within is.fits)))

pub returns-then-has-clause-none : goal.returns-then-has-clause-none
returns-then-has-clause-none c =
    let few : c.args.vars ≤ 2 ^ 16 = omega (arith, c.ranges.vars) in
    let is : IsWriteWithin c.args.vars c.in_ok-write.write = record { within = c.in_ok-write.ensures.within; fits = c.in_ok-write.ensures.fits } in
    of_writes c.args.vars c.args.bytes.now (written_twice c.args.vars few c.in_ok-count.count c.args.bytes.now c.in_ok-count.behind.now c.in_ok-count.ensures.found c.loop.counter c.loop.writes c.loop.rest.now c.loop.invariant c.loop-test.true c.in_ok-write.write c.in_ok-write.next.now is c.in_ok-write.ensures.found
    (sym c.has.ensures ∙ c.if-has.true))

pub put-requires : goal.put-requires
put-requires c = λ new. omega (arith, c.loop.invariant.counted)

pub loop-preserved : goal.loop-preserved
loop-preserved c =
    let is : IsWriteWithin c.args.vars c.in_ok-write.write = record { within = c.in_ok-write.ensures.within; fits = c.in_ok-write.ensures.fits } in
    let put = c.put.ensures ∙ ap (with_write c.loop.writes c.in_ok-write.write.0) (to_z-of_z w64 c.in_ok-write.write.1 is.fits) in
    subst (λ (ws : List (ℕ × ℤ)). ReadWrites c.args.vars (c.loop.counter + 1) ws c.in_ok-count.behind.now c.in_ok-write.next.now) (sym put)
    (write_more c.args.vars c.loop.counter c.loop.writes c.in_ok-write.write c.in_ok-count.behind.now c.loop.rest.now c.in_ok-write.next.now c.loop.invariant (omega arith) is (sym c.if-has.ensures) c.in_ok-write.ensures.found)

pub returns-clause-are_writes : goal.returns-clause-are_writes
returns-clause-are_writes c = c.loop.invariant.valid.are_writes

pub returns-clause-within : goal.returns-clause-within
returns-clause-within c = c.loop.invariant.valid.within

pub returns-clause-found : goal.returns-clause-found
returns-clause-found c =
    let few : c.args.vars ≤ 2 ^ 16 = omega (arith, c.ranges.vars) in
    all_found (written c.args.vars few) c.in_ok-count.count c.args.bytes.now c.in_ok-count.behind.now c.in_ok-count.ensures.found c.loop.counter c.loop.writes c.loop.rest.now c.loop.invariant (omega arith)
