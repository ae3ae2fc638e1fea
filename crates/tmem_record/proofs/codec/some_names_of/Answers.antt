use Rattle.std.proofs.Common.{rules, ◌≡◌, ◌+◌, true, false, arith}
use Rattle.tmem_effect.specs.Names.{has_name, with_name}
use Rattle.tmem_record.proofs.CodecReads.{ReadNames, or_none, checks, no_bytes, too_many, none_more, checked_twice, name_more, all_found}
use Rattle.tmem_record.proofs.codec.some_names_of.Goals as goal

pub returns-in_err-count-clause-none : goal.returns-in_err-count-clause-none
returns-in_err-count-clause-none c = or_none _ (no_bytes checks c.args.bytes.now c.in_err-count.ensures.none)

pub returns-then-count-gt-MAX_CHECKS-clause-none : goal.returns-then-count-gt-MAX_CHECKS-clause-none
returns-then-count-gt-MAX_CHECKS-clause-none c = too_many checks c.in_ok-count.count c.args.bytes.now c.in_ok-count.behind.now c.in_ok-count.ensures.found (omega arith)

pub returns-in_default-clause-none : goal.returns-in_default-clause-none
returns-in_default-clause-none c =
    none_more checks c.in_ok-count.count c.args.bytes.now c.in_ok-count.behind.now c.in_ok-count.ensures.found c.loop.counter c.loop.names _ c.loop.invariant c.loop-test.true c.in_default.ensures.none

pub returns-then-has-clause-none : goal.returns-then-has-clause-none
returns-then-has-clause-none c =
    let there : has_name c.loop.names c.in-Some.name ≡ true = search rules in
    checked_twice c.in_ok-count.count c.args.bytes.now c.in_ok-count.behind.now c.in_ok-count.ensures.found c.loop.counter c.loop.names _ c.loop.invariant c.loop-test.true c.in-Some.name _ c.in-Some.ensures.is_name c.in-Some.ensures.found there

pub loop-preserved : goal.loop-preserved
loop-preserved c =
    let new : has_name c.loop.names c.in-Some.name ≡ false = search rules in
    let put : c.put.new.self ≡ with_name c.loop.names c.in-Some.name = search rules in
    let more = name_more c.loop.counter c.loop.names c.in-Some.name c.in_ok-count.behind.now _ c.in-Some.next.now c.loop.invariant (omega arith) c.in-Some.ensures.is_name new c.in-Some.ensures.found in
    let done : ReadNames (c.loop.counter + 1) c.put.new.self c.in_ok-count.behind.now c.in-Some.next.now = rw put more in
    search (rules, done)

pub returns-clause-found : goal.returns-clause-found
returns-clause-found c = all_found checks c.in_ok-count.count c.args.bytes.now c.in_ok-count.behind.now c.in_ok-count.ensures.found c.loop.counter c.loop.names _ c.loop.invariant (omega arith)
