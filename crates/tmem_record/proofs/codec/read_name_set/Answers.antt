use Rattle.std.proofs.Common.{rules, ◌≡◌, ◌<◌, ◌+◌, ◌++◌, ◌∷◌, [], true, length, arith}
use Rattle.std.specs.Prelude.{All, IsTrue, ◌↔◌}
use Rattle.tmem_effect.specs.Names.{is_before}
use Rattle.tmem_record.proofs.CodecReads.{or_none, no_bytes, too_many, none_more, all_found}
use Rattle.tmem_record.proofs.NameSetReads.{ReadNameSet, registered, none_read, name_more, not_above}
use Rattle.tmem_record.proofs.codec.read_name_set.Goals as goal

pub returns-in_err-total-clause-none : goal.returns-in_err-total-clause-none
returns-in_err-total-clause-none c = or_none _ (no_bytes registered c.args.bytes.now c.in_err-total.ensures.none)

pub returns-then-total-gt-MAX_NAMES-clause-none : goal.returns-then-total-gt-MAX_NAMES-clause-none
returns-then-total-gt-MAX_NAMES-clause-none c = too_many registered c.in_ok-total.total c.args.bytes.now c.in_ok-total.behind.now c.in_ok-total.ensures.found (omega arith)

pub loop-init : goal.loop-init
loop-init c = none_read c.args.names.now c.in_ok-total.behind.now c.requires

pub returns-in_default-clause-none : goal.returns-in_default-clause-none
returns-in_default-clause-none c =
    none_more registered c.in_ok-total.total c.args.bytes.now c.in_ok-total.behind.now c.in_ok-total.ensures.found c.loop.counter c.loop.names _ c.loop.invariant c.loop-test.true c.in_default.ensures.none

pub returns-then-not-push-clause-none : goal.returns-then-not-push-clause-none
returns-then-not-push-clause-none c =
    let fits : IsTrue c.push.result ↔ ((length c.loop.names < 64) × All (λ n. is_before n c.in-Some.name ≡ true) c.loop.names) = search rules in
    not_above c.in_ok-total.total c.args.bytes.now c.in_ok-total.behind.now c.in_ok-total.ensures.found c.loop.counter c.loop.names _ c.loop.invariant c.loop-test.true c.in-Some.name _ c.in-Some.ensures.is_name c.in-Some.ensures.found c.push.result fits c.if-not-push.true

pub loop-preserved : goal.loop-preserved
loop-preserved c =
    let fits : IsTrue c.push.result ↔ ((length c.loop.names < 64) × All (λ n. is_before n c.in-Some.name ≡ true) c.loop.names) = search rules in
    let above = fits.0 c.if-not-push.false in
    let pushed : c.push.new.self ≡ c.loop.names ++ c.in-Some.name ∷ [] = search rules in
    let more = name_more c.loop.counter c.loop.names c.in-Some.name c.in_ok-total.behind.now c.loop.rest.now c.in-Some.next.now c.loop.invariant above.1 above.0 c.in-Some.ensures.is_name c.in-Some.ensures.found in
    let done : ReadNameSet (c.loop.counter + 1) c.push.new.self c.in_ok-total.behind.now c.in-Some.next.now = rw pushed more in
    search (rules, done)

pub returns-clause-are_registered : goal.returns-clause-are_registered
returns-clause-are_registered c = c.loop.invariant.valid

pub returns-clause-found : goal.returns-clause-found
returns-clause-found c = all_found registered c.in_ok-total.total c.args.bytes.now c.in_ok-total.behind.now c.in_ok-total.ensures.found c.loop.counter c.loop.names _ c.loop.invariant (omega arith)
