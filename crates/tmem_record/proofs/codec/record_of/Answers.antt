use Rattle.std.proofs.Common.{◌≡◌, ◌≤◌, ◌^◌, sym, ◌∙◌, ap, subst, true, arith}
use Rattle.std.proofs.lemmas.Bool.{false≢true}
use Rattle.tmem_effect.specs.State.{AreApart, is_empty}
use Rattle.tmem_effect.specs.declared.effect.Effect.{Effect}
use Rattle.tmem_record.proofs.CodecReads.{or_none, no_writes_there, no_names_there, none_retired_there, one_record, record_found}
use Rattle.tmem_record.proofs.codec.record_of.Goals as goal

pub returns-in_err-behind-clause-none : goal.returns-in_err-behind-clause-none
returns-in_err-behind-clause-none c =
    let few : c.args.vars ≤ 2 ^ 16 = omega (arith, c.ranges.vars) in
    or_none _ (no_writes_there c.args.version c.args.vars few c.args.bytes.now c.in_err-behind.ensures.none)

pub returns-in_err-behind-2-clause-none : goal.returns-in_err-behind-2-clause-none
returns-in_err-behind-2-clause-none c =
    let few : c.args.vars ≤ 2 ^ 16 = omega (arith, c.ranges.vars) in
    or_none _ (no_names_there c.args.version c.args.vars few c.args.bytes.now c.writes_of.new.writes c.in_ok-behind.behind.now (record { are_writes = c.in_ok-behind.ensures.are_writes; within = c.in_ok-behind.ensures.within }) c.in_ok-behind.ensures.found c.in_err-behind-2.ensures.none)

pub returns-in_err-rest-clause-none : goal.returns-in_err-rest-clause-none
returns-in_err-rest-clause-none c =
    let few : c.args.vars ≤ 2 ^ 16 = omega (arith, c.ranges.vars) in
    or_none _ (none_retired_there c.args.version c.args.vars few c.args.bytes.now c.writes_of.new.writes c.in_ok-behind.behind.now (record { are_writes = c.in_ok-behind.ensures.are_writes; within = c.in_ok-behind.ensures.within }) c.in_ok-behind.ensures.found c.names_of.new.names c.in_ok-behind-2.behind.now c.in_ok-behind-2.ensures.are_checks c.in_ok-behind-2.ensures.found c.in_err-rest.ensures.none)

pub returns-then-is_empty-clause-none : goal.returns-then-is_empty-clause-none
returns-then-is_empty-clause-none c e rest is same =
    let few : c.args.vars ≤ 2 ^ 16 = omega (arith, c.ranges.vars) in
    let one = one_record c.args.version c.args.vars few c.args.bytes.now c.writes_of.new.writes c.in_ok-behind.behind.now (record { are_writes = c.in_ok-behind.ensures.are_writes; within = c.in_ok-behind.ensures.within }) c.in_ok-behind.ensures.found c.names_of.new.names c.in_ok-behind-2.behind.now c.in_ok-behind-2.ensures.are_checks c.in_ok-behind-2.ensures.found c.retired_of.new.names c.in_ok-rest.rest.now (record { are_checks = c.in_ok-rest.ensures.are_checks; may_retire = c.in_ok-rest.ensures.may_retire }) c.in_ok-rest.ensures.found e rest is same in
    let empty : is_empty e ≡ true = ap is_empty one ∙ sym c.is_empty.ensures.empty ∙ c.if-is_empty.true in
    false≢true (sym is.loggable.not_empty ∙ empty)

pub returns-then-not-are_apart-clause-none : goal.returns-then-not-are_apart-clause-none
returns-then-not-are_apart-clause-none c e rest is same =
    let few : c.args.vars ≤ 2 ^ 16 = omega (arith, c.ranges.vars) in
    let one = one_record c.args.version c.args.vars few c.args.bytes.now c.writes_of.new.writes c.in_ok-behind.behind.now (record { are_writes = c.in_ok-behind.ensures.are_writes; within = c.in_ok-behind.ensures.within }) c.in_ok-behind.ensures.found c.names_of.new.names c.in_ok-behind-2.behind.now c.in_ok-behind-2.ensures.are_checks c.in_ok-behind-2.ensures.found c.retired_of.new.names c.in_ok-rest.rest.now (record { are_checks = c.in_ok-rest.ensures.are_checks; may_retire = c.in_ok-rest.ensures.may_retire }) c.in_ok-rest.ensures.found e rest is same in
    let apart = subst (λ (d : Effect). AreApart d.names d.retired) one is.loggable.effect.apart in
    false≢true (sym c.if-not-are_apart.true ∙ c.are_apart.ensures.1 (rw (c.as_slice.ensures.names, c.as_slice-2.ensures.names) apart))

pub returns-clause-found : goal.returns-clause-found
returns-clause-found c =
    let few : c.args.vars ≤ 2 ^ 16 = omega (arith, c.ranges.vars) in
    record_found c.args.version c.args.vars few c.args.bytes.now (record { writes = c.writes_of.new.writes; names = c.names_of.new.names; retired = c.retired_of.new.names }) c.in_ok-behind.behind.now c.in_ok-behind-2.behind.now c.in_ok-rest.rest.now c.in_ok-behind.ensures.found c.in_ok-behind-2.ensures.found c.in_ok-rest.ensures.found
