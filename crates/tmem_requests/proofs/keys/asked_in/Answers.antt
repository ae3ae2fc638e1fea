use Rattle.std.proofs.Common.{◌≡◌, ◌∙◌, refl, sym, ap, rules}
use Rattle.serde_json.proofs.Views.{Entry}
use Rattle.serde_json.specs.Find.{get_member}
use Rattle.serde_json.specs.View.{members_view}
use Rattle.tmem_fault.specs.Name.{has_name}
use Rattle.tmem_requests.proofs.Members.{aside, skip_step, found_first, none_beside}
use Rattle.tmem_requests.proofs.keys.asked_in.Goals as goal

pub loop-key-init : goal.loop-key-init
loop-key-init c = λ k other. refl

pub loop-key-preserved : goal.loop-key-preserved
loop-key-preserved c =
    skip_step (members_view c.into_iter-key-iterator.result) c.loop-key.key-iterator _ _ c.in-Some.ensures.steps
    (ap (has_name aside) (sym c.as_str.ensures.value) ∙ sym c.is_among.ensures ∙ c.if-not-is_among.false) c.loop-key.invariant

pub returns-then-not-is_among-clause-found : goal.returns-then-not-is_among-clause-found
returns-then-not-is_among-clause-found c =
    let key = c.as_str-then-not-is_among.result.now in
    let e : Entry = (c.in-Some.key.now, c.in-Some.body.now) in
    let all : c.into_iter-key-iterator.result ≡ c.in-Object.members.entries = search rules in
    let other = ap (has_name aside) (c.as_str-then-not-is_among.ensures.value ∙ sym c.as_str.ensures.value) ∙ sym c.is_among.ensures ∙ c.if-not-is_among.true in
    found_first c.args.value.now c.in-Object.members key c.loop-key.key-iterator e _ c.in-Object.is
    (ap (λ es. get_member key (members_view es)) (sym all) ∙ c.loop-key.invariant key other) c.in-Some.ensures.steps c.as_str-then-not-is_among.ensures.value

pub returns-then-not-is_among-clause-beside : goal.returns-then-not-is_among-clause-beside
returns-then-not-is_among-clause-beside c =
    ap (has_name aside) (c.as_str-then-not-is_among.ensures.value ∙ sym c.as_str.ensures.value) ∙ sym c.is_among.ensures ∙ c.if-not-is_among.true

pub returns-clause-none : goal.returns-clause-none
returns-clause-none c = λ none key some.
    let all : c.into_iter-key-iterator.result ≡ c.in-Object.members.entries = search rules in
    none_beside c.args.value.now c.in-Object.members key c.loop-key.key-iterator c.in-Object.is
    (λ other. ap (λ es. get_member key (members_view es)) (sym all) ∙ c.loop-key.invariant key other) c.in-None.ensures.steps.0 some
