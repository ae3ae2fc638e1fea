use Rattle.std.proofs.Common.{◌≡◌, ◌∙◌, map, refl, sym, ap, subst, rules}
use Rattle.tmem_fault.specs.Name.{has_name}
use Rattle.tmem_requests.proofs.Members.{Known, known_in, known_step, known_stop, known_end}
use Rattle.tmem_requests.proofs.keys.has_only.Goals as goal

pub loop-key-init : goal.loop-key-init
loop-key-init c = (λ known. known, λ known. known)

pub loop-key-preserved : goal.loop-key-preserved
loop-key-preserved c =
    let keys = map (λ key. key.now) c.args.keys.now in
    known_step keys (Known keys c.into_iter-key-iterator.result) c.loop-key.key-iterator _ _ c.in-Some.ensures.steps
    (ap (has_name keys) (sym c.as_str.ensures.value) ∙ sym c.is_among.ensures ∙ c.if-not-is_among.false) c.loop-key.invariant

pub returns-then-not-is_among : goal.returns-then-not-is_among
returns-then-not-is_among c =
    let keys = map (λ key. key.now) c.args.keys.now in
    let all : c.into_iter-key-iterator.result ≡ c.in-Object.members.entries = search rules in (
      λ no. absurd (cc),
      λ only. absurd (known_stop keys (Known keys c.into_iter-key-iterator.result) c.loop-key.key-iterator _ _ c.in-Some.ensures.steps
          (ap (has_name keys) (sym c.as_str.ensures.value) ∙ sym c.is_among.ensures ∙ c.if-not-is_among.true) c.loop-key.invariant
          (subst (Known keys) (sym all) ((known_in keys c.args.value.now c.in-Object.members c.in-Object.is).0 only))),
    )

pub returns : goal.returns
returns c =
    let keys = map (λ key. key.now) c.args.keys.now in
    let all : c.into_iter-key-iterator.result ≡ c.in-Object.members.entries = search rules in (
      λ yes. (known_in keys c.args.value.now c.in-Object.members c.in-Object.is).1
          (subst (Known keys) all (known_end keys (Known keys c.into_iter-key-iterator.result) c.loop-key.key-iterator c.in-None.ensures.steps.0 c.loop-key.invariant)),
      λ only. refl,
    )
