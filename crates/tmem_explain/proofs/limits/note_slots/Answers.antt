use Rattle.std.proofs.Common.{◌≡◌, codes, Some, inl, inr, refl, sym, subst}
use Rattle.serde_json.specs.Find.{get}
use Rattle.tmem_forms.specs.TxForms.{natural}
use Rattle.tmem_explain.specs.Limits.{IsLimitFlaw}
use Rattle.tmem_explain.proofs.Limited.{among_more, not_both, only_more, told_last}
use Rattle.tmem_explain.proofs.limits.note_slots.Goals as goal

pub returns-clause-only : goal.returns-clause-only
returns-clause-only c = λ all.
    let script = c.args.script.now in
    let n = script.slots in
    only_more (IsLimitFlaw script.vars script.slots script.entries.items) c.args.flaws.now.items c.push.new.self.items c.into_flaw-flaw.result c.in_ok-push.ensures.items (record {
      told = λ d is.
          let there : get (codes "slots") d ≡ Some (natural n) = subst (λ x. get (codes "slots") x ≡ Some (natural n)) (sym is.form) refl in
          c.into_flaw-flaw.ensures.flaw d (c.behind.ensures.amiss d (natural n) there (c.here-amiss.ensures.amiss (natural n) (n, refl, λ some fits. not_both _ c.if-has_slots.false (c.has_slots.ensures.1 (some, fits)))));
      broken = inl ((λ is. not_both _ c.if-has_slots.false (c.has_slots.ensures.1 (is.some_slots, is.slots_fit))), inr c.in-Slots.is);
    }) all

pub returns-clause-kept : goal.returns-clause-kept
returns-clause-kept c = among_more _ _ c.into_flaw-flaw.result c.in_ok-push.ensures.items

pub returns-clause-told : goal.returns-clause-told
returns-clause-told c = inr (told_last _ _ _ c.into_flaw-flaw.result c.in_ok-push.ensures.items c.in-Slots.is)
