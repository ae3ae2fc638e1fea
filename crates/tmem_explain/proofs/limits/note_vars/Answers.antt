use Rattle.std.proofs.Common.{◌≡◌, codes, Some, inl, inr, refl, sym, subst}
use Rattle.serde_json.specs.Find.{get}
use Rattle.tmem_forms.specs.TxForms.{natural}
use Rattle.tmem_explain.specs.Limits.{IsLimitFlaw}
use Rattle.tmem_explain.proofs.Limited.{not_both, only_more, told_last}
use Rattle.tmem_explain.proofs.limits.note_vars.Goals as goal

pub returns-clause-only : goal.returns-clause-only
returns-clause-only c = λ all.
    let script = c.args.script.now in
    let n = script.vars in
    only_more (IsLimitFlaw script.vars script.slots script.entries.items) c.args.flaws.now.items c.push.new.self.items c.into_flaw-flaw.result c.in_ok-push.ensures.items (record {
      told = λ d is.
          let there : get (codes "vars") d ≡ Some (natural n) = subst (λ x. get (codes "vars") x ≡ Some (natural n)) (sym is.form) refl in
          c.into_flaw-flaw.ensures.flaw d (c.behind.ensures.amiss d (natural n) there (c.here-amiss.ensures.amiss (natural n) (n, refl, λ some fits. not_both _ c.if-has_vars.false (c.has_vars.ensures.1 (some, fits)))));
      broken = inl ((λ is. not_both _ c.if-has_vars.false (c.has_vars.ensures.1 (is.some_vars, is.vars_fit))), inl c.in-Vars.is);
    }) all

pub returns-clause-told : goal.returns-clause-told
returns-clause-told c = inr (told_last _ _ _ c.into_flaw-flaw.result c.in_ok-push.ensures.items c.in-Vars.is)
