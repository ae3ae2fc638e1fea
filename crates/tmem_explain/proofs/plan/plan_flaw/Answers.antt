use Rattle.std.proofs.Common.{◌≡◌, ℕ, Some, IfErr, codes, map, refl, sym, ap, ◌∙◌, subst}
use Rattle.serde_json.specs.Data.{Data}
use Rattle.serde_json.specs.Find.{get}
use Rattle.tmem_forms.specs.TxForms.{array_of}
use Rattle.tmem_script.specs.Scripts.{entry_form}
use Rattle.tmem_fault.specs.declared.fault.Cause.{Cause}
use Rattle.tmem_explain.specs.Flaws.{IsPlanTold, TellsCause}
use Rattle.tmem_explain.specs.Limits.{IsInEntry, LeadIntoEntry, LeadIntoItem, begun_at}
use Rattle.tmem_explain.specs.declared.expected.Expected.TheVariants.{Plan}
use Rattle.tmem_explain.proofs.plan.plan_flaw.Goals as goal

pub returns-in-Err-clause-there : goal.returns-in-Err-clause-there
returns-in-Err-clause-there c = λ d is.
    let events : Data = array_of (map entry_form c.as_slice-entries.result.now) in
    let same : array_of (map entry_form c.args.script.now.entries.items) ≡ events = ap (λ es. array_of (map entry_form es)) (sym c.as_slice-entries.ensures.value) in
    let there : get (codes "events") d ≡ Some events = subst (λ x. get (codes "events") x ≡ Some events) (sym is.form) (ap (λ x. Some x) same) in
    c.into_flaw-in-Err.ensures.flaw d (c.in-Err.ensures.amiss d events there c.find_in_entries-found.ensures.amiss)

pub returns-in-Err-clause-cause : goal.returns-in-Err-clause-cause
returns-in-Err-clause-cause c =
    let l = c.limit_at-limit.result in
    let told = c.in-Err.ensures.cause l.cause l.vars l.total c.find_in_entries-found.ensures.cause in
    let of_cause = subst (λ (k : Cause). TellsCause k l.vars l.total c.in-Err.amiss.expected) c.limit_at-limit.ensures.cause told in
    let of_vars = subst (λ (n : ℕ). TellsCause c.args.cause n l.total c.in-Err.amiss.expected) c.limit_at-limit.ensures.vars of_cause in
    (l.total, subst (λ e. TellsCause c.args.cause c.args.script.now.vars l.total e) (sym c.into_flaw-in-Err.ensures.expected) of_vars)

pub returns-in-Err-clause-limit : goal.returns-in-Err-clause-limit
returns-in-Err-clause-limit c = λ plan tx begun.
    let l = c.limit_at-limit.result in
    let amiss = c.in-Err.amiss in
    let script = c.args.script.now in
    let told = c.in-Err.ensures.cause l.cause l.vars l.total c.find_in_entries-found.ensures.cause in
    let of_cause = subst (λ (k : Cause). TellsCause k l.vars l.total amiss.expected) c.limit_at-limit.ensures.cause told in
    let of_vars = subst (λ (n : ℕ). TellsCause c.args.cause n l.total amiss.expected) c.limit_at-limit.ensures.vars of_cause in
    let planned = subst (λ e. IsPlanTold e) c.into_flaw-in-Err.ensures.expected plan in
    let behind = c.in-Err.ensures.told planned in
    let inner = behind.0 in
    let found = subst (λ r. IfErr r (λ a. IsPlanTold a.expected → LeadIntoItem c.args.index a.steps.items)) behind.1 c.find_in_entries-found.ensures.item in
    let item = found (subst (λ e. IsPlanTold e) behind.2.expected planned) in
    let steps = subst (λ s. LeadIntoEntry c.args.index s) (sym behind.2.steps) (refl, item) in
    let tells = subst (λ e. TellsCause c.args.cause script.vars l.total e) planned.2 of_vars in
    let entries = subst (λ es. begun_at es c.args.index ≡ Some tx) (sym c.as_slice-entries.ensures.value) begun in
    record {
      excess = planned.0;
      told = subst (λ (n : ℕ). c.into_flaw-in-Err.result.expected ≡ Plan planned.0 n) tells.1 (c.into_flaw-in-Err.ensures.expected ∙ planned.2);
      limit = tells.0;
      total = l.total;
      is_total = c.limit_at-limit.ensures.total tx entries;
      has_total = tells.2;
      place = subst (λ at. IsInEntry c.args.index at) (sym c.into_flaw-in-Err.ensures.at) steps;
    }
