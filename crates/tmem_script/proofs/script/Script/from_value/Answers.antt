use Rattle.std.proofs.Common.{◌≡◌, ℕ, List, IfOk, IfErr, codes, sym, subst}
use Rattle.serde_json.specs.Data.{Data, member, no_members}
use Rattle.serde_json.specs.View.{view, members_view}
use Rattle.tmem_forms.specs.Errors.{Refuses}
use Rattle.tmem_forms.proofs.Laws.{passed_on}
use Rattle.tmem_script.specs.Scripts.{IsScript}
use Rattle.tmem_script.specs.declared.script.ScriptEntry.{ScriptEntry}
use Rattle.tmem_script.proofs.Members.{no_script_of_three, view_of_three}
use Rattle.tmem_script.proofs.script.Script.from_value.Goals as goal

pub returns-in_err-vars-clause-refused : goal.returns-in_err-vars-clause-refused
returns-in_err-vars-clause-refused c =
    passed_on ((events slots vars : Data) → ¬ (members_view c.in-Object.members.entries ≡ member (codes "events") events (member (codes "slots") slots (member (codes "vars") vars no_members)))) ((vars slots : ℕ) (entries : List ScriptEntry) → ¬ IsScript vars slots entries (view c.args.value))
    c.from_residual.result c.in_err-vars.field-0.0 c.from_residual.ensures.1 c.in_err-vars.ensures.refused
    (λ none. no_script_of_three c.args.value c.in-Object.members c.in-Object.is none)

pub returns : goal.returns
returns c =
    let is = view_of_three c.args.value c.in-Object.members (view c.in_ok-vars.events) (view c.in_ok-vars.slots) (view c.in_ok-vars.vars) c.in-Object.is c.in_ok-vars.ensures.ok in
    record {
      ok = subst (λ d. IfOk c.of_three.result (λ script. IsScript script.vars script.slots script.entries.items d)) (sym is) c.of_three.ensures.ok;
      refused = subst (λ d. IfErr c.of_three.result (λ e. Refuses e ((n k : ℕ) (entries : List ScriptEntry) → ¬ IsScript n k entries d))) (sym is) c.of_three.ensures.refused;
    }
