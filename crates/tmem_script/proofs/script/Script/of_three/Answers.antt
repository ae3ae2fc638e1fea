use Rattle.std.proofs.Common.{◌≡◌, ℕ, List, codes, map, All, refl}
use Rattle.serde_json.specs.Data.{Data, object, member, no_members}
use Rattle.serde_json.specs.View.{view}
use Rattle.tmem_forms.specs.TxForms.{natural, array_of, IsShort}
use Rattle.tmem_forms.proofs.Laws.{passed_on}
use Rattle.tmem_script.specs.Scripts.{IsScript, EntryInRange, entry_form}
use Rattle.tmem_script.specs.declared.script.ScriptEntry.{ScriptEntry}
use Rattle.tmem_script.proofs.Members.{members_of_script}
use Rattle.tmem_script.proofs.script.Script.of_three.Goals as goal

abbrev NoScript : Data → Data → Data → Type 0
NoScript events slots vars = (n k : ℕ) (entries : List ScriptEntry) → ¬ IsScript n k entries (object (member (codes "events") events (member (codes "slots") slots (member (codes "vars") vars no_members))))

pub returns-in_err-vars-clause-refused : goal.returns-in_err-vars-clause-refused
returns-in_err-vars-clause-refused c =
    passed_on ((n : ℕ) → IsShort n → ¬ (view c.args.vars.now ≡ natural n)) (NoScript (view c.args.events.now) (view c.args.slots.now) (view c.args.vars.now))
    c.from_residual.result c.in_err-vars.field-0.0 c.from_residual.ensures.1 c.in_err-vars.ensures.refused
    (λ none n k entries is. none n is.vars_fit (members_of_script _ _ _ n k entries is).vars_of)

pub returns-in_err-slots-clause-refused : goal.returns-in_err-slots-clause-refused
returns-in_err-slots-clause-refused c =
    passed_on ((n : ℕ) → IsShort n → ¬ (view c.args.slots.now ≡ natural n)) (NoScript (view c.args.events.now) (view c.args.slots.now) (view c.args.vars.now))
    c.from_residual-in_err-slots.result c.in_err-slots.field-0.0 c.from_residual-in_err-slots.ensures.1 c.in_err-slots.ensures.refused
    (λ none n k entries is. none k is.slots_fit (members_of_script _ _ _ n k entries is).slots_of)

pub returns-in_err-entries-clause-refused : goal.returns-in_err-entries-clause-refused
returns-in_err-entries-clause-refused c =
    passed_on ((entries : List ScriptEntry) → All EntryInRange entries → ¬ (view c.args.events.now ≡ array_of (map entry_form entries))) (NoScript (view c.args.events.now) (view c.args.slots.now) (view c.args.vars.now))
    c.from_residual-in_err-entries.result c.in_err-entries.field-0.0 c.from_residual-in_err-entries.ensures.1 c.in_err-entries.ensures.refused
    (λ none n k entries is. none entries is.in_range (members_of_script _ _ _ n k entries is).events_of)

pub returns-clause-ok : goal.returns-clause-ok
returns-clause-ok c =
    record {
      form = rw (c.in_ok-entries.ensures.ok, c.in_ok-slots.ensures.ok, c.in_ok-vars.ensures.ok) refl;
      vars_fit = c.in_ok-vars.ensures.in_range;
      slots_fit = c.in_ok-slots.ensures.in_range;
      in_range = c.in_ok-entries.ensures.in_range;
    }
