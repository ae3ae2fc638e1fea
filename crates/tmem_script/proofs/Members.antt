-- An object's members, one by one.
use Rattle.std.proofs.Common.{◌≡◌, ℕ, List, [], ◌∷◌, length, slice_get, map, Option, Some, Bor, BTreeMap, String, Global, string_bytes, codes, refl, sym, ap, ◌∙◌, arith}
use Rattle.std.specs.Option.{option_map}
use Rattle.serde_json.proofs.Views.{view-Object}
use Rattle.serde_json.specs.Data.{Data, null, boolean, number, string, array, object, Members, no_members, member}
use Rattle.serde_json.specs.Find.{as_object}
use Rattle.serde_json.specs.View.{view, members_view}
use Rattle.serde_json.specs.declared.value.Value.{Value, Object}
use Rattle.tmem_script.specs.Scripts.{IsScript, entry_form}
use Rattle.tmem_forms.specs.TxForms.{natural, array_of, tagged}
use Rattle.tmem_script.specs.declared.script.ScriptEntry.{ScriptEntry}

-- an object's members as a list
abbrev Entries : Type 0
Entries = List (String Global × Value)

is_object : (d : Data) (ms : Members) → Some ms ≡ as_object d → d ≡ object ms
is_object null ms found = cc
is_object (boolean b) ms found = cc
is_object (number n) ms found = cc
is_object (string s) ms found = cc
is_object (array ds) ms found = cc
is_object (object ns) ms found = cc

pub object_found : (d : Data) (o : Option (Bor (BTreeMap (String Global) Value))) (m : Bor (BTreeMap (String Global) Value)) → option_map (λ m. members_view m.now.entries) o ≡ as_object d → o ≡ Some m → d ≡ object (members_view m.now.entries)
object_found d o m found some =
    is_object d (members_view m.now.entries) (sym (ap (option_map (λ (m : Bor (BTreeMap (String Global) Value)). members_view m.now.entries)) some) ∙ found)

pub first_alone : (es : Entries) (k : String Global) (b : Value) → slice_get es 0 ≡ Some (k, b) → length es ≡ 1 → object (members_view es) ≡ tagged (string_bytes k) (view b)
first_alone [] k b first one = absurd (omega arith)
first_alone (e ∷ []) k b first one =
    let same : e ≡ (k, b) = cc in
    ap (λ (f : String Global × Value). object (members_view (f ∷ []))) same
first_alone (e ∷ f ∷ es) k b first one = absurd (omega arith)

pub none_left : (es : Entries) → length es ≡ 0 → members_view es ≡ no_members
none_left [] none = refl
none_left (e ∷ es) none = absurd (omega arith)

pub some_left : (es : Entries) → ¬ (length es ≡ 0) → ¬ (members_view es ≡ no_members)
some_left [] some none = some refl
some_left (e ∷ es) some none = cc

-- the value of an object with three members is the form of a script only if they are
pub no_script_of_three : (v : Value) (m : BTreeMap (String Global) Value) → v ≡ Object m
    → ((events slots vars : Data) → ¬ (members_view m.entries ≡ member (codes "events") events (member (codes "slots") slots (member (codes "vars") vars no_members))))
    → (n k : ℕ) (entries : List ScriptEntry) → ¬ IsScript n k entries (view v)
no_script_of_three v m is none n k entries script =
    let same : object (members_view m.entries) ≡ object (member (codes "events") (array_of (map entry_form entries)) (member (codes "slots") (natural k) (member (codes "vars") (natural n) no_members)))
    = sym (ap view is ∙ view-Object m) ∙ script.form in
    none (array_of (map entry_form entries)) (natural k) (natural n) cc

-- the value of an object with these three members
pub view_of_three : (v : Value) (m : BTreeMap (String Global) Value) (events slots vars : Data) → v ≡ Object m
    → members_view m.entries ≡ member (codes "events") events (member (codes "slots") slots (member (codes "vars") vars no_members))
    → view v ≡ object (member (codes "events") events (member (codes "slots") slots (member (codes "vars") vars no_members)))
view_of_three v m events slots vars is found = ap view is ∙ view-Object m ∙ ap object found

-- what the members of a script are
pub record AreOf (n k : ℕ) (entries : List ScriptEntry) (events slots vars : Data) : Type 0 where
  pub events_of : events ≡ array_of (map entry_form entries)
  pub slots_of : slots ≡ natural k
  pub vars_of : vars ≡ natural n

pub members_of_script : (events slots vars : Data) (n k : ℕ) (entries : List ScriptEntry)
    → IsScript n k entries (object (member (codes "events") events (member (codes "slots") slots (member (codes "vars") vars no_members)))) → AreOf n k entries events slots vars
members_of_script events slots vars n k entries script =
    let same : object (member (codes "events") events (member (codes "slots") slots (member (codes "vars") vars no_members)))
    ≡ object (member (codes "events") (array_of (map entry_form entries)) (member (codes "slots") (natural k) (member (codes "vars") (natural n) no_members)))
    = script.form in
    record { events_of = cc; slots_of = cc; vars_of = cc }
