-- Members of an object, one by one.
use Rattle.std.proofs.Common.{◌≡◌, ℕ, true, false, bytes_eq, List, ◌∷◌, Option, Some, Bor, BTreeMap, String, Global, string_bytes, sym, ap, ◌∙◌, subst}
use Rattle.std.specs.Option.{option_map}
use Rattle.std.proofs.lemmas.Bool.{false≢true, or_right}
use Rattle.std.proofs.lemmas.List.Elements.{All-cons}
use Rattle.serde_json.specs.Data.{Data, null, boolean, number, string, array, object, Members}
use Rattle.serde_json.specs.Find.{as_object}
use Rattle.serde_json.specs.View.{members_view}
use Rattle.serde_json.specs.declared.value.Value.{Value}
use Rattle.tmem_fault.specs.Name.{has_name}
use Rattle.tmem_forms.proofs.Laws.{same_members}
use Rattle.tmem_invariants.proofs.Laws.{All-at_name}
use Rattle.tmem_forms.specs.Members.{AreAmong, HasOnly, member_keys}

-- an object's members as a list
abbrev pub Entries : Type 0
Entries = List (String Global × Value)

is_object : (d : Data) (ms : Members) → Some ms ≡ as_object d → d ≡ object ms
is_object null ms found = cc
is_object (boolean b) ms found = cc
is_object (number n) ms found = cc
is_object (string s) ms found = cc
is_object (array ds) ms found = cc
is_object (object ns) ms found = cc

-- a value that was found to be an object
pub object_found : (d : Data) (o : Option (Bor (BTreeMap (String Global) Value))) (m : Bor (BTreeMap (String Global) Value)) → option_map (λ m. members_view m.now.entries) o ≡ as_object d → o ≡ Some m → d ≡ object (members_view m.now.entries)
object_found d o m found some =
    is_object d (members_view m.now.entries) (sym (ap (option_map (λ (m : Bor (BTreeMap (String Global) Value)). members_view m.now.entries)) some) ∙ found)

-- ---- the keys of an object's entries, one by one

pub known_more : (keys : List (List ℕ)) (es rest : Entries) (k : String Global) (v : Value) → es ≡ (k, v) ∷ rest → has_name keys (string_bytes k) ≡ true → AreAmong keys (member_keys (members_view rest)) → AreAmong keys (member_keys (members_view es))
known_more keys es rest k v is here known =
    subst (λ (fs : Entries). AreAmong keys (member_keys (members_view fs))) (sym is) (All-cons (λ key. has_name keys key ≡ true) (string_bytes k) (member_keys (members_view rest)) here known)

pub among_more : (es rest : Entries) (k : String Global) (v : Value) (key : List ℕ) → es ≡ (k, v) ∷ rest → has_name (member_keys (members_view rest)) key ≡ true → has_name (member_keys (members_view es)) key ≡ true
among_more es rest k v key is later =
    subst (λ (fs : Entries). has_name (member_keys (members_view fs)) key ≡ true) (sym is) (or_right (bytes_eq (string_bytes k) key) (has_name (member_keys (members_view rest)) key) later)

-- an object with another key has not only these
pub has_another : (keys : List (List ℕ)) (d : Data) (ms : Members) (key : List ℕ) → d ≡ object ms → has_name (member_keys ms) key ≡ true → has_name keys key ≡ false → ¬ HasOnly keys d
has_another keys d ms key is there other only =
    let same : only.members ≡ ms = same_members only.members ms (sym only.is_object ∙ is) in
    false≢true (sym other ∙ All-at_name (λ k. has_name keys k ≡ true) (member_keys ms) key (subst (λ (ns : Members). AreAmong keys (member_keys ns)) same only.known) there)
