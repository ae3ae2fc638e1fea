-- Invariants that stand at their key, and their names.
use Rattle.std.proofs.Common.{◌≡◌, ℕ, List, map, Some, codes, ◌∙◌, subst}
use Rattle.std.specs.List.{AllZip}
use Rattle.serde_json.specs.Data.{Data, string}
use Rattle.serde_json.specs.Find.{get}
use Rattle.serde_json.specs.View.{view}
use Rattle.serde_json.specs.declared.value.Value.{Value}
use Rattle.tmem_forms.specs.TxForms.{array_of}
use Rattle.tmem_tables.specs.declared.linear.Linear.{Linear}
use Rattle.tmem_shape.specs.Shapes.{HasInvariants, IsInvariant}
use Rattle.tmem_shape.proofs.Arrays.{AllZip-shown, array_same}
use Rattle.tmem_shape.proofs.Found.{one_there}

pub forms_found : (d v : Data) (vs : List Value) (n : ℕ) (linears : List Linear) → get (codes "invariants") d ≡ Some v → v ≡ array_of (map view vs) → HasInvariants n linears d → AllZip (IsInvariant n) linears (map view vs)
forms_found d v vs n linears found is has =
    subst (AllZip (IsInvariant n) linears) (array_same has.values (map view vs) (one_there d (array_of has.values) v (codes "invariants") has.stands found ∙ is)) has.forms

name_once : (n : ℕ) (a b : Linear) (d : Data) → IsInvariant n a d → IsInvariant n b d → a.name ≡ b.name
name_once n a b d first second =
    let same : string a.name ≡ string b.name = one_there d (string a.name) (string b.name) (codes "name") first.name.stands second.name.stands in cc

-- invariants of the same forms have the same names
pub names_once : (n : ℕ) (firsts seconds : List Linear) (ds : List Data) → AllZip (IsInvariant n) firsts ds → AllZip (IsInvariant n) seconds ds → map (λ linear. linear.name) firsts ≡ map (λ linear. linear.name) seconds
names_once n firsts seconds ds first second = AllZip-shown (IsInvariant n) (λ linear. linear.name) (name_once n) firsts seconds ds first second
