-- An array's values, one by one.
use Rattle.std.proofs.Common.{◌≡◌, ℕ, suc, List, [], ◌∷◌, length, get_or, Option, Some, Bor, Vec, BTreeMap, String, Global, string_bytes, refl, sym, ap, ◌∙◌, arith}
use Rattle.std.specs.Option.{option_map}
use Rattle.serde_json.proofs.Views.{view-Object}
use Rattle.serde_json.specs.Data.{Data, array, object}
use Rattle.serde_json.specs.Find.{as_array}
use Rattle.serde_json.specs.View.{view, items_of, items_view, members_view}
use Rattle.serde_json.specs.declared.value.Value.{Value, Array, Object}
use Rattle.tmem_forms.specs.TxForms.{array_of, tagged}
use Rattle.tmem_forms.proofs.Laws.{view_of_array}

pub two_items : (vs : List Value) (x y : Value) → length vs ≡ 2 → x ≡ get_or vs 0 x → y ≡ get_or vs 1 y → items_view vs ≡ items_of (view x ∷ view y ∷ [])
two_items [] x y long first second = absurd (omega arith)
two_items (a ∷ []) x y long first second = absurd (omega arith)
two_items (a ∷ b ∷ []) x y long first second = rw (first, second) refl
two_items (a ∷ b ∷ c ∷ vs) x y long first second = absurd (omega arith)

pub three_items : (vs : List Value) (x y z : Value) → length vs ≡ 3 → x ≡ get_or vs 0 x → y ≡ get_or vs 1 y → z ≡ get_or vs 2 z → items_view vs ≡ items_of (view x ∷ view y ∷ view z ∷ [])
three_items [] x y z long first second third = absurd (omega arith)
three_items (a ∷ []) x y z long first second third = absurd (omega arith)
three_items (a ∷ b ∷ []) x y z long first second third = absurd (omega arith)
three_items (a ∷ b ∷ c ∷ []) x y z long first second third = rw (first, second, third) refl
three_items (a ∷ b ∷ c ∷ d ∷ vs) x y z long first second third = absurd (omega arith)

-- how many there are
pub length-items : (vs : List Value) (ds : List Data) → items_view vs ≡ items_of ds → length vs ≡ length ds
length-items [] [] same = refl
length-items [] (d ∷ ds) same = cc
length-items (v ∷ vs) [] same = cc
length-items (v ∷ vs) (d ∷ ds) same = ap suc (length-items vs ds cc)

pub three_same : (x y z a b d : Data) → array_of (x ∷ y ∷ z ∷ []) ≡ array_of (a ∷ b ∷ d ∷ []) → (x ≡ a) × (y ≡ b) × (z ≡ d)
three_same x y z a b d same = (cc, cc, cc)

-- the items of a value that is an array
pub items_found : (d : Data) (o : Option (Bor (Vec Value Global))) (v : Bor (Vec Value Global)) (ds : List Data) → option_map (λ v. items_view v.now.items) o ≡ as_array d → o ≡ Some v → d ≡ array_of ds → items_view v.now.items ≡ items_of ds
items_found d o v ds found some is =
    let same : Some (items_view v.now.items) ≡ Some (items_of ds) = sym (ap (option_map (λ (v : Bor (Vec Value Global)). items_view v.now.items)) some) ∙ found ∙ ap as_array is in
    cc

pub view_of_two : (body : Value) (v : Vec Value Global) (vs : List Value) (x y : Value) → body ≡ Array v → vs ≡ v.items → length vs ≡ 2 → x ≡ get_or vs 0 x → y ≡ get_or vs 1 y → view body ≡ array_of (view x ∷ view y ∷ [])
view_of_two body v vs x y is same long first second = view_of_array body v vs is same ∙ ap array (two_items vs x y long first second)

pub view_of_three : (body : Value) (v : Vec Value Global) (vs : List Value) (x y z : Value) → body ≡ Array v → vs ≡ v.items → length vs ≡ 3 → x ≡ get_or vs 0 x → y ≡ get_or vs 1 y → z ≡ get_or vs 2 z → view body ≡ array_of (view x ∷ view y ∷ view z ∷ [])
view_of_three body v vs x y z is same long first second third = view_of_array body v vs is same ∙ ap array (three_items vs x y z long first second third)

pub length-array : (body : Value) (v : Vec Value Global) (vs : List Value) (ds : List Data) → body ≡ Array v → vs ≡ v.items → view body ≡ array_of ds → length vs ≡ length ds
length-array body v vs ds is same form =
    let items : array (items_view vs) ≡ array (items_of ds) = sym (view_of_array body v vs is same) ∙ form in
    length-items vs ds cc

-- the value of an object with one member
one_entry : (k : String Global) (b : Value) (rest : List (String Global × Value)) → length ((k, b) ∷ rest) ≡ 1 → object (members_view ((k, b) ∷ rest)) ≡ tagged (string_bytes k) (view b)
one_entry k b [] one = refl
one_entry k b (e ∷ rest) one = absurd (omega arith)

pub one_member : (es : List (String Global × Value)) (k : String Global) (b : Value) (rest : List (String Global × Value)) → es ≡ (k, b) ∷ rest → length es ≡ 1 → object (members_view es) ≡ tagged (string_bytes k) (view b)
one_member es k b rest is one = ap (λ (fs : List (String Global × Value)). object (members_view fs)) is ∙ one_entry k b rest (sym (ap length is) ∙ one)

pub view_of_one : (m : BTreeMap (String Global) Value) (k : String Global) (b : Value) (rest : List (String Global × Value)) → m.entries ≡ (k, b) ∷ rest → length m.entries ≡ 1 → view (Object m) ≡ tagged (string_bytes k) (view b)
view_of_one m k b rest is one = view-Object m ∙ one_member m.entries k b rest is one

pub view_of_only : (value : Value) (m : BTreeMap (String Global) Value) (k : String Global) (b : Value) (rest : List (String Global × Value)) (key : List ℕ) → value ≡ Object m → m.entries ≡ (k, b) ∷ rest → length m.entries ≡ 1 → key ≡ string_bytes k → view value ≡ tagged key (view b)
view_of_only value m k b rest key is first one same = ap view is ∙ view_of_one m k b rest first one ∙ ap (λ (l : List ℕ). tagged l (view b)) (sym same)
