-- What a value holds is smaller than the value.
use Rattle.std.proofs.Common.{◌≡◌, ℕ, ◌+◌, ◌*◌, ◌<◌, List, ◌∷◌, length, get_or, Vec, BTreeMap, String, Global, subst, sym, arith, rules}
use Rattle.serde_json.specs.declared.value.Value.{Value, Array, Object}
use Rattle.serde_json.specs.declared.value.Value.TheViews.{size-Value}
use Rattle.serde_json.specs.declared.value.Value.TheFolds.{the_lemmas}

item_smaller : (v : Vec Value Global) (i : ℕ) (x : Value) → i < length v.items → x ≡ get_or v.items i x → size-Value x < size-Value (Array v)
item_smaller v i x within is = search (rules, the_lemmas)

member_smaller : (m : BTreeMap (String Global) Value) (k : String Global) (x : Value) (rest : List (String Global × Value)) → m.entries ≡ (k, x) ∷ rest → size-Value x < size-Value (Object m)
member_smaller m k x rest is = search (rules, the_lemmas)

-- a recursion that goes to an item of an array, and to a member of an object
pub falls_to_item : (body : Value) (v : Vec Value Global) (vs : List Value) (i : ℕ) (x : Value) (t : ℕ) → body ≡ Array v → vs ≡ v.items → i < length vs → x ≡ get_or vs i x → 2 * size-Value body + 0 ≡ t → 2 * size-Value x + 0 < t
falls_to_item body v vs i x t is same within at all =
    let there : i < length v.items = subst (λ (l : List Value). i < length l) same within in
    let found : x ≡ get_or v.items i x = subst (λ (l : List Value). x ≡ get_or l i x) same at in
    let less : size-Value x < size-Value body = subst (λ (b : Value). size-Value x < size-Value b) (sym is) (item_smaller v i x there found) in
    omega (arith, less, all)

pub falls_to_member : (value : Value) (m : BTreeMap (String Global) Value) (k : String Global) (x : Value) (rest : List (String Global × Value)) (t : ℕ) → value ≡ Object m → m.entries ≡ (k, x) ∷ rest → 2 * size-Value value + 0 ≡ t → 2 * size-Value x + 1 < t
falls_to_member value m k x rest t is first all =
    let less : size-Value x < size-Value value = subst (λ (b : Value). size-Value x < size-Value b) (sym is) (member_smaller m k x rest first) in
    omega (arith, less, all)
