-- Facts about forms and refusals alone: arrays of values, keys and members.
use Rattle.std.proofs.Common.{◌≡◌, ◌≢◌, ℕ, zero, suc, ◌+◌, ◌<◌, false, bytes_eq, List, [], ◌∷◌, ◌++◌, length, get_or, map, take, All, Vec, Global, Result, Ok, Err, IfErr, sym, ap, ◌∙◌, subst, arith}
use Rattle.std.specs.Result.{IsErrAnd}
use Rattle.std.proofs.lemmas.Bool.{false≢true}
use Rattle.std.proofs.lemmas.List.{map-append, take_more}
use Rattle.std.proofs.lemmas.List.Elements.{All-head, All-tail}
use Rattle.std.proofs.lemmas.Slice.Eq.{bytes_eq-Decides}
use Rattle.serde_json.proofs.Views.{view-Array}
use Rattle.serde_json.specs.Data.{Data, array, object, Members, member}
use Rattle.serde_json.specs.Events.{members_len}
use Rattle.serde_json.specs.View.{view, items_of, items_view}
use Rattle.serde_json.specs.declared.value.Value.{Value, Array}
use Rattle.tmem_tree.specs.declared.tx.Tx.{Tx}
use Rattle.tmem_forms.specs.Errors.{Refuses}
use Rattle.tmem_forms.specs.TxForms.{array_of, IsTx}
use Rattle.tmem_forms.specs.declared.error.FormError.{FormError}
use Rattle.tmem_forms.specs.declared.error.FormError.TheVariants.{Memory, NoForm}
-- that nothing stands twice in a list
pub use Rattle.tmem_forms.proofs.Distinct.{shown_at, distinct_more, distinct_whole, not_distinct}
-- a test of what a map shows of the elements of a list
pub use Rattle.tmem_forms.proofs.Shown.{any_of_map}

-- the value of an array of values
pub view_of_array : (body : Value) (v : Vec Value Global) (vs : List Value) → body ≡ Array v → vs ≡ v.items → view body ≡ array (items_view vs)
view_of_array body v vs is same = ap view is ∙ view-Array v ∙ ap (λ (ws : List Value). array (items_view ws)) (sym same)

pub items_of_body : (body : Value) (v : Vec Value Global) (vs : List Value) (ds : List Data) → body ≡ Array v → vs ≡ v.items → view body ≡ array_of ds → items_view vs ≡ items_of ds
items_of_body body v vs ds is same form =
    let items : array (items_view vs) ≡ array (items_of ds) = sym (view_of_array body v vs is same) ∙ form in
    cc

-- where one value of an array has no form, the array is no array of forms
pub no_items_at : {X : Type 0} (form : X → Data) (Q : X → Type 0) (vs : List Value) (i : ℕ) (v : Value) → i < length vs → v ≡ get_or vs i v → ((x : X) → Q x → view v ≢ form x) → (xs : List X) → All Q xs → items_view vs ≢ items_of (map form xs)
no_items_at form Q [] i v within at none xs all same = absurd (omega arith)
no_items_at form Q (w ∷ vs) i v within at none [] all same = cc
no_items_at form Q (w ∷ vs) zero v within at none (x ∷ xs) all same =
    let heads : view w ≡ form x = cc in
    none x (All-head Q x xs all) (ap view at ∙ heads)
no_items_at form Q (w ∷ vs) (suc i) v within at none (x ∷ xs) all same =
    no_items_at form Q vs i v (omega arith) at none xs (All-tail Q x xs all) cc

-- an array of two has these two
pub two_same : (x y a b : Data) → array_of (x ∷ y ∷ []) ≡ array_of (a ∷ b ∷ []) → (x ≡ a) × (y ≡ b)
two_same x y a b same = (cc, cc)

-- the key of an object's first member
abbrev pub key_of : Data → List ℕ
key_of (object (member k d ms)) = k
key_of _ = []

pub apart : (a b : List ℕ) → bytes_eq a b ≡ false → a ≢ b
apart a b differ same = false≢true (sym differ ∙ (bytes_eq-Decides a b).1 same)

-- how many members an object has, or 1
abbrev pub width : Data → ℕ
width (object ms) = members_len ms
width _ = 1

-- no transaction has this form
abbrev pub NoTx : Data → Type 0
NoTx d = (tx : Tx) → ¬ IsTx tx d

refuses_more : (P Q : Type 0) (e : FormError) → Refuses e P → (P → Q) → Refuses e Q
refuses_more P Q (Memory a) refused more = tt
refuses_more P Q NoForm refused more = more refused

-- an error that is passed on
pub passed_on : {X : Type 0} (P Q : Type 0) (r : Result X FormError) (e : FormError) → IsErrAnd r (λ y. y ≡ e) → Refuses e P → (P → Q) → IfErr r (λ y. Refuses y Q)
passed_on P Q (Ok x) e same refused more = tt
passed_on P Q (Err y) e same refused more = subst (λ d. Refuses d Q) (sym same) (refuses_more P Q e refused more)

-- an object has one list of members
pub same_members : (ms ns : Members) → object ms ≡ object ns → ms ≡ ns
same_members ms ns same = cc

-- one more item was read
pub map_more : {X Y D : Type 0} (f : X → D) (h : Y → D) (xs ys : List X) (x : X) (vs : List Y) (i : ℕ) (v : Y) → i < length vs → v ≡ get_or vs i v → h v ≡ f x → map f xs ≡ map h (take i vs) → ys ≡ xs ++ x ∷ [] → map f ys ≡ map h (take (i + 1) vs)
map_more f h xs ys x vs i v within at same so_far pushed =
    ap (map f) pushed ∙ map-append f xs (x ∷ []) ∙ ap (λ l. l ++ f x ∷ []) so_far
    ∙ ap (λ d. map h (take i vs) ++ d ∷ []) (sym same ∙ ap h at)
    ∙ sym (map-append h (take i vs) (get_or vs i v ∷ [])) ∙ ap (map h) (sym (take_more vs i v within))
