-- Values of an array, one by one.
use Rattle.std.proofs.Common.{◌≡◌, ℕ, zero, suc, ◌+◌, ◌<◌, List, [], ◌∷◌, ◌++◌, length, get_or, map, take, Option, Some, Bor, Vec, Global, refl, sym, ap, ◌∙◌, subst, arith}
use Rattle.std.specs.Option.{option_map}
use Rattle.std.specs.List.{AllZip}
use Rattle.std.proofs.lemmas.List.{take_more}
use Rattle.serde_json.specs.Data.{Data, null, boolean, number, string, array, object, Items}
use Rattle.serde_json.specs.Find.{as_array}
use Rattle.serde_json.specs.View.{view, items_of, items_view}
use Rattle.serde_json.specs.declared.value.Value.{Value}
use Rattle.tmem_forms.specs.TxForms.{array_of}

is_array : (d : Data) (ds : Items) → Some ds ≡ as_array d → d ≡ array ds
is_array null ds found = cc
is_array (boolean b) ds found = cc
is_array (number n) ds found = cc
is_array (string s) ds found = cc
is_array (array es) ds found = cc
is_array (object ms) ds found = cc

-- a value that was found to be an array
pub array_found : (d : Data) (o : Option (Bor (Vec Value Global))) (v : Bor (Vec Value Global)) → option_map (λ v. items_view v.now.items) o ≡ as_array d → o ≡ Some v → d ≡ array_of (map view v.now.items)
array_found d o v found some =
    is_array d (items_view v.now.items) (sym (ap (option_map (λ (v : Bor (Vec Value Global)). items_view v.now.items)) some) ∙ found)

items_same : (ds es : List Data) → items_of ds ≡ items_of es → ds ≡ es
items_same [] [] same = refl
items_same [] (e ∷ es) same = cc
items_same (d ∷ ds) [] same = cc
items_same (d ∷ ds) (e ∷ es) same =
    let head : d ≡ e = cc in
    let tail : items_of ds ≡ items_of es = cc in
    ap (λ x. x ∷ ds) head ∙ ap (λ xs. e ∷ xs) (items_same ds es tail)

-- arrays that are the same have the same values
pub array_same : (ds es : List Data) → array_of ds ≡ array_of es → ds ≡ es
array_same ds es same = let items : items_of ds ≡ items_of es = cc in items_same ds es items

map-append : {V B : Type 0} (shows : V → B) (vs ws : List V) → map shows (vs ++ ws) ≡ map shows vs ++ map shows ws
map-append shows [] ws = refl
map-append shows (v ∷ vs) ws = ap (λ xs. shows v ∷ xs) (map-append shows vs ws)

-- one value more
pub map-take_more : {V B : Type 0} (shows : V → B) (vs : List V) (i : ℕ) (v : V) → i < length vs → v ≡ get_or vs i v → map shows (take (i + 1) vs) ≡ map shows (take i vs) ++ shows v ∷ []
map-take_more shows vs i v within is =
    ap (map shows) (take_more vs i v within ∙ ap (λ w. take i vs ++ w ∷ []) (sym is)) ∙ map-append shows (take i vs) (v ∷ [])

AllZip-append : {A B : Type 0} (R : A → B → Type 0) (xs : List A) (bs : List B) (a : A) (b : B) → AllZip R xs bs → R a b → AllZip R (xs ++ a ∷ []) (bs ++ b ∷ [])
AllZip-append R [] [] a b all here = (here, tt)
AllZip-append R [] (c ∷ bs) a b all here = absurd all
AllZip-append R (c ∷ xs) [] a b all here = absurd all
AllZip-append R (c ∷ xs) (d ∷ bs) a b all here = (all.0, AllZip-append R xs bs a b all.1 here)

pub AllZip-take_more : {A B V : Type 0} (R : A → B → Type 0) (shows : V → B) (xs : List A) (vs : List V) (i : ℕ) (a : A) (v : V) → i < length vs → v ≡ get_or vs i v → AllZip R xs (map shows (take i vs)) → R a (shows v) → AllZip R (xs ++ a ∷ []) (map shows (take (i + 1) vs))
AllZip-take_more R shows xs vs i a v within is all here =
    subst (AllZip R (xs ++ a ∷ [])) (sym (map-take_more shows vs i v within is)) (AllZip-append R xs (map shows (take i vs)) a (shows v) all here)

-- where one value fits nothing, no list fits them all
pub no_AllZip : {A B V : Type 0} (R : A → B → Type 0) (shows : V → B) (vs : List V) (i : ℕ) (v : V) → i < length vs → v ≡ get_or vs i v → ((a : A) → ¬ R a (shows v)) → (xs : List A) → ¬ AllZip R xs (map shows vs)
no_AllZip R shows [] i v within is none xs all = absurd (omega (arith, within))
no_AllZip R shows (w ∷ vs) i v within is none [] all = all
no_AllZip R shows (w ∷ vs) zero v within is none (a ∷ xs) all = none a (subst (λ x. R a (shows x)) (sym is) all.0)
no_AllZip R shows (w ∷ vs) (suc i) v within is none (a ∷ xs) all = no_AllZip R shows vs i v (omega (arith, within)) is none xs all.1

-- two lists that fit the same values show the same, where what fits shows what the value says
pub AllZip-shown : {A B X : Type 0} (R : A → B → Type 0) (shows : A → X) → ((a c : A) (b : B) → R a b → R c b → shows a ≡ shows c) → (xs cs : List A) (bs : List B) → AllZip R xs bs → AllZip R cs bs → map shows xs ≡ map shows cs
AllZip-shown R shows one [] [] bs first second = refl
AllZip-shown R shows one [] (c ∷ cs) [] first second = absurd second
AllZip-shown R shows one [] (c ∷ cs) (b ∷ bs) first second = absurd first
AllZip-shown R shows one (a ∷ xs) [] [] first second = absurd first
AllZip-shown R shows one (a ∷ xs) [] (b ∷ bs) first second = absurd second
AllZip-shown R shows one (a ∷ xs) (c ∷ cs) [] first second = absurd first
AllZip-shown R shows one (a ∷ xs) (c ∷ cs) (b ∷ bs) first second =
    ap (λ x. x ∷ map shows xs) (one a c b first.0 second.0) ∙ ap (λ xs. shows c ∷ xs) (AllZip-shown R shows one xs cs bs first.1 second.1)

pub length-AllZip : {A B : Type 0} (R : A → B → Type 0) (xs : List A) (bs : List B) → AllZip R xs bs → length xs ≡ length bs
length-AllZip R [] [] all = refl
length-AllZip R [] (b ∷ bs) all = absurd all
length-AllZip R (a ∷ xs) [] all = absurd all
length-AllZip R (a ∷ xs) (b ∷ bs) all = ap suc (length-AllZip R xs bs all.1)
