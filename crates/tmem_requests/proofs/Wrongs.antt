-- What was found wrong with a value, step by step.
use Rattle.std.proofs.Common.{◌≡◌, ◌≢◌, ◌+◌, ◌<◌, ◌||◌, ℕ, suc, Bool, true, false, List, [], ◌∷◌, length, get_or, codes, BTreeMap, String, Global, Vec, Some, Result, Ok, Err, IsOk, IfErr, is_some, refl, sym, ap, ◌∙◌, subst, option_and_then, string_bytes, bytes_eq, arith}
use Rattle.std.specs.Result.{IsErrAnd}
use Rattle.std.proofs.lemmas.Bool.{false_from_ne_true, false≢true}
use Rattle.std.proofs.lemmas.Slice.Eq.{bytes_eq-Decides}
use Rattle.serde_json.proofs.Views.{Entry, view-Object, get_item_within}
use Rattle.serde_json.specs.Data.{Data, object}
use Rattle.serde_json.specs.Find.{get, at}
use Rattle.serde_json.specs.View.{view, items_of, items_view, members_view}
use Rattle.serde_json.specs.declared.value.Value.{Value, Array, Object}
use Rattle.tmem_forms.proofs.Laws.{view_of_array, items_of_body}
use Rattle.tmem_forms.specs.TxForms.{array_of, tagged}
use Rattle.tmem_fault.specs.Name.{has_name}
use Rattle.tmem_requests.proofs.Members.{aside}
use Rattle.tmem_requests.specs.Wrong.{HasStrangeKey, IsWrong, LeadsToWrong, Scope, whole, part, store, inner, is_headed, ask_keys, led, step_value, tx_keys}
use Rattle.tmem_requests.specs.declared.explain.wrong.WrongValue.{WrongValue}
use Rattle.tmem_requests.specs.declared.place.PointerStep.{PointerStep}
use Rattle.tmem_requests.specs.declared.why.RequestFlaw.{RequestFlaw}
use Rattle.tmem_requests.specs.declared.why.RequestFlaw.TheVariants.{NotRequest}

-- what is wrong with the value itself
pub wrong_here : (scope : Scope) (why : RequestFlaw) (steps : List PointerStep) (d : Data) → steps ≡ [] → IsWrong scope why d → LeadsToWrong scope why steps d
wrong_here scope why steps d none is =
    subst (λ (s : List PointerStep). LeadsToWrong scope why s d) (sym none) (record { place = d; there = refl; is_wrong = is })

-- where no reason is known, nothing is said
pub nothing_wrong : (scope : Scope) (d : Data) → IsWrong scope NotRequest d
nothing_wrong whole d = tt
nothing_wrong part d = tt
nothing_wrong (store vars names always) d = tt

-- what is wrong behind a step
pub wrong_behind : (scope : Scope) (why : RequestFlaw) (step : PointerStep) (steps more : List PointerStep) (d e : Data) → more ≡ step ∷ steps → step_value step d ≡ Some e → LeadsToWrong (inner scope) why steps e → LeadsToWrong scope why more d
wrong_behind scope why step steps more d e is leads wrong =
    subst (λ (s : List PointerStep). LeadsToWrong scope why s d) (sym is) (record {
      place = wrong.place;
      there = ap (option_and_then (led steps)) leads ∙ wrong.there;
      is_wrong = wrong.is_wrong;
    })

-- what is handed on
pub handed : {X : Type 0} (P : WrongValue → Type 0) (r : Result X WrongValue) (e : WrongValue) → IsErrAnd r (λ y. y ≡ e) → P e → IfErr r P
handed P (Ok x) e same is = tt
handed P (Err y) e same is = subst P (sym same) is

-- where an item of an array is
pub item_there : (body : Value) (v : Vec Value Global) (vs : List Value) (i : ℕ) (x : Value) → body ≡ Array v → vs ≡ v.items → i < length vs → x ≡ get_or vs i x → at i (view body) ≡ Some (view x)
item_there body v vs i x is same within here =
    ap (at i) (view_of_array body v vs is same) ∙ sym (get_item_within vs i x within) ∙ ap (λ y. Some (view y)) (sym here)

same_length : (vs : List Value) (ds : List Data) → items_view vs ≡ items_of ds → length vs ≡ length ds
same_length [] [] same = refl
same_length [] (d ∷ ds) same = cc
same_length (v ∷ vs) [] same = cc
same_length (v ∷ vs) (d ∷ ds) same =
    let rest : items_view vs ≡ items_of ds = cc in
    ap suc (same_length vs ds rest)

-- how many items an array has
pub length_of_array : (body : Value) (v : Vec Value Global) (vs : List Value) (ds : List Data) → body ≡ Array v → vs ≡ v.items → view body ≡ array_of ds → length vs ≡ length ds
length_of_array body v vs ds is same form = same_length vs ds (items_of_body body v vs ds is same form)

-- an object of none or of several members
pub not_headed : (m : BTreeMap (String Global) Value) → ¬ (length m.entries ≡ 1) → is_headed (view (Object m)) ≡ false
not_headed m many = ap is_headed (view-Object m) ∙ by m.entries many
  where
    by : (es : List Entry) → ¬ (length es ≡ 1) → is_headed (object (members_view es)) ≡ false
    by [] many = refl
    by (e ∷ []) many = absurd (many refl)
    by (e ∷ f ∷ es) many = refl

-- an object of one member
pub one_member : (m : BTreeMap (String Global) Value) (k : String Global) (v : Value) (rest : List Entry) → m.entries ≡ (k, v) ∷ rest → length m.entries ≡ 1 → view (Object m) ≡ tagged (string_bytes k) (view v)
one_member m k v [] is one = view-Object m ∙ ap (λ es. object (members_view es)) is
one_member m k v (e ∷ rest) is one =
    let long : length m.entries ≡ length rest + 2 = ap length is ∙ omega arith in
    absurd (omega arith)

differs : (a key : List ℕ) → key ≢ a → bytes_eq a key ≡ false
differs a key other = false_from_ne_true (bytes_eq a key) (λ yes. other (sym ((bytes_eq-Decides a key).0 yes)))

neither : (a b : Bool) → a ≡ false → b ≡ false → (a || b) ≡ false
neither a b first second = ap (λ c. c || b) first ∙ second

-- a key that is none of a transaction
pub no_tx_key : (key : List ℕ) → key ≢ codes "seq" → key ≢ codes "when" → key ≢ codes "orelse" → key ≢ codes "put" → key ≢ codes "read" → key ≢ codes "write" → key ≢ codes "step"
    → key ≢ codes "abort" → key ≢ codes "check" → key ≢ codes "retire" → has_name tx_keys key ≡ false
no_tx_key key no_seq no_when no_or_else no_put no_read no_write no_step no_abort no_check no_retire =
    neither _ _ (differs (codes "seq") key no_seq) (neither _ _ (differs (codes "when") key no_when) (neither _ _ (differs (codes "orelse") key no_or_else)
    (neither _ _ (differs (codes "put") key no_put) (neither _ _ (differs (codes "read") key no_read) (neither _ _ (differs (codes "write") key no_write)
    (neither _ _ (differs (codes "step") key no_step) (neither _ _ (differs (codes "abort") key no_abort) (neither _ _ (differs (codes "check") key no_check)
    (neither _ _ (differs (codes "retire") key no_retire) refl)))))))))

-- a key by which nothing is asked for
pub no_ask_key : (key : List ℕ) → key ≢ codes "do" → key ≢ codes "try" → key ≢ codes "get" → key ≢ codes "settle" → key ≢ codes "changed" → key ≢ codes "cancel" → key ≢ codes "keep"
    → key ≢ codes "run" → key ≢ codes "ask" → has_name ask_keys key ≡ false
no_ask_key key no_do no_try no_get no_settle no_changed no_cancel no_keep no_run no_ask =
    neither _ _ (differs (codes "do") key no_do) (neither _ _ (differs (codes "try") key no_try) (neither _ _ (differs (codes "get") key no_get)
    (neither _ _ (differs (codes "settle") key no_settle) (neither _ _ (differs (codes "changed") key no_changed) (neither _ _ (differs (codes "cancel") key no_cancel)
    (neither _ _ (differs (codes "keep") key no_keep) (neither _ _ (differs (codes "run") key no_run) (neither _ _ (differs (codes "ask") key no_ask) refl))))))))

beside_none : (a b c : Bool) → (a || (b || false)) ≡ false → c ≡ false → (a || (b || c)) ≡ false
beside_none true b c none other = cc
beside_none false true c none other = cc
beside_none false false c none other = other

-- a key by which nothing is asked for, beside the id and the numbers
pub strange_key : (key : List ℕ) (d v : Data) → get key d ≡ Some v → has_name aside key ≡ false → has_name ask_keys key ≡ false → HasStrangeKey d
strange_key key d v found other none = record {
  key = key;
  stands = ap is_some found;
  strange = beside_none (bytes_eq (codes "id") key) (bytes_eq (codes "numbers") key) (has_name ask_keys key) other none;
}

-- where all is fine, nothing is told
pub nothing_told : {X : Type 0} (r : Result X WrongValue) (P : WrongValue → Type 0) → IsOk r → IfErr r P
nothing_told (Ok x) P fine = tt
nothing_told (Err e) P fine = absurd (false≢true fine)
