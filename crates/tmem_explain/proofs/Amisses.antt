-- What was found wrong with a value, step by step.
use Rattle.std.proofs.Common.{◌≡◌, ◌≢◌, ◌+◌, ◌<◌, ◌≤◌, ◌||◌, ℕ, zero, suc, Bool, true, false, nat_lt, List, [], ◌∷◌, length, map, get_or, codes, Box, BTreeMap, String, Global, Vec, Some, Result, Ok, Err, IfOk, IfErr, refl, sym, ap, ◌∙◌, subst, option_and_then, string_bytes, bytes_eq, arith}
use Rattle.std.specs.Result.{IsErrAnd}
use Rattle.std.proofs.lemmas.Bool.{false_from_ne_true}
use Rattle.std.proofs.lemmas.Bool.Decides.{nat_tests}
use Rattle.std.proofs.lemmas.Slice.Eq.{bytes_eq-Decides}
use Rattle.serde_json.proofs.Views.{Entry, view-Object, get_item_within}
use Rattle.serde_json.specs.Data.{Data, object}
use Rattle.serde_json.specs.Find.{at}
use Rattle.serde_json.specs.View.{view, members_view}
use Rattle.serde_json.specs.declared.value.Value.{Value, Array, Object}
use Rattle.tmem_builtins.specs.Builtins.{builtin_names}
use Rattle.tmem_fault.specs.Name.{has_name}
use Rattle.tmem_forms.proofs.Laws.{view_of_array}
use Rattle.tmem_forms.specs.TxForms.{array_of, level_form, natural, tagged, tx_form}
use Rattle.tmem_requests.specs.Wrong.{led, part, scope_behind, step_value}
use Rattle.tmem_requests.specs.declared.place.PointerStep.{PointerStep}
use Rattle.tmem_tree.specs.declared.tx.Tx.{Tx}
use Rattle.tmem_tree.specs.declared.tx.Tx.TheFolds.{fold-roll-Tx}
use Rattle.tmem_tree.specs.declared.tx.Tx.TheOpen as level
use Rattle.tmem_tree.specs.declared.tx.Tx.TheVariants.{Seq, When, OrElse}
use Rattle.tmem_tree.specs.declared.tx.Tx.TheViews.{rolls-Seq, rolls-When, rolls-OrElse}
use Rattle.tmem_explain.specs.Flaws.{IsAmiss, LeadsToAmiss, entry_words, event_keys, is_entry_headed}
use Rattle.tmem_explain.specs.declared.amiss.Amiss.{Amiss}
use Rattle.tmem_explain.specs.declared.expected.Expected.{Expected}

-- what is wrong with the value itself
pub amiss_here : (expected : Expected) (steps : List PointerStep) (d : Data) → steps ≡ [] → IsAmiss expected d → LeadsToAmiss expected steps d
amiss_here expected steps d none is =
    subst (λ (s : List PointerStep). LeadsToAmiss expected s d) (sym none) (record { place = d; there = refl; is_amiss = is })

-- what is wrong behind a step
pub amiss_behind : (expected : Expected) (step : PointerStep) (steps more : List PointerStep) (d e : Data) → more ≡ step ∷ steps → step_value step d ≡ Some e → LeadsToAmiss expected steps e → LeadsToAmiss expected more d
amiss_behind expected step steps more d e is leads amiss =
    subst (λ (s : List PointerStep). LeadsToAmiss expected s d) (sym is) (record {
      place = amiss.place;
      there = ap (option_and_then (led steps)) leads ∙ amiss.there;
      is_amiss = amiss.is_amiss;
    })

-- what is handed on
pub handed : {X : Type 0} (P : Amiss → Type 0) (r : Result X Amiss) (e : Amiss) → IsErrAnd r (λ y. y ≡ e) → P e → IfErr r P
handed P (Ok x) e same is = tt
handed P (Err y) e same is = subst P (sym same) is

-- what holds of each value
pub all_ok : {X E : Type 0} (P : X → Type 0) (r : Result X E) → ((x : X) → P x) → IfOk r P
all_ok P (Ok x) each = each x
all_ok P (Err e) each = tt

-- where an item of an array is
pub item_there : (body : Value) (v : Vec Value Global) (vs : List Value) (i : ℕ) (x : Value) → body ≡ Array v → vs ≡ v.items → i < length vs → x ≡ get_or vs i x → at i (view body) ≡ Some (view x)
item_there body v vs i x is same within here =
    ap (at i) (view_of_array body v vs is same) ∙ sym (get_item_within vs i x within) ∙ ap (λ y. Some (view y)) (sym here)

-- an object of none or of several members
pub not_headed : (m : BTreeMap (String Global) Value) → ¬ (length m.entries ≡ 1) → is_entry_headed (view (Object m)) ≡ false
not_headed m many = ap is_entry_headed (view-Object m) ∙ by m.entries many
  where
    by : (es : List Entry) → ¬ (length es ≡ 1) → is_entry_headed (object (members_view es)) ≡ false
    by [] many = refl
    by (e ∷ []) many = absurd (many refl)
    by (e ∷ f ∷ es) many = refl

-- an object of one member
pub one_member : (m : BTreeMap (String Global) Value) (k : String Global) (v : Value) (rest : List Entry) → m.entries ≡ (k, v) ∷ rest → length m.entries ≡ 1 → view (Object m) ≡ tagged (string_bytes k) (view v)
one_member m k v [] is one = view-Object m ∙ ap (λ es. object (members_view es)) is
one_member m k v (e ∷ rest) is one =
    let long : length m.entries ≡ length rest + 2 = ap length is ∙ omega arith in
    absurd (omega arith)

differs : (a key : List ℕ) → key ≢ a → bytes_eq a key ≡ false
differs a key other = false_from_ne_true (bytes_eq a key) (λ yes. other (sym ((bytes_eq-Decides a key).0 yes)))

neither : (a b : Bool) → a ≡ false → b ≡ false → (a || b) ≡ false
neither a b first second = ap (λ c. c || b) first ∙ second

-- a key that is none of an event
pub no_event_key : (key : List ℕ) → key ≢ codes "begin" → key ≢ codes "turn" → key ≢ codes "settle" → has_name event_keys key ≡ false
no_event_key key no_begin no_turn no_settle =
    neither _ _ (differs (codes "begin") key no_begin) (neither _ _ (differs (codes "turn") key no_turn) (neither _ _ (differs (codes "settle") key no_settle) refl))

-- a word that is none of the entries
pub no_entry_word : (word : List ℕ) → word ≢ codes "flush" → word ≢ codes "checkpoint" → word ≢ codes "look" → word ≢ codes "reopen" → word ≢ codes "show" → has_name entry_words word ≡ false
no_entry_word word no_flush no_checkpoint no_look no_reopen no_show =
    neither _ _ (differs (codes "flush") word no_flush) (neither _ _ (differs (codes "checkpoint") word no_checkpoint) (neither _ _ (differs (codes "look") word no_look)
    (neither _ _ (differs (codes "reopen") word no_reopen) (neither _ _ (differs (codes "show") word no_show) refl))))

-- a name that is none of the invariants of a store with four variables or more
pub no_name : (vars : ℕ) (name : List ℕ) → 4 ≤ vars → name ≢ codes "nonneg" → name ≢ codes "sum" → name ≢ codes "ordered" → false ≡ has_name (builtin_names vars) name
no_name vars name four no_nonneg no_sum no_ordered =
    let zero_there : nat_lt 0 vars ≡ true = grind (arith, nat_tests) in
    let one_there : nat_lt 1 vars ≡ true = grind (arith, nat_tests) in
    let two_there : nat_lt 2 vars ≡ true = grind (arith, nat_tests) in
    let three_there : nat_lt 3 vars ≡ true = grind (arith, nat_tests) in
    let not_first = differs (codes "nonneg") name no_nonneg in
    let not_second = differs (codes "sum") name no_sum in
    let not_third = differs (codes "ordered") name no_ordered in
    rw (zero_there, one_there, two_there, three_there, not_first, not_second, not_third) refl

-- inside of a part all is a part
pub part_behind : (steps : List PointerStep) → scope_behind part steps ≡ part
part_behind [] = refl
part_behind (step ∷ steps) = part_behind steps

-- the forms of transactions that hold others
pub form_of_seq : (txs : Vec Tx Global) → tx_form (Seq txs) ≡ tagged (codes "seq") (array_of (map tx_form txs.items))
form_of_seq txs = subst (λ tx. tx_form tx ≡ tagged (codes "seq") (array_of (map tx_form txs.items))) (rolls-Seq txs) (fold-roll-Tx Data level_form (level.Seq txs))

pub form_of_when : (reg : ℕ) (then other : Box Tx Global) → tx_form (When reg then other) ≡ tagged (codes "when") (array_of (natural reg ∷ tx_form then.value ∷ tx_form other.value ∷ []))
form_of_when reg then other = subst (λ tx. tx_form tx ≡ tagged (codes "when") (array_of (natural reg ∷ tx_form then.value ∷ tx_form other.value ∷ []))) (rolls-When reg then other) (fold-roll-Tx Data level_form (level.When reg then other))

pub form_of_or_else : (left right : Box Tx Global) → tx_form (OrElse left right) ≡ tagged (codes "orelse") (array_of (tx_form left.value ∷ tx_form right.value ∷ []))
form_of_or_else left right = subst (λ tx. tx_form tx ≡ tagged (codes "orelse") (array_of (tx_form left.value ∷ tx_form right.value ∷ []))) (rolls-OrElse left right) (fold-roll-Tx Data level_form (level.OrElse left right))

-- where the form of an item stands
pub form_there : {X : Type 0} (form : X → Data) (xs : List X) (i : ℕ) (x : X) → i < length xs → x ≡ get_or xs i x → at i (array_of (map form xs)) ≡ Some (form x)
form_there form [] i x within is = absurd (omega arith)
form_there form (y ∷ ys) zero x within is = ap (λ z. Some (form z)) (sym is)
form_there form (y ∷ ys) (suc i) x within is = form_there form ys i x (omega arith) is
