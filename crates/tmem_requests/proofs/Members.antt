-- The keys of an object, one by one, and those of a request.
use Rattle.std.proofs.Common.{◌≡◌, ◌↔◌, ℕ, ℤ, Bool, true, false, ◌||◌, List, [], ◌∷◌, All, BTreeMap, String, Global, Option, Some, None, IsSome, Ordering, Less, Equal, Greater, nat_cmp, is_eq, string_bytes, bytes_eq, codes, if◌then◌else◌, refl, sym, ap, ◌∙◌, subst}
use Rattle.std.proofs.lemmas.Bool.{false≢true}
use Rattle.std.proofs.lemmas.List.Elements.{All-head, All-tail, All-cons, All-nil}
use Rattle.std.proofs.lemmas.Map.Text.{is_eq-slice_cmp}
use Rattle.std.proofs.lemmas.Slice.Eq.{bytes_eq-Decides}
use Rattle.std.specs.Cmp.Lexicographic.{slice_cmp}
use Rattle.std.specs.Ordering.{match_ordering}
use Rattle.serde_json.proofs.Views.{Entry, view-Object, member_here, member_later}
use Rattle.serde_json.specs.Data.{Data, Members, no_members, member}
use Rattle.serde_json.specs.Find.{get, get_member}
use Rattle.serde_json.specs.View.{view, members_view}
use Rattle.serde_json.specs.declared.value.Value.{Value, Object}
use Rattle.tmem_fault.specs.Name.{has_name}
use Rattle.tmem_forms.specs.Members.{HasOnly, member_keys}
use Rattle.tmem_requests.specs.Forms.{HasMember, IsInteger}
use Rattle.tmem_forms.proofs.Laws.{same_members}
use Rattle.tmem_requests.specs.Requests.{key_of, keys_by, IsBody, AsksBy, IsRequest}
use Rattle.tmem_requests.specs.declared.request.RequestBody.{RequestBody}
use Rattle.tmem_requests.specs.declared.request.RequestBody.TheVariants.{Do}

-- the keys beside which something is asked for
abbrev pub aside : List (List ℕ)
aside = codes "id" ∷ codes "numbers" ∷ []

abbrev IsKnown : List (List ℕ) → List ℕ → Type 0
IsKnown keys key = has_name keys key ≡ true

-- each key of these entries is one of these
abbrev pub Known : List (List ℕ) → List Entry → Type 0
Known keys es = All (IsKnown keys) (member_keys (members_view es))

pub known_none : (keys : List (List ℕ)) → Known keys []
known_none keys = All-nil (IsKnown keys)

pub known_more : (keys : List (List ℕ)) (e : Entry) (es : List Entry) → has_name keys (string_bytes e.0) ≡ true → Known keys (e ∷ es) ↔ Known keys es
known_more keys e es here = (
  All-tail (IsKnown keys) (string_bytes e.0) (member_keys (members_view es)),
  All-cons (IsKnown keys) (string_bytes e.0) (member_keys (members_view es)) here,
)

pub not_known : (keys : List (List ℕ)) (e : Entry) (es : List Entry) → has_name keys (string_bytes e.0) ≡ false → ¬ Known keys (e ∷ es)
not_known keys e es here all =
    false≢true (sym here ∙ All-head (IsKnown keys) (string_bytes e.0) (member_keys (members_view es)) all)

-- an object has only these keys where each of its entries has one of them
pub known_in : (keys : List (List ℕ)) (v : Value) (m : BTreeMap (String Global) Value) → v ≡ Object m → HasOnly keys (view v) ↔ Known keys m.entries
known_in keys v m is = (
  λ only. subst (λ (ms : Members). All (IsKnown keys) (member_keys ms)) (same_members _ _ (sym only.is_object ∙ ap view is ∙ view-Object m)) only.known,
  λ known. record { members = members_view m.entries; is_object = ap view is ∙ view-Object m; known = known },
)

-- one entry after another
pub known_step : (keys : List (List ℕ)) (P : Type 0) (es : List Entry) (e : Entry) (rest : List Entry) → es ≡ e ∷ rest → has_name keys (string_bytes e.0) ≡ true → P ↔ Known keys es → P ↔ Known keys rest
known_step keys P es e rest is here so =
    let more = known_more keys e rest here in (
      λ p. more.0 (subst (Known keys) is (so.0 p)),
      λ known. so.1 (subst (Known keys) (sym is) (more.1 known)),
    )

pub known_stop : (keys : List (List ℕ)) (P : Type 0) (es : List Entry) (e : Entry) (rest : List Entry) → es ≡ e ∷ rest → has_name keys (string_bytes e.0) ≡ false → P ↔ Known keys es → ¬ P
known_stop keys P es e rest is here so p = not_known keys e rest here (subst (Known keys) is (so.0 p))

pub known_end : (keys : List (List ℕ)) (P : Type 0) (es : List Entry) → es ≡ [] → P ↔ Known keys es → P
known_end keys P es is so = so.1 (subst (Known keys) (sym is) (known_none keys))

-- what is found at a key, entry by entry
pub skipped : (e : Entry) (es : List Entry) → has_name aside (string_bytes e.0) ≡ true → (k : List ℕ) → has_name aside k ≡ false → get_member k (members_view (e ∷ es)) ≡ get_member k (members_view es)
skipped e es here k other =
    member_later k e es (λ same. false≢true (sym other ∙ ap (has_name aside) same ∙ here))

pub skip_step : (all : Members) (es : List Entry) (e : Entry) (rest : List Entry) → es ≡ e ∷ rest → has_name aside (string_bytes e.0) ≡ true
    → ((k : List ℕ) → has_name aside k ≡ false → get_member k all ≡ get_member k (members_view es)) → (k : List ℕ) → has_name aside k ≡ false → get_member k all ≡ get_member k (members_view rest)
skip_step all es e rest is here so k other = so k other ∙ ap (λ fs. get_member k (members_view fs)) is ∙ skipped e rest here k other

pub found_first : (v : Value) (m : BTreeMap (String Global) Value) (k : List ℕ) (es : List Entry) (e : Entry) (rest : List Entry) → v ≡ Object m
    → get_member k (members_view m.entries) ≡ get_member k (members_view es) → es ≡ e ∷ rest → k ≡ string_bytes e.0 → get k (view v) ≡ Some (view e.1)
found_first v m k es e rest is so steps at =
    ap (get k) (ap view is ∙ view-Object m) ∙ so ∙ ap (λ fs. get_member k (members_view fs)) steps ∙ member_here k e rest at

pub none_beside : (v : Value) (m : BTreeMap (String Global) Value) (k : List ℕ) (es : List Entry) → v ≡ Object m
    → (has_name aside k ≡ false → get_member k (members_view m.entries) ≡ get_member k (members_view es)) → es ≡ [] → IsSome (get k (view v)) → has_name aside k ≡ true
none_beside v m k es is so end some = by (has_name aside k) refl
  where
    by : (b : Bool) → has_name aside k ≡ b → has_name aside k ≡ true
    by true beside = beside
    by false other =
        let none : get k (view v) ≡ None = ap (get k) (ap view is ∙ view-Object m) ∙ so other ∙ ap (λ fs. get_member k (members_view fs)) end in
        absurd (false≢true (subst IsSome none some))

-- ---- what an object with no other keys has

among_at : (P : List ℕ → Type 0) (k l : List ℕ) (e v : Data) (rest : Option Data) (o : Ordering) → slice_cmp nat_cmp k l ≡ o → match_ordering o rest (Some e) rest ≡ Some v → (rest ≡ Some v → P k) → P l → P k
among_at P k l e v rest Less is found later here = later found
among_at P k l e v rest Equal is found later here =
    subst P (sym ((bytes_eq-Decides k l).0 (sym (is_eq-slice_cmp k l) ∙ ap is_eq is))) here
among_at P k l e v rest Greater is found later here = later found

-- a key at which something stands is one of the keys
among : (P : List ℕ → Type 0) (k : List ℕ) (v : Data) (ms : Members) → get_member k ms ≡ Some v → All P (member_keys ms) → P k
among P k v no_members found all = cc
among P k v (member l e ms) found all =
    among_at P k l e v (get_member k ms) (slice_cmp nat_cmp k l) refl found (λ later. among P k v ms later (All-tail P l (member_keys ms) all)) (All-head P l (member_keys ms) all)

pub key_known : (keys : List (List ℕ)) (k : List ℕ) (d v : Data) → HasOnly keys d → get k d ≡ Some v → has_name keys k ≡ true
key_known keys k d v only found =
    among (IsKnown keys) k v only.members (sym (ap (get k) only.is_object) ∙ found) only.known

-- ---- the key by which a request asks

second_of_three : (a b c : Bool) → (a || (c || false)) ≡ false → (a || (b || (c || false))) ≡ true → b ≡ true
second_of_three true b c none some = cc
second_of_three false true c none some = refl
second_of_three false false true none some = cc
second_of_three false false false none some = cc

second_of_two : (a b c : Bool) → (a || (c || false)) ≡ false → (a || (b || false)) ≡ true → b ≡ true
second_of_two true b c none some = cc
second_of_two false true c none some = refl
second_of_two false false c none some = cc

beside_by : (key k : List ℕ) (b : Bool) → bytes_eq key (codes "run") ≡ b → has_name aside k ≡ false
    → has_name (if b then codes "id" ∷ codes "run" ∷ codes "numbers" ∷ [] else codes "id" ∷ key ∷ []) k ≡ true → key ≡ k
beside_by key k true is other among =
    (bytes_eq-Decides key (codes "run")).0 is
    ∙ (bytes_eq-Decides (codes "run") k).0 (second_of_three (bytes_eq (codes "id") k) (bytes_eq (codes "run") k) (bytes_eq (codes "numbers") k) other among)
beside_by key k false is other among =
    (bytes_eq-Decides key k).0 (second_of_two (bytes_eq (codes "id") k) (bytes_eq key k) (bytes_eq (codes "numbers") k) other among)

-- the only key beside the id and numbers is the one that is asked by
pub beside : (key k : List ℕ) → has_name aside k ≡ false → has_name (keys_by key) k ≡ true → key ≡ k
beside key k other among = beside_by key k (bytes_eq key (codes "run")) refl other among

pub not_aside : (ask : RequestBody) → has_name aside (key_of ask) ≡ false
not_aside (Do tx) = refl
not_aside ask = refl

-- ---- values that are no request

-- no request has this form
abbrev pub NoRequestIn : Data → Type 0
NoRequestIn d = (id : ℤ) (ask : RequestBody) → ¬ IsRequest id ask d

pub no_request_unnumbered : (d : Data) → ((id : ℤ) → ¬ HasMember (codes "id") (IsInteger id) d) → NoRequestIn d
no_request_unnumbered d none id ask is = none id is.numbered

some_is : (o : Option Data) (v : Data) → o ≡ Some v → IsSome o
some_is o v is = subst IsSome (sym is) refl

pub no_request_unasked : (d : Data) → ((k : List ℕ) → IsSome (get k d) → has_name aside k ≡ true) → NoRequestIn d
no_request_unasked d all id ask is =
    false≢true (sym (not_aside ask) ∙ all (key_of ask) (some_is (get (key_of ask) d) is.asked.value is.asked.stands))

pub asks_by : (d v : Data) (k : List ℕ) (id : ℤ) (ask : RequestBody) → get k d ≡ Some v → has_name aside k ≡ false → IsRequest id ask d → key_of ask ≡ k
asks_by d v k id ask found other is =
    beside (key_of ask) k other (key_known (keys_by (key_of ask)) k d v is.only found)

pub no_request_with_more : (d v : Data) (k : List ℕ) → get k d ≡ Some v → has_name aside k ≡ false → ¬ HasOnly (keys_by k) d → NoRequestIn d
no_request_with_more d v k found other more id ask is =
    more (subst (λ (key : List ℕ). HasOnly (keys_by key) d) (asks_by d v k id ask found other is) is.only)

pub same_value : (a b : Data) → Some a ≡ Some b → a ≡ b
same_value a b same = cc

pub no_request_of_none : (d v : Data) (k : List ℕ) → get k d ≡ Some v → has_name aside k ≡ false → ((ask : RequestBody) → ¬ AsksBy ask k v d) → NoRequestIn d
no_request_of_none d v k found other none id ask is =
    let key = asks_by d v k id ask found other is in
    let there : is.asked.value ≡ v = same_value is.asked.value v (sym is.asked.stands ∙ ap (λ (l : List ℕ). get l d) key ∙ found) in
    none ask (record { key = sym key; body = subst (λ (b : Data). IsBody ask b) there is.asked.is; numbers = is.numbers })

pub request_of : (d v : Data) (k : List ℕ) (id : ℤ) (ask : RequestBody) → get k d ≡ Some v → HasOnly (keys_by k) d → HasMember (codes "id") (IsInteger id) d → AsksBy ask k v d → IsRequest id ask d
request_of d v k id ask found only numbered asked =
    record {
      only = subst (λ (key : List ℕ). HasOnly (keys_by key) d) asked.key only;
      numbered = numbered;
      asked = record { value = v; stands = subst (λ (key : List ℕ). get key d ≡ Some v) asked.key found; is = asked.body };
      numbers = asked.numbers;
    }
