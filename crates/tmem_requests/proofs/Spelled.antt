-- A value as its first tokens spell it, the items of an array and the members of an object one after another.
use Rattle.std.proofs.Common.{◌≡◌, ℕ, ◌-◌, ◌<◌, ◌≤◌, List, [], ◌∷◌, ◌++◌, length, Bool, Option, IfSome, Some, None, option_map, option_and_then, String, Vec, BTreeMap, Global, string_bytes, refl, sym, ap, ◌∙◌, subst, arith, rules}
use Rattle.json.specs.Json as grammar
use Rattle.json.specs.Json.{parse_map, after_end_array, read_key, if_last}
use Rattle.json.specs.Token.{Token}
use Rattle.json.proofs.Grammar.{value_is, value-begin_array, value-begin_object, items_end, items_more, members_end, members_more}
use Rattle.serde_json.specs.Data.{Data, null, boolean, number, string, array, object, Items, no_items, item, Members, put}
use Rattle.serde_json.specs.Read.{of_json, of_items, of_members, number_of}
use Rattle.serde_json.specs.View.{view, number_view, items_view, members_view}
use Rattle.serde_json.specs.declared.number.Number.{Number}
use Rattle.serde_json.specs.declared.value.Value as value
use Rattle.serde_json.specs.declared.value.Value.{Value, the_lemmas}
use Rattle.serde_json.proofs.Views.{Entry, view-Array, view-Object}
use Rattle.tmem_requests.specs.Tokens.{SpellsItems, SpellsMembers, SpellsValue}

-- a value in any form
spelled : (depth : ℕ) (old new : List Token) (form : grammar.Json) (d e : Data) → grammar.value depth old ≡ Some (form, new) → of_json form ≡ Some d → e ≡ d → SpellsValue depth old e new
spelled depth old new form d e reads is same = record { form = form; reads = reads; is = is ∙ ap Some (sym same) }

-- ---- values of one token

view-Null : view value.Null ≡ null
view-Null = search (rules, the_lemmas)

view-Bool : (b : Bool) → view (value.Bool b) ≡ boolean b
view-Bool b = search (rules, the_lemmas)

view-String : (s : String Global) → view (value.String s) ≡ string (string_bytes s)
view-String s = search (rules, the_lemmas)

view-Number : (n : Number) → view (value.Number n) ≡ number (number_view n)
view-Number n = search (rules, the_lemmas)

pub null_spelled : (depth : ℕ) (old new : List Token) → old ≡ Token.null ∷ new → SpellsValue depth old (view value.Null) new
null_spelled depth old new first = spelled depth old new grammar.null null (view value.Null) (ap (grammar.value depth) first ∙ value_is depth _) refl view-Null

pub boolean_spelled : (depth : ℕ) (old new : List Token) (b : Bool) → old ≡ Token.boolean b ∷ new → SpellsValue depth old (view (value.Bool b)) new
boolean_spelled depth old new b first = spelled depth old new (grammar.boolean b) (boolean b) (view (value.Bool b)) (ap (grammar.value depth) first ∙ value_is depth _) refl (view-Bool b)

pub string_spelled : (depth : ℕ) (old new : List Token) (s : String Global) → old ≡ Token.string (string_bytes s) ∷ new → SpellsValue depth old (view (value.String s)) new
string_spelled depth old new s first = spelled depth old new (grammar.string (string_bytes s)) (string (string_bytes s)) (view (value.String s)) (ap (grammar.value depth) first ∙ value_is depth _) refl (view-String s)

pub number_spelled : (depth : ℕ) (old new : List Token) (n : Number) (s : List ℕ) → old ≡ Token.number s ∷ new → number_of s ≡ Some (number_view n) → SpellsValue depth old (view (value.Number n)) new
number_spelled depth old new n s first is =
    spelled depth old new (grammar.number s) (number (number_view n)) (view (value.Number n)) (ap (grammar.value depth) first ∙ value_is depth _) (ap (option_map number) is) (view-Number n)

-- ---- arrays and objects

pub array_spelled : (depth : ℕ) (old after new : List Token) (v : Vec Value Global) → old ≡ Token.begin_array ∷ after → 0 < depth → SpellsItems (depth - 1) after (items_view v.items) new
    → SpellsValue depth old (view (value.Array v)) new
array_spelled depth old after new v first deep h =
    spelled depth old new (grammar.array h.form) (array (items_view v.items)) (view (value.Array v)) (ap (grammar.value depth) first ∙ value-begin_array depth after deep ∙ ap (parse_map grammar.array) h.reads)
    (ap (option_map array) h.are) (view-Array v)

pub object_spelled : (depth : ℕ) (old after new : List Token) (m : BTreeMap (String Global) Value) → old ≡ Token.begin_object ∷ after → 0 < depth → SpellsMembers (depth - 1) after (members_view m.entries) new
    → SpellsValue depth old (view (value.Object m)) new
object_spelled depth old after new m first deep h =
    spelled depth old new (grammar.object h.form) (object (members_view m.entries)) (view (value.Object m)) (ap (grammar.value depth) first ∙ value-begin_object depth after deep ∙ ap (parse_map grammar.object) h.reads)
    (ap (option_map object) h.are) (view-Object m)

-- what comes behind its first token
pub spelled_behind : (depth : ℕ) (first : Token) (old after new : List Token) (r : Option Value) → IfSome r (λ value. (all : List Token) → all ≡ first ∷ after → SpellsValue depth all (view value) new) → old ≡ first ∷ after
    → IfSome r (λ value. SpellsValue depth old (view value) new)
spelled_behind depth first old after new (Some value) spells is = spells old is
spelled_behind depth first old after new None spells is = tt

-- ---- the items so far

-- the items, with those that were found before them
abbrev pub before : List Value → Items → Items
before [] rest = rest
before (v ∷ vs) rest = item (view v) (before vs rest)

before_none : (vs : List Value) → before vs no_items ≡ items_view vs
before_none [] = refl
before_none (v ∷ vs) = ap (item (view v)) (before_none vs)

before_pushed : (vs : List Value) (v : Value) (rest : Items) → before vs (item (view v) rest) ≡ before (vs ++ v ∷ []) rest
before_pushed [] v rest = refl
before_pushed (w ∷ vs) v rest = ap (item (view w)) (before_pushed vs v rest)

-- Of the tokens `all`, the items that were found are read, and `left` follows: whatever items these spell come after them.
pub record ItemsSoFar (depth : ℕ) (all : List Token) (found : List Value) (left : List Token) : Type 0 where
  pub turns : ℕ
  pub enough : length left ≤ turns
  pub shorter : length left ≤ length all
  pub goes_on : (js : grammar.Items) (ds : Items) (rest : List Token) → grammar.items (grammar.value depth) turns left ≡ Some (js, rest) → of_items js ≡ Some ds → SpellsItems depth all (before found ds) rest

pub items_begin : (depth : ℕ) (all : List Token) (found : List Value) → found ≡ [] → ItemsSoFar depth all found all
items_begin depth all found none = record {
  turns = length all;
  enough = omega arith;
  shorter = omega arith;
  goes_on = λ js ds rest reads are. record { form = js; reads = reads; are = are ∙ ap (λ vs. Some (before vs ds)) (sym none) };
}

pub items_go_on : (depth : ℕ) (all : List Token) (found more : List Value) (left : List Token) (v : Value) (rest : List Token) → ItemsSoFar depth all found left → after_end_array left ≡ None
    → SpellsValue depth left (view v) rest → length rest < length left → more ≡ found ++ v ∷ [] → ItemsSoFar depth all more rest
items_go_on depth all found more left v rest h going one less pushed = record {
  turns = h.turns - 1;
  enough = omega (arith, h.enough);
  shorter = omega (arith, h.shorter);
  goes_on = λ js ds end reads are.
      let some : 0 < h.turns = omega (arith, h.enough) in
      subst (λ ds. SpellsItems depth all ds end) (before_pushed found v ds ∙ ap (λ vs. before vs ds) (sym pushed))
      (h.goes_on (grammar.item one.form js) (item (view v) ds) end
      (items_more (grammar.value depth) h.turns left rest one.form some going one.reads ∙ ap (parse_map (grammar.item one.form)) reads)
      (ap (option_and_then (λ d. option_map (item d) (of_items js))) one.is ∙ ap (option_map (item (view v))) are));
}

pub items_all : (depth : ℕ) (all : List Token) (found : List Value) (left rest : List Token) → ItemsSoFar depth all found left → after_end_array left ≡ Some rest → SpellsItems depth all (items_view found) rest
items_all depth all found left rest h end =
    subst (λ ds. SpellsItems depth all ds rest) (before_none found) (h.goes_on grammar.no_items no_items rest (items_end (grammar.value depth) h.turns left rest h.enough end) refl)

-- ---- the members so far

-- the same of the members of an object, of which each key is found once
pub record MembersSoFar (depth : ℕ) (all : List Token) (found : List Entry) (left : List Token) : Type 0 where
  pub turns : ℕ
  pub enough : length left ≤ turns
  pub shorter : length left ≤ length all
  pub goes_on : (js : grammar.Members) (ds : Members) (rest : List Token) → grammar.members (grammar.value depth) turns left ≡ Some (js, rest) → of_members js (members_view found) ≡ Some ds → SpellsMembers depth all ds rest

pub members_begin : (depth : ℕ) (all : List Token) (found : List Entry) → found ≡ [] → MembersSoFar depth all found all
members_begin depth all found none = record {
  turns = length all;
  enough = omega arith;
  shorter = omega arith;
  goes_on = λ js ds rest reads are. record { form = js; reads = reads; are = ap (λ es. of_members js (members_view es)) (sym none) ∙ are };
}

pub members_go_on : (depth : ℕ) (all : List Token) (found more : List Entry) (left : List Token) (key : List ℕ) (after : List Token) (v : Value) (rest : List Token) → MembersSoFar depth all found left
    → read_key left ≡ Some (Some key, after) → SpellsValue depth after (view v) rest → length rest < length left → members_view more ≡ put key (view v) (members_view found)
    → MembersSoFar depth all more rest
members_go_on depth all found more left key after v rest h named one less with_it = record {
  turns = h.turns - 1;
  enough = omega (arith, h.enough);
  shorter = omega (arith, h.shorter);
  goes_on = λ js ds end reads are.
      let some : 0 < h.turns = omega (arith, h.enough) in
      h.goes_on (grammar.member key one.form js) ds end
      (members_more (grammar.value depth) h.turns key left after rest one.form some named one.reads ∙ ap (parse_map (grammar.member key one.form)) reads)
      (ap (option_and_then (λ d. of_members js (put key d (members_view found)))) one.is ∙ subst (λ ms. of_members js ms ≡ Some ds) with_it are);
}

pub members_all : (depth : ℕ) (all : List Token) (found : List Entry) (left rest : List Token) → MembersSoFar depth all found left → read_key left ≡ Some (None, rest) → SpellsMembers depth all (members_view found) rest
members_all depth all found left rest h end = h.goes_on grammar.no_members (members_view found) rest (members_end (grammar.value depth) h.turns left rest h.enough end) refl
