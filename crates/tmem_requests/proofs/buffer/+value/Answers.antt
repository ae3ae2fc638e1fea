use Rattle.std.proofs.Common.{◌≡◌, ◌<◌, ℕ, List, [], ◌∷◌, ◌++◌, length, Some, None, string_bytes, ap, ◌∙◌, subst, arith, rules}
use Rattle.json.specs.Json.{after_end_array, read_key}
use Rattle.json.specs.Reads.{token_of}
use Rattle.json.specs.Token.{Token}
use Rattle.serde_json.specs.View.{items_view, members_view, view}
use Rattle.tmem_requests.specs.Tokens.{SpellsItems, SpellsMembers, SpellsValue}
use Rattle.tmem_requests.proofs.Spelled.{array_spelled, items_all, items_go_on, members_all, members_go_on, object_spelled, spelled_behind}
use Rattle.tmem_requests.proofs.buffer.+value.Goals as goal

pub array_in-items-preserved : goal.array_in-items-preserved
array_in-items-preserved t c =
    let l = c.items in
    let v = c.in_ok-item.item in
    let r = c.value_in.new.reader in
    let going : (after_end_array l.reader ≡ None) × (c.take_end_array.new.self ≡ l.reader) = grind arith in
    let pushed : c.push.new.self.items ≡ l.items.items ++ v ∷ [] = search rules in
    items_go_on c.in_ok-inner.inner c.args.reader.now l.items.items c.push.new.self.items l.reader v r l.invariant going.0
    (subst (λ (ts : List Token). SpellsValue c.in_ok-inner.inner ts (view v) r) going.1 c.in_ok-item.ensures.value) (subst (λ (ts : List Token). length r < length ts) going.1 c.in_ok-item.ensures.shorter) pushed

pub array_in-returns-clause-value : goal.array_in-returns-clause-value
array_in-returns-clause-value t c = λ old first.
    let below = c.in_ok-inner.ensures in
    let items = c.items.items.items in
    let end = c.take_end_array.new.self in
    array_spelled c.args.depth old c.args.reader.now end c.items.items first below.0
    (subst (λ (n : ℕ). SpellsItems n c.args.reader.now (items_view items) end) below.1
    (items_all c.in_ok-inner.inner c.args.reader.now items c.items.reader end c.items.invariant (grind arith)))

pub object_in-members-preserved : goal.object_in-members-preserved
object_in-members-preserved t c =
    let l = c.members in
    let k = string_bytes c.in-Some.key in
    let s = c.key_in.new.reader in
    let v = c.in_ok-member.member in
    let r = c.value_in.new.reader in
    let named : read_key l.reader ≡ Some (Some k, s) = grind arith in
    let less : length s < length l.reader = grind arith in
    let lesser = c.in_ok-member.ensures.shorter in
    let shorter : length r < length l.reader = omega arith in
    members_go_on c.in_ok-inner.inner c.args.reader.now l.members.entries c.put_member.new.members.entries l.reader k s v r l.invariant named c.in_ok-member.ensures.value shorter c.in_ok-put_member.ensures

pub object_in-returns-clause-value : goal.object_in-returns-clause-value
object_in-returns-clause-value t c = λ old first.
    let below = c.in_ok-inner.ensures in
    let entries = c.members.members.entries in
    let end = c.key_in.new.reader in
    object_spelled c.args.depth old c.args.reader.now end c.members.members first below.0
    (subst (λ (n : ℕ). SpellsMembers n c.args.reader.now (members_view entries) end) below.1
    (members_all c.in_ok-inner.inner c.args.reader.now entries c.members.reader end c.members.invariant (grind arith)))

pub value_in-returns-in_default-clause-value : goal.value_in-returns-in_default-clause-value
value_in-returns-in_default-clause-value t c =
    let first : c.args.reader.now ≡ token_of c.in_ok-token.token ∷ c.next.new.self = grind arith in
    c.value_alone.ensures c.args.depth c.args.reader.now c.next.new.self first

pub value_in-returns-in-BeginArray-clause-value : goal.value_in-returns-in-BeginArray-clause-value
value_in-returns-in-BeginArray-clause-value t c =
    let first : c.args.reader.now ≡ token_of c.in_ok-token.token ∷ c.next.new.self = grind arith in
    spelled_behind c.args.depth Token.begin_array c.args.reader.now c.next.new.self c.array_in.new.reader c.array_in.result c.array_in.ensures.value
    (first ∙ ap (λ k. token_of k ∷ c.next.new.self) c.in-BeginArray.is)

pub value_in-returns-in-BeginObject-clause-value : goal.value_in-returns-in-BeginObject-clause-value
value_in-returns-in-BeginObject-clause-value t c =
    let first : c.args.reader.now ≡ token_of c.in_ok-token.token ∷ c.next.new.self = grind arith in
    spelled_behind c.args.depth Token.begin_object c.args.reader.now c.next.new.self c.object_in.new.reader c.object_in.result c.object_in.ensures.value
    (first ∙ ap (λ k. token_of k ∷ c.next.new.self) c.in-BeginObject.is)

pub array_in-returns-in_err-inner-clause-value : goal.array_in-returns-in_err-inner-clause-value
array_in-returns-in_err-inner-clause-value t c = rw c.from_residual.ensures tt

pub array_in-returns-in_err-inner-clause-shorter : goal.array_in-returns-in_err-inner-clause-shorter
array_in-returns-in_err-inner-clause-shorter t c = rw c.from_residual.ensures tt

pub array_in-returns-in_err-item-clause-value : goal.array_in-returns-in_err-item-clause-value
array_in-returns-in_err-item-clause-value t c = rw c.from_residual-in_err-item.ensures tt

pub array_in-returns-in_err-item-clause-shorter : goal.array_in-returns-in_err-item-clause-shorter
array_in-returns-in_err-item-clause-shorter t c = rw c.from_residual-in_err-item.ensures tt

pub array_in-returns-in_err-ok-clause-value : goal.array_in-returns-in_err-ok-clause-value
array_in-returns-in_err-ok-clause-value t c = rw c.from_residual-in_err-ok.ensures tt

pub array_in-returns-in_err-ok-clause-shorter : goal.array_in-returns-in_err-ok-clause-shorter
array_in-returns-in_err-ok-clause-shorter t c = rw c.from_residual-in_err-ok.ensures tt

pub object_in-returns-in_err-inner-clause-value : goal.object_in-returns-in_err-inner-clause-value
object_in-returns-in_err-inner-clause-value t c = rw c.from_residual.ensures tt

pub object_in-returns-in_err-inner-clause-shorter : goal.object_in-returns-in_err-inner-clause-shorter
object_in-returns-in_err-inner-clause-shorter t c = rw c.from_residual.ensures tt

pub object_in-returns-in_err-key-clause-value : goal.object_in-returns-in_err-key-clause-value
object_in-returns-in_err-key-clause-value t c = rw c.from_residual-in_err-key.ensures tt

pub object_in-returns-in_err-key-clause-shorter : goal.object_in-returns-in_err-key-clause-shorter
object_in-returns-in_err-key-clause-shorter t c = rw c.from_residual-in_err-key.ensures tt

pub object_in-returns-in_err-member-clause-value : goal.object_in-returns-in_err-member-clause-value
object_in-returns-in_err-member-clause-value t c = rw c.from_residual-in_err-member.ensures tt

pub object_in-returns-in_err-member-clause-shorter : goal.object_in-returns-in_err-member-clause-shorter
object_in-returns-in_err-member-clause-shorter t c = rw c.from_residual-in_err-member.ensures tt

pub object_in-returns-in_err-put_member-clause-value :
    goal.object_in-returns-in_err-put_member-clause-value
object_in-returns-in_err-put_member-clause-value t c = rw c.from_residual-in_err-put_member.ensures tt

pub object_in-returns-in_err-put_member-clause-shorter :
    goal.object_in-returns-in_err-put_member-clause-shorter
object_in-returns-in_err-put_member-clause-shorter t c = rw c.from_residual-in_err-put_member.ensures tt

pub value_in-returns-in_err-token-clause-value : goal.value_in-returns-in_err-token-clause-value
value_in-returns-in_err-token-clause-value t c = rw c.from_residual.ensures tt

pub value_in-returns-in_err-token-clause-shorter : goal.value_in-returns-in_err-token-clause-shorter
value_in-returns-in_err-token-clause-shorter t c = rw c.from_residual.ensures tt
