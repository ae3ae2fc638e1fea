-- A Seq with another number, over the list of its trees.
use Rattle.std.proofs.Common.{◌≡◌, ℕ, ◌+◌, ◌-◌, ◌<◌, ◌≤◌, ℤ, Bool, true, false, nat_lt, if◌then◌else◌, List, [], ◌∷◌, ◌++◌, length, get_or, take, drop, set, refl, sym, ap, ap₂, ◌∙◌, zero-add, append_assoc, append-nil, take-append-drop, arith}
use Rattle.std.proofs.lemmas.Bool.{cond_below}
use Rattle.std.proofs.lemmas.List.{drop_more, drop_all, take_more_set, take_all, drop-set-lt, with_items_is}
use Rattle.std.proofs.Props.{props}
use Rattle.std.specs.Vec.{with_items}
use Rattle.std.specs.declared.vec.Vec.{Vec}
use Rattle.std.specs.declared.alloc.Global.{Global}
use mathlib.Core.HLevel.{is_prop→PathP}
use denote.Hole.Carrier.{shown}
use Rattle.tmem_tree.specs.declared.tx.Tx.{Tx, Row_of-Tx, end_of-Tx, more_of-Tx}
use Rattle.tmem_tree.specs.declared.tx.Tx.TheVariants.{Seq, Seq'}
use Rattle.tmem_tree.specs.declared.tx.Tx.TheBlock.{items-the_row-Tx, shape-the_row-Tx-0, hidden-the_row-Tx-0, shown-the_row-Tx-0, items_shown-the_row-Tx-0, items_hidden-the_row-Tx-0}
use Rattle.tmem_tree.specs.declared.tx.Tx.TheViews.{roll-Tx, roll-out-Tx, rolls-Seq, outs-Seq'}
use Rattle.tmem_tree.specs.Limits.{count, is_put}
use Rattle.tmem_tree.specs.Numbers.{with_number, with_number_in}
use Rattle.tmem_tree.proofs.Laws.{count_items, count-Seq}

-- with_number_in, over the list
abbrev pub with_number_among : ℕ → ℤ → List Tx → List Tx
with_number_among index n [] = []
with_number_among index n (tx ∷ txs) =
    with_number index n tx ∷ (if nat_lt index (count is_put tx) then txs else with_number_among (index - count is_put tx) n txs)

pub ap_either : {A B : Type 0} (f : A → B) (b : Bool) (x y : A) (z : B) → f y ≡ z → f (if b then x else y) ≡ (if b then f x else z)
ap_either f true x y z same = refl
ap_either f false x y z same = same

with_number_in-items : {m : _} (index : ℕ) (n : ℤ) (txs : Row_of-Tx m) → items-the_row-Tx m (with_number_in index n txs) ≡ with_number_among index n (items-the_row-Tx m txs)
with_number_in-items index n end_of-Tx = refl
with_number_in-items index n (more_of-Tx tx txs) =
    ap (λ us. with_number index n tx ∷ us) (ap_either (items-the_row-Tx _) _ txs _ _ (with_number_in-items (index - count is_put tx) n txs))

-- the same vector with these trees
abbrev with_trees : (v : Vec Tx Global) (txs : List Tx) → (v.len ≡ length txs) × (v.len ≤ v.cap) → Vec Tx Global
with_trees v txs ok = record { ptr = v.ptr; len = v.len; cap = v.cap; alloc = v.alloc; items = txs; ok = ok; small = v.small }

same_trees : (v : Vec Tx Global) (txs us : List Tx) → txs ≡ us → (p : (v.len ≡ length txs) × (v.len ≤ v.cap)) (q : (v.len ≡ length us) × (v.len ≤ v.cap)) → with_trees v txs p ≡ with_trees v us q
same_trees v txs us same p q = λ i. with_trees v (same i) (is_prop→PathP (λ j. (v.len ≡ length (same j)) × (v.len ≤ v.cap)) (λ j. hlevel props) p q i)

shown_trees : (v : Vec Tx Global) (txs : _) (us : List Tx) → length us ≡ v.len → items-the_row-Tx _ txs ≡ us → shown-the_row-Tx-0 (shape-the_row-Tx-0 v) txs ≡ with_items v us
unfolding shape-the_row-Tx-0 shown-the_row-Tx-0 shown
shown_trees v txs us long same =
    same_trees v _ _ (items_shown-the_row-Tx-0 (shape-the_row-Tx-0 v) txs ∙ same ∙ sym (with_items_is v us long)) _ _

-- the Seq whose trees, now in a list, become these
pub with_number-Seq : (index : ℕ) (n : ℤ) (tx : Tx) (v : Vec Tx Global) (now us : List Tx) → tx ≡ Seq v → now ≡ v.items → length us ≡ length now → with_number_among index n now ≡ us → with_number index n tx ≡ Seq (with_items v us)
with_number-Seq index n tx v now us is listed long same =
    let txs = with_number_in index n (hidden-the_row-Tx-0 v) in
    let items = with_number_in-items index n (hidden-the_row-Tx-0 v) ∙ ap (with_number_among index n) (items_hidden-the_row-Tx-0 v ∙ sym listed) ∙ same in
    ap (with_number index n) is
    ∙ sym (roll-out-Tx (Seq' (shape-the_row-Tx-0 v) txs))
    ∙ ap roll-Tx (outs-Seq' (shape-the_row-Tx-0 v) txs)
    ∙ rolls-Seq (shown-the_row-Tx-0 (shape-the_row-Tx-0 v) txs)
    ∙ ap Seq (shown_trees v txs us (long ∙ ap length listed ∙ sym v.ok.0) items)

-- the number of its Puts
pub puts-Seq : (tx : Tx) (v : Vec Tx Global) (now : List Tx) → tx ≡ Seq v → now ≡ v.items → count is_put tx ≡ count_items is_put now
puts-Seq tx v now is listed = ap (count is_put) is ∙ count-Seq is_put v ∙ zero-add _ ∙ ap (count_items is_put) (sym listed)

-- the index is in the tree at i, where those before it have left so much of it
pub last_turn : (left i : ℕ) (n : ℤ) (txs us : List Tx) (d : Tx) → i < length us → txs ≡ take i us ++ with_number_among left n (drop i us) → left < count is_put (get_or us i d) → txs ≡ set us i (with_number left n (get_or us i d))
last_turn left i n txs us d within so_far below =
    let new = with_number left n (get_or us i d) in
    so_far
    ∙ ap (λ vs. take i us ++ with_number_among left n vs) (drop_more us i d within)
    ∙ ap (λ vs. take i us ++ (new ∷ vs)) (sym (cond_below left (count is_put (get_or us i d)) _ _ below))
    ∙ sym (append_assoc (take i us) (new ∷ []) (drop (i + 1) us))
    ∙ ap₂ ◌++◌ (sym (take_more_set us i new within)) (sym (drop-set-lt (i + 1) us i new (omega arith)))
    ∙ take-append-drop (i + 1) (set us i new)

-- no tree is left
pub no_turn : (left i : ℕ) (n : ℤ) (txs us : List Tx) → length us ≤ i → txs ≡ take i us ++ with_number_among left n (drop i us) → txs ≡ us
no_turn left i n txs us past so_far =
    so_far ∙ ap (λ vs. take i us ++ with_number_among left n vs) (drop_all i us past) ∙ append-nil (take i us) ∙ take_all i us past
