-- What a transaction holds: it is smaller, and its form stands in the transaction's.
use Rattle.std.proofs.Common.{◌≡◌, ℕ, ◌+◌, ◌<◌, ◌≤◌, List, [], ◌∷◌, ◌++◌, length, get_or, map, take, take_all, Vec, Box, Global, Result, IfOk, codes, refl, subst, sym, ap, ◌∙◌, rules}
use Rattle.std.specs.declared.alloc.AllocError.{AllocError}
use Rattle.std.proofs.lemmas.List.{map-append, take_more}
use Rattle.std.proofs.lemmas.Result.{IfOk-weaker}
use Rattle.tmem_tree.specs.declared.tx.Tx.{Tx}
use Rattle.tmem_tree.specs.declared.tx.Tx.TheVariants.{Seq, When, OrElse}
use Rattle.tmem_tree.specs.declared.tx.Tx.TheViews.{size-Tx}
use Rattle.tmem_tree.specs.declared.tx.Tx.TheFolds.{the_lemmas}
use Rattle.tmem_forms.specs.TxForms.{array_of, natural, tagged, tx_form}

item_smaller : (txs : Vec Tx Global) (i : ℕ) (tx : Tx) → i < length txs.items → tx ≡ get_or txs.items i tx → size-Tx tx < size-Tx (Seq txs)
item_smaller txs i tx within is = search (rules, the_lemmas)

then_smaller : (reg : ℕ) (a b : Box Tx Global) → size-Tx a.value < size-Tx (When reg a b)
then_smaller reg a b = search (rules, the_lemmas)

other_smaller : (reg : ℕ) (a b : Box Tx Global) → size-Tx b.value < size-Tx (When reg a b)
other_smaller reg a b = search (rules, the_lemmas)

left_smaller : (a b : Box Tx Global) → size-Tx a.value < size-Tx (OrElse a b)
left_smaller a b = search (rules, the_lemmas)

right_smaller : (a b : Box Tx Global) → size-Tx b.value < size-Tx (OrElse a b)
right_smaller a b = search (rules, the_lemmas)

falls : (part held whole same : Tx) (t : ℕ) → part ≡ held → whole ≡ same → size-Tx held < size-Tx same → size-Tx whole ≡ t → size-Tx part < t
falls part held whole same t at is less all =
    subst (λ (n : ℕ). size-Tx part < n) (ap size-Tx (sym is) ∙ all) (subst (λ (p : Tx). size-Tx p < size-Tx same) (sym at) less)

-- a recursion that goes to a part
pub falls_to_item : (whole : Tx) (txs : Vec Tx Global) (vs : List Tx) (i : ℕ) (tx : Tx) (t : ℕ) → whole ≡ Seq txs → vs ≡ txs.items → i < length vs → tx ≡ get_or vs i tx → size-Tx whole ≡ t → size-Tx tx < t
falls_to_item whole txs vs i tx t is same within at all =
    falls tx tx whole (Seq txs) t refl is (item_smaller txs i tx (subst (λ (l : List Tx). i < length l) same within) (subst (λ (l : List Tx). tx ≡ get_or l i tx) same at)) all

pub falls_to_then : (whole : Tx) (reg : ℕ) (a b : Box Tx Global) (tx : Tx) (t : ℕ) → whole ≡ When reg a b → tx ≡ a.value → size-Tx whole ≡ t → size-Tx tx < t
falls_to_then whole reg a b tx t is at all = falls tx a.value whole (When reg a b) t at is (then_smaller reg a b) all

pub falls_to_other : (whole : Tx) (reg : ℕ) (a b : Box Tx Global) (tx : Tx) (t : ℕ) → whole ≡ When reg a b → tx ≡ b.value → size-Tx whole ≡ t → size-Tx tx < t
falls_to_other whole reg a b tx t is at all = falls tx b.value whole (When reg a b) t at is (other_smaller reg a b) all

pub falls_to_left : (whole : Tx) (a b : Box Tx Global) (tx : Tx) (t : ℕ) → whole ≡ OrElse a b → tx ≡ a.value → size-Tx whole ≡ t → size-Tx tx < t
falls_to_left whole a b tx t is at all = falls tx a.value whole (OrElse a b) t at is (left_smaller a b) all

pub falls_to_right : (whole : Tx) (a b : Box Tx Global) (tx : Tx) (t : ℕ) → whole ≡ OrElse a b → tx ≡ b.value → size-Tx whole ≡ t → size-Tx tx < t
falls_to_right whole a b tx t is at all = falls tx b.value whole (OrElse a b) t at is (right_smaller a b) all

-- the forms of those that hold others
pub seq_form : (txs : Vec Tx Global) → tx_form (Seq txs) ≡ tagged (codes "seq") (array_of (map tx_form txs.items))
seq_form txs = search (rules, the_lemmas)

pub when_form : (reg : ℕ) (a b : Box Tx Global) → tx_form (When reg a b) ≡ tagged (codes "when") (array_of (natural reg ∷ tx_form a.value ∷ tx_form b.value ∷ []))
when_form reg a b = search (rules, the_lemmas)

pub or_else_form : (a b : Box Tx Global) → tx_form (OrElse a b) ≡ tagged (codes "orelse") (array_of (tx_form a.value ∷ tx_form b.value ∷ []))
or_else_form a b = search (rules, the_lemmas)

-- a copy of a Seq, When or OrElse has its form
pub same_seq : (whole : Tx) (txs all : Vec Tx Global) (vs : List Tx) (i : ℕ) → whole ≡ Seq txs → vs ≡ txs.items → length vs ≤ i → map tx_form all.items ≡ map tx_form (take i vs) → tx_form (Seq all) ≡ tx_form whole
same_seq whole txs all vs i is same far copied =
    seq_form all ∙ ap (λ ds. tagged (codes "seq") (array_of ds)) (copied ∙ ap (map tx_form) (take_all i vs far ∙ same)) ∙ sym (ap tx_form is ∙ seq_form txs)

pub same_when : (r : Result Tx AllocError) (whole : Tx) (reg : ℕ) (a b : Box Tx Global) (first second : Tx) → whole ≡ When reg a b → tx_form first ≡ tx_form a.value → tx_form second ≡ tx_form b.value
    → IfOk r (λ tx. tx_form tx ≡ tagged (codes "when") (array_of (natural reg ∷ tx_form first ∷ tx_form second ∷ []))) → IfOk r (λ tx. tx_form tx ≡ tx_form whole)
same_when r whole reg a b first second is one two =
    IfOk-weaker r _ _ (λ tx form. form ∙ ap (λ d. tagged (codes "when") (array_of (natural reg ∷ d ∷ tx_form second ∷ []))) one ∙ ap (λ d. tagged (codes "when") (array_of (natural reg ∷ tx_form a.value ∷ d ∷ []))) two ∙ sym (ap tx_form is ∙ when_form reg a b))

pub same_or_else : (r : Result Tx AllocError) (whole : Tx) (a b : Box Tx Global) (first second : Tx) → whole ≡ OrElse a b → tx_form first ≡ tx_form a.value → tx_form second ≡ tx_form b.value
    → IfOk r (λ tx. tx_form tx ≡ tagged (codes "orelse") (array_of (tx_form first ∷ tx_form second ∷ []))) → IfOk r (λ tx. tx_form tx ≡ tx_form whole)
same_or_else r whole a b first second is one two =
    IfOk-weaker r _ _ (λ tx form. form ∙ ap (λ d. tagged (codes "orelse") (array_of (d ∷ tx_form second ∷ []))) one ∙ ap (λ d. tagged (codes "orelse") (array_of (tx_form a.value ∷ d ∷ []))) two ∙ sym (ap tx_form is ∙ or_else_form a b))

-- one more tree was copied
pub forms_more : (xs ys vs : List Tx) (x : Tx) (i : ℕ) (v : Tx) → i < length vs → v ≡ get_or vs i v → tx_form x ≡ tx_form v → map tx_form xs ≡ map tx_form (take i vs) → ys ≡ xs ++ x ∷ [] → map tx_form ys ≡ map tx_form (take (i + 1) vs)
forms_more xs ys vs x i v within at same so_far pushed =
    ap (map tx_form) pushed ∙ map-append tx_form xs (x ∷ []) ∙ ap (λ l. l ++ tx_form x ∷ []) so_far
    ∙ ap (λ d. map tx_form (take i vs) ++ d ∷ []) (same ∙ ap tx_form at)
    ∙ sym (map-append tx_form (take i vs) (get_or vs i v ∷ [])) ∙ ap (map tx_form) (sym (take_more vs i v within))
