-- A tree of which each check has a signature keeps them where each of their names stays one.
use Rattle.std.proofs.Common.{◌≡◌, ℕ, ◌+◌, ◌<◌, Bool, true, false, not, List, [], ◌∷◌, ◌++◌, length, get_or, take, drop, refl, sym, ap, ◌∙◌, arith}
use Rattle.std.proofs.lemmas.List.{take_more, drop_more}
use Rattle.tmem_fault.specs.Name.{has_name}
use Rattle.tmem_tree.specs.declared.tx.Tx.{Tx}
use Rattle.tmem_tree.specs.declared.tx.Tx.TheVariants.{Check}
use Rattle.tmem_tree.specs.Limits.{count, is_check, lacks_signature}
use Rattle.tmem_tree.specs.Plans.{HasSignatures}
use Rattle.tmem_tree.proofs.Fewer.{none_left, both}
use Rattle.tmem_tree.proofs.Laws.{count_items}

none_left_in : (p q : Tx → Bool) → ((tx : Tx) → p tx ≡ false → q tx ≡ false) → (txs : List Tx) → count_items p txs ≡ 0 → count_items q txs ≡ 0
none_left_in p q fewer [] none = refl
none_left_in p q fewer (tx ∷ txs) none = both p q fewer _ _ _ _ (none_left p q fewer tx) (none_left_in p q fewer txs) none

fewer_lacking : (old new : List (List ℕ)) → ((name : List ℕ) → has_name old name ≡ true → has_name new name ≡ true) → (tx : Tx) → lacks_signature old tx ≡ false → lacks_signature new tx ≡ false
fewer_lacking old new kept (Check name) fine = known (has_name old name) (has_name new name) (kept name) fine
  where
    known : (a b : Bool) → (a ≡ true → b ≡ true) → not a ≡ false → not b ≡ false
    known true b then fine = ap not (then refl)
    known false b then fine = cc
fewer_lacking old new kept _ fine = refl

pub signatures_kept : (old new : List (List ℕ)) → ((name : List ℕ) → has_name old name ≡ true → has_name new name ≡ true) → (tx : Tx) → HasSignatures old tx → HasSignatures new tx
signatures_kept old new kept = none_left (lacks_signature old) (lacks_signature new) (fewer_lacking old new kept)

pub signatures_kept_in : (old new : List (List ℕ)) → ((name : List ℕ) → has_name old name ≡ true → has_name new name ≡ true) → (txs : List Tx) → count_items (lacks_signature old) txs ≡ 0 → count_items (lacks_signature new) txs ≡ 0
signatures_kept_in old new kept =
    none_left_in (lacks_signature old) (lacks_signature new) (fewer_lacking old new kept)

-- a tree that checks nothing needs no signature
only_checks : (names : List (List ℕ)) (tx : Tx) → is_check tx ≡ false → lacks_signature names tx ≡ false
only_checks names (Check name) is = cc
only_checks names _ is = refl

pub covered_without : (names : List (List ℕ)) (tx : Tx) → count is_check tx ≡ 0 → HasSignatures names tx
covered_without names = none_left is_check (lacks_signature names) (only_checks names)

-- those of one tree more
count_items-push : (test : Tx → Bool) (txs : List Tx) (tx : Tx) → count_items test (txs ++ tx ∷ []) ≡ count_items test txs + count test tx
count_items-push test [] tx = omega arith
count_items-push test (t ∷ ts) tx = omega (arith, count_items-push test ts tx)

pub count_items-take_more : (test : Tx → Bool) (txs : List Tx) (i : ℕ) (tx : Tx) → i < length txs → tx ≡ get_or txs i tx → count_items test (take (i + 1) txs) ≡ count_items test (take i txs) + count test tx
count_items-take_more test txs i tx within is =
    ap (count_items test) (take_more txs i tx within ∙ ap (λ t. take i txs ++ t ∷ []) (sym is))
    ∙ count_items-push test (take i txs) tx

pub count_items-drop_more : (test : Tx → Bool) (txs : List Tx) (i : ℕ) (tx : Tx) → i < length txs → tx ≡ get_or txs i tx → count_items test (drop i txs) ≡ count test tx + count_items test (drop (i + 1) txs)
count_items-drop_more test txs i tx within is =
    ap (count_items test) (drop_more txs i tx within ∙ ap (λ t. t ∷ drop (i + 1) txs) (sym is))
