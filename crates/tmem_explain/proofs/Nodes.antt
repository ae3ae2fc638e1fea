-- What the nodes of a transaction come to, tree by tree.
use Rattle.std.proofs.Common.{◌≡◌, ℕ, ◌+◌, ◌<◌, ◌≤◌, ◌-◌, max, Bool, true, false, List, ◌∷◌, length, get_or, drop, sym, ap, ◌∙◌, arith}
use Rattle.std.specs.Prelude.{◌↔◌}
use Rattle.std.proofs.lemmas.Bool.{false≢true}
use Rattle.std.proofs.lemmas.List.{drop_more}
use Rattle.tmem_tree.proofs.Laws.{count_items, depth_items}
use Rattle.tmem_tree.specs.Limits.{count, depth}
use Rattle.tmem_tree.specs.declared.tx.Tx.{Tx}

-- the first of those that are left, and those behind it
pub count_items-drop_more : (test : Tx → Bool) (txs : List Tx) (i : ℕ) (tx : Tx) → i < length txs → tx ≡ get_or txs i tx → count_items test (drop i txs) ≡ count test tx + count_items test (drop (i + 1) txs)
count_items-drop_more test txs i tx within is =
    ap (count_items test) (drop_more txs i tx within ∙ ap (λ t. t ∷ drop (i + 1) txs) (sym is))

pub depth_items-drop_more : (txs : List Tx) (i : ℕ) (tx : Tx) → i < length txs → tx ≡ get_or txs i tx → depth_items (drop i txs) ≡ max (depth tx) (depth_items (drop (i + 1) txs))
depth_items-drop_more txs i tx within is =
    ap depth_items (drop_more txs i tx within ∙ ap (λ t. t ∷ drop (i + 1) txs) (sym is))

-- where the first of them is no deeper, the others decide
pub shallow_here : (P : Type 0) (n m k most : ℕ) (r : Bool) → n ≡ max m k → ((r ≡ true) ↔ (m ≤ most - 1)) → r ≡ true → (P ↔ (n + 1 ≤ most)) → P ↔ (k + 1 ≤ most)
shallow_here P n m k most r larger first is whole =
    let shallow = first.0 is in
    (λ p. omega (arith, larger, whole.0 p), λ others. whole.1 (omega (arith, larger, shallow, others)))

-- and where it is deeper, the whole is
pub deep_here : (P : Type 0) (n m k most : ℕ) (r : Bool) → n ≡ max m k → ((r ≡ true) ↔ (m ≤ most - 1)) → r ≡ false → (P ↔ (n + 1 ≤ most)) → (false ≡ true) ↔ P
deep_here P n m k most r larger first is whole = (
  λ no. absurd (false≢true no),
  λ p. absurd (false≢true (sym is ∙ first.1 (omega (arith, larger, whole.0 p)))),
)
