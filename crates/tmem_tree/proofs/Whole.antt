-- What a sequence comes to: itself, and the trees in it.
use Rattle.std.proofs.Common.{◌≡◌, ℕ, ◌+◌, ◌<◌, Bool, max, List, ◌∷◌, length, get_or, drop, Vec, Global, sym, ap, ◌∙◌}
use Rattle.std.proofs.lemmas.List.{drop_more}
use Rattle.tmem_tree.specs.declared.tx.Tx.{Tx}
use Rattle.tmem_tree.specs.declared.tx.Tx.TheVariants.{Seq}
use Rattle.tmem_tree.specs.Limits.{depth, one_if, count}
use Rattle.tmem_tree.proofs.Laws.{depth_items, count_items, depth-Seq, count-Seq}

-- the depth and the counts of a sequence, from its items
pub record HasAll (tx : Tx) (items : List Tx) : Type 0 where
  pub levels : depth tx ≡ 1 + depth_items items
  pub counts : (test : Tx → Bool) → count test tx ≡ one_if (test tx) + count_items test items

pub seq_all : (tx : Tx) (txs : Vec Tx Global) (items : List Tx) → tx ≡ Seq txs → items ≡ txs.items → HasAll tx items
seq_all tx txs items is listed = record {
  levels = ap depth is ∙ depth-Seq txs ∙ ap (λ (l : List Tx). 1 + depth_items l) (sym listed);
  counts = λ test. ap (count test) is ∙ count-Seq test txs ∙ ap (λ (l : List Tx). one_if (test (Seq txs)) + count_items test l) (sym listed) ∙ ap (λ (t : Tx). one_if (test t) + count_items test items) (sym is);
}

-- those from an index on are the tree there, and those behind it
pub depth_items-drop_more : (txs : List Tx) (i : ℕ) (tx : Tx) → i < length txs → tx ≡ get_or txs i tx → depth_items (drop i txs) ≡ max (depth tx) (depth_items (drop (i + 1) txs))
depth_items-drop_more txs i tx within is =
    ap depth_items (drop_more txs i tx within ∙ ap (λ (t : Tx). t ∷ drop (i + 1) txs) (sym is))
