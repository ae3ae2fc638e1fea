-- Depth, choices and counts of a Seq, over the list of its trees; and what a look-up among signatures finds.
use Rattle.std.proofs.Common.{◌≡◌, ℕ, ◌+◌, Bool, max, List, [], ◌∷◌, refl, ap, rules}
use Rattle.std.specs.declared.vec.Vec.{Vec}
use Rattle.std.specs.declared.alloc.Global.{Global}
use Rattle.tmem_tree.specs.declared.tx.Tx.{Tx, Row_of-Tx, end_of-Tx, more_of-Tx}
use Rattle.tmem_tree.specs.declared.tx.Tx.TheVariants.{Seq}
use Rattle.tmem_tree.specs.declared.tx.Tx.TheBlock.{items-the_row-Tx}
use Rattle.tmem_tree.specs.declared.tx.Tx.TheViews.{the_lemmas}
use Rattle.tmem_tree.specs.Limits.{depth, depth_of_all, choices, choices_of_all, one_if, count, count_all}
pub use Rattle.tmem_tree.proofs.Fewer.{has_signatures}
pub use Rattle.tmem_tree.proofs.Found.{footprint_in-AreMeant, AreBelow-footprint_in}

-- how deep the deepest of these is, how many of its choices may stand in their first branch at once, and how many nodes of
-- them pass a test
abbrev pub depth_items : List Tx → ℕ
depth_items [] = 0
depth_items (tx ∷ txs) = max (depth tx) (depth_items txs)

abbrev pub choices_in : List Tx → ℕ
choices_in [] = 0
choices_in (tx ∷ txs) = max (choices tx) (choices_in txs)

abbrev pub count_items : (Tx → Bool) → List Tx → ℕ
count_items test [] = 0
count_items test (tx ∷ txs) = count test tx + count_items test txs

depth_of_all-items : {m : _} (txs : Row_of-Tx m) → depth_of_all txs ≡ depth_items (items-the_row-Tx m txs)
depth_of_all-items end_of-Tx = refl
depth_of_all-items (more_of-Tx tx txs) = ap (max (depth tx)) (depth_of_all-items txs)

choices_of_all-items : {m : _} (txs : Row_of-Tx m) → choices_of_all txs ≡ choices_in (items-the_row-Tx m txs)
choices_of_all-items end_of-Tx = refl
choices_of_all-items (more_of-Tx tx txs) = ap (max (choices tx)) (choices_of_all-items txs)

count_all-items : (test : Tx → Bool) {m : _} (txs : Row_of-Tx m) → count_all test txs ≡ count_items test (items-the_row-Tx m txs)
count_all-items test end_of-Tx = refl
count_all-items test (more_of-Tx tx txs) = ap (λ n. count test tx + n) (count_all-items test txs)

pub depth-Seq : (txs : Vec Tx Global) → depth (Seq txs) ≡ 1 + depth_items txs.items
depth-Seq txs = search (rules, the_lemmas, depth_of_all-items)

pub choices-Seq : (txs : Vec Tx Global) → choices (Seq txs) ≡ choices_in txs.items
choices-Seq txs = search (rules, the_lemmas, choices_of_all-items)

pub count-Seq : (test : Tx → Bool) (txs : Vec Tx Global) → count test (Seq txs) ≡ one_if (test (Seq txs)) + count_items test txs.items
count-Seq test txs = search (rules, the_lemmas, count_all-items test)
