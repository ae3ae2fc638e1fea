-- The room of an effect, from place to place.
use Rattle.std.proofs.Common.{◌≡◌, ℕ, zero, suc, ◌+◌, ◌<◌, ◌≤◌, Bool, true, false, List, [], ◌∷◌, drop, length, refl, sym, ap, ◌∙◌, subst, arith, rules}
use Rattle.std.specs.declared.vec.Vec.{Vec}
use Rattle.std.specs.declared.alloc.Global.{Global}
use Rattle.std.specs.declared.boxed.Box.{Box}
use Rattle.tmem_effect.specs.declared.effect.Effect.{Effect}
use Rattle.tmem_tree.specs.declared.tx.Tx.{Tx, Row_of-Tx, end_of-Tx, more_of-Tx}
use Rattle.tmem_tree.specs.declared.tx.Tx.TheVariants.{Seq, When, OrElse, When', OrElse'}
use Rattle.tmem_tree.specs.declared.tx.Tx.TheVariants as tree
use Rattle.tmem_tree.specs.declared.tx.Tx.TheBlock.{items-the_row-Tx}
use Rattle.tmem_tree.specs.declared.tx.Tx.TheViews.{the_lemmas}
use Rattle.tmem_tree.specs.Limits.{depth, choices, count, count_all, has_bad_register}
use Rattle.tmem_tree.specs.Visited.{Ask}
use Rattle.tmem_tree.proofs.Laws.{count_items, count-Seq}
use Rattle.tmem_tentative.specs.declared.save.Save.{Save}
use Rattle.tmem_tentative.proofs.EvalFits.{below_if}
use Rattle.tmem_tentative.specs.Logs.{Out, Went, Stopped, Gave_way, Left}
use Rattle.tmem_tentative.specs.Places.{HasRoom, AllHaveRoom, LeavesRoom, Enters, EntersChoice, IsLeaf, IsPathBehind, with_child}

count_all-items : (test : Tx → Bool) {m : _} (txs : Row_of-Tx m) → count_all test txs ≡ count_items test (items-the_row-Tx m txs)
count_all-items test end_of-Tx = refl
count_all-items test (more_of-Tx tx txs) = ap (λ n. count test tx + n) (count_all-items test txs)

-- with the child before it, it is short enough for the tree around
pub path_grows : (out : Out) (d e child : ℕ) (path : List ℕ) → IsPathBehind out d path → d < e → IsPathBehind out e (with_child out child path)
path_grows Went d e child path h lt = h
path_grows (Stopped ask) d e child path h lt = omega arith
path_grows Gave_way d e child path h lt = h
path_grows (Left how) d e child path h lt = h

-- it is short enough where the depth is within that
pub path_within : (out : Out) (d e : ℕ) (path : List ℕ) → IsPathBehind out d path → d ≤ e → IsPathBehind out e path
path_within Went d e path h le = h
path_within (Stopped ask) d e path h le = omega (arith, h, le)
path_within Gave_way d e path h le = h
path_within (Left how) d e path h le = h

-- no branch of a tree is deeper than it
pub within_then : (reg : ℕ) (a b : Box Tx Global) {limit : ℕ} → depth (When reg a b) ≤ limit → depth a.value ≤ limit
within_then reg a b h = omega (arith, h)

pub within_other : (reg : ℕ) (a b : Box Tx Global) {limit : ℕ} → depth (When reg a b) ≤ limit → depth b.value ≤ limit
within_other reg a b h = omega (arith, h)

pub within_first : (a b : Box Tx Global) {limit : ℕ} → depth (OrElse a b) ≤ limit → depth a.value ≤ limit
within_first a b h = omega (arith, h)

pub within_second : (a b : Box Tx Global) {limit : ℕ} → depth (OrElse a b) ≤ limit → depth b.value ≤ limit
within_second a b h = omega (arith, h)

-- there is a save for a choice
pub choice_saved : (a b : Box Tx Global) {saves : ℕ} → choices (OrElse a b) ≤ saves → 0 < saves
choice_saved a b h = omega (arith, h)

-- the register of a When
pub when_register : (reg : ℕ) (a b : Box Tx Global) → count has_bad_register (When reg a b) ≡ 0 → reg < 16
when_register reg a b h = below_if 16 reg (omega (arith, h))

module _ (test : Tx → Bool) (limit : ℕ) (size : Effect → ℕ) where
  -- the first from a place inside it, and the others from their starts
  abbrev pub RoomIn : ℕ → List Tx → List ℕ → List Save → ℕ → Type 0
  RoomIn rest [] path saves n = (path ≡ []) × (n + rest ≤ limit)
  RoomIn rest (tx ∷ txs) path saves n = HasRoom test limit size (count_items test txs + rest) path tx saves n

  abbrev pub RoomAt : ℕ → List Tx → List ℕ → List Save → ℕ → Type 0
  RoomAt rest [] path saves n = ⊥
  RoomAt rest (tx ∷ txs) path saves n = HasRoom test limit size (count_items test txs + rest) path tx saves n

  all_at : (rest i : ℕ) (path : List ℕ) {k : _} (txs : Row_of-Tx k) (saves : List Save) (n : ℕ) → AllHaveRoom test limit size rest i path txs saves n ≡ RoomAt rest (drop i (items-the_row-Tx k txs)) path saves n
  all_at rest zero path end_of-Tx saves n = refl
  all_at rest (suc i) path end_of-Tx saves n = refl
  all_at rest zero path (more_of-Tx tx txs) saves n = ap (λ c. HasRoom test limit size (c + rest) path tx saves n) (count_all-items test txs)
  all_at rest (suc i) path (more_of-Tx tx txs) saves n = all_at rest i path txs saves n

  at-Seq : (rest i : ℕ) (path : List ℕ) (txs : Vec Tx Global) (saves : List Save) (n : ℕ) → HasRoom test limit size rest (i ∷ path) (Seq txs) saves n ≡ RoomAt rest (drop i txs.items) path saves n
  at-Seq rest i path txs saves n = search (rules, the_lemmas, all_at rest i path)

  at_in : (rest : ℕ) (txs : List Tx) (path : List ℕ) (saves : List Save) (n : ℕ) → RoomAt rest txs path saves n → RoomIn rest txs path saves n
  at_in rest [] path saves n h = absurd h
  at_in rest (tx ∷ txs) path saves n h = h

  start_in : (rest : ℕ) (txs : List Tx) (saves : List Save) (n : ℕ) → n + count_items test txs + rest ≤ limit → RoomIn rest txs [] saves n
  start_in rest [] saves n h = (refl, omega arith)
  start_in rest (tx ∷ txs) saves n h = omega arith

  pub seq_room : (rest : ℕ) (txs : Vec Tx Global) (path : List ℕ) (from : ℕ) (left : List ℕ) (saves : List Save) (n : ℕ) → Enters path 0 from left → HasRoom test limit size rest path (Seq txs) saves n → RoomIn rest (drop from txs.items) left saves n
  seq_room rest txs [] from left saves n e h =
      subst (λ k. RoomIn rest (drop k txs.items) left saves n) (sym e.0) (subst (λ l. RoomIn rest txs.items l saves n) (sym e.1) (start_in rest txs.items saves n (omega (arith, h, count-Seq test txs))))
  seq_room rest txs (i ∷ path) from left saves n e h =
      subst (λ k. RoomIn rest (drop k txs.items) left saves n) (sym e.0) (subst (λ l. RoomIn rest (drop i txs.items) l saves n) (sym e.1) (at_in rest (drop i txs.items) path saves n (subst (λ (T : Type 0). T) (at-Seq rest i path txs saves n) h)))

  -- the place is inside the list
  seq_within : (rest : ℕ) (txs : List Tx) (i : ℕ) (path : List ℕ) (saves : List Save) (n : ℕ) → RoomAt rest (drop i txs) path saves n → i < length txs
  seq_within rest [] zero path saves n h = absurd h
  seq_within rest [] (suc i) path saves n h = absurd h
  seq_within rest (tx ∷ txs) zero path saves n h = omega arith
  seq_within rest (tx ∷ txs) (suc i) path saves n h = let l : i < length txs = seq_within rest txs i path saves n h in omega arith

  pub seq_from : (rest : ℕ) (txs : Vec Tx Global) (path : List ℕ) (from : ℕ) (left : List ℕ) (saves : List Save) (n : ℕ) → Enters path 0 from left → HasRoom test limit size rest path (Seq txs) saves n → from ≤ length txs.items
  seq_from rest txs [] from left saves n e h = omega (arith, e.0)
  seq_from rest txs (i ∷ path) from left saves n e h =
      let l : i < length txs.items = seq_within rest txs.items i path saves n (subst (λ (T : Type 0). T) (at-Seq rest i path txs saves n) h) in
      omega (arith, e.0)

  -- behind a tree of a Seq that has not ended normally
  pub seq_leaves : (rest k : ℕ) (txs : Vec Tx Global) (tx : Tx) (others : List Tx) (out : Out) (path : List ℕ) (saves : List Save) (effect : Effect) → drop k txs.items ≡ tx ∷ others → (out ≡ Went → ⊥)
      → LeavesRoom test limit size (count_items test others + rest) out path tx saves effect → LeavesRoom test limit size rest out (with_child out k path) (Seq txs) saves effect
  seq_leaves rest k txs tx others Went path saves effect here some h = absurd (some refl)
  seq_leaves rest k txs tx others (Stopped ask) path saves effect here some h =
      subst (λ (T : Type 0). T) (sym (at-Seq rest k path txs saves (size effect))) (subst (λ ts. RoomAt rest ts path saves (size effect)) (sym here) h)
  seq_leaves rest k txs tx others Gave_way path saves effect here some h = h
  seq_leaves rest k txs tx others (Left how) path saves effect here some h = h

  -- behind one that has
  pub seq_next : (rest : ℕ) (tx : Tx) (others : List Tx) (path : List ℕ) (saves : List Save) (effect : Effect) → path ≡ [] → LeavesRoom test limit size (count_items test others + rest) Went path tx saves effect → RoomIn rest others path saves (size effect)
  seq_next rest tx others path saves effect none h =
      subst (λ l. RoomIn rest others l saves (size effect)) (sym none) (start_in rest others saves (size effect) (omega (arith, h)))

  -- a leaf has no place but its start
  pub leaf_start : (rest : ℕ) (path : List ℕ) (tx : Tx) (saves : List Save) (n : ℕ) → IsLeaf tx → HasRoom test limit size rest path tx saves n → path ≡ []
  leaf_start rest [] tx saves n leaf h = refl
  leaf_start rest (i ∷ path) (tree.Seq' shape txs) saves n leaf h = absurd leaf
  leaf_start rest (i ∷ path) (When' reg p a q b) saves n leaf h = absurd leaf
  leaf_start rest (i ∷ path) (OrElse' p a q b) saves n leaf h = absurd leaf
  leaf_start rest (i ∷ path) tx saves n leaf h = absurd h

  -- that has as much room
  pub leaf_room : (rest : ℕ) (path : List ℕ) (tx : Tx) (saves : List Save) (n : ℕ) → IsLeaf tx → HasRoom test limit size rest path tx saves n → n + count test tx ≤ limit
  leaf_room rest path tx saves n leaf h = let h' : n + count test tx + rest ≤ limit = subst (λ l. HasRoom test limit size rest l tx saves n) (leaf_start rest path tx saves n leaf h) h in omega (arith, h')

  -- a When
  pub when_then_room : (rest reg : ℕ) (a b : Tx) (p q : _) (path : List ℕ) (start : ℕ) (left : List ℕ) (saves : List Save) (n : ℕ) → Enters path start 0 left → HasRoom test limit size rest path (When' reg p a q b) saves n → HasRoom test limit size rest left a saves n
  when_then_room rest reg a b p q [] start left saves n e h = subst (λ l. HasRoom test limit size rest l a saves n) (sym e.1) (omega (arith, h))
  when_then_room rest reg a b p q (zero ∷ path) start left saves n e h = subst (λ l. HasRoom test limit size rest l a saves n) (sym e.1) h
  when_then_room rest reg a b p q (suc i ∷ path) start left saves n e h = let no : zero ≡ suc i = e.0 in cc

  pub when_other_room : (rest reg : ℕ) (a b : Tx) (p q : _) (path : List ℕ) (start child : ℕ) (left : List ℕ) (saves : List Save) (n : ℕ) → Enters path start child left → (child ≡ 0 → ⊥) → HasRoom test limit size rest path (When' reg p a q b) saves n → HasRoom test limit size rest left b saves n
  when_other_room rest reg a b p q [] start child left saves n e some h = subst (λ l. HasRoom test limit size rest l b saves n) (sym e.1) (omega (arith, h))
  when_other_room rest reg a b p q (zero ∷ path) start child left saves n e some h = absurd (some e.0)
  when_other_room rest reg a b p q (suc i ∷ path) start child left saves n e some h = subst (λ l. HasRoom test limit size rest l b saves n) (sym e.1) h

  -- a choice
  pub second_room : (rest : ℕ) (a b : Tx) (p q : _) (path left : List ℕ) (save : Save) (saves saves' : List Save) (n : ℕ) → EntersChoice path save saves false left saves' → HasRoom test limit size rest path (OrElse' p a q b) saves n → HasRoom test limit size rest left b saves' n
  second_room rest a b p q [] left save saves saves' n e h = let no : false ≡ true = e.0 in cc
  second_room rest a b p q (zero ∷ path) left save saves saves' n e h = let no : false ≡ true = e.0 in cc
  second_room rest a b p q (suc i ∷ path) left save saves saves' n e h =
      subst (λ l. HasRoom test limit size rest l b saves' n) (sym e.1) (subst (λ l. HasRoom test limit size rest path b l n) (sym e.2) h)

  pub first_room : (rest : ℕ) (a b : Tx) (p q : _) (path left : List ℕ) (save0 save : Save) (saves inner : List Save) → 0 < length saves → EntersChoice path save0 saves true left (save ∷ inner) → (n : ℕ) → n ≡ size save0.effect
      → HasRoom test limit size rest path (OrElse' p a q b) saves n → HasRoom test limit size rest left a inner n × (size save.effect + count test b + rest ≤ limit)
  first_room rest a b p q [] left save0 save [] inner some e n is h = absurd (omega arith)
  first_room rest a b p q [] left save0 save (s ∷ saves) inner some e n is h =
      let head : save ≡ save0 = cc in
      let same : size save.effect ≡ n = ap (λ (k : Save). size k.effect) head ∙ sym is in
      (subst (λ l. HasRoom test limit size rest l a inner n) (sym e.1) (omega (arith, h)), omega (arith, h, same))
  first_room rest a b p q (zero ∷ path) left save0 save saves inner some e n is h =
      let h' : HasRoom test limit size rest (zero ∷ path) (OrElse' p a q b) (save ∷ inner) n = subst (λ l. HasRoom test limit size rest (zero ∷ path) (OrElse' p a q b) l n) (sym e.2) h in
      (subst (λ l. HasRoom test limit size rest l a inner n) (sym e.1) h'.0, h'.1)
  first_room rest a b p q (suc i ∷ path) left save0 save saves inner some e n is h = let no : true ≡ false = e.0 in cc

  -- behind its first branch that has not retried
  pub first_leaves : (rest : ℕ) (a b : Tx) (p q : _) (out : Out) (path : List ℕ) (save : Save) (inner : List Save) (effect : Effect) → (out ≡ Gave_way → ⊥) → size save.effect + count test b + rest ≤ limit
      → LeavesRoom test limit size rest out path a inner effect → LeavesRoom test limit size rest out (with_child out 0 path) (OrElse' p a q b) (save ∷ inner) effect
  first_leaves rest a b p q Went path save inner effect some kept h = h
  first_leaves rest a b p q (Stopped ask) path save inner effect some kept h = (h, kept)
  first_leaves rest a b p q Gave_way path save inner effect some kept h = absurd (some refl)
  first_leaves rest a b p q (Left how) path save inner effect some kept h = h

  -- behind a child whose tree has that much room where the child has
  pub child_leaves : (rest child : ℕ) (tx inside : Tx) (out : Out) (path : List ℕ) (saves : List Save) (effect : Effect)
      → ((path : List ℕ) (n : ℕ) → HasRoom test limit size rest path inside saves n → HasRoom test limit size rest (child ∷ path) tx saves n)
      → LeavesRoom test limit size rest out path inside saves effect → LeavesRoom test limit size rest out (with_child out child path) tx saves effect
  child_leaves rest child tx inside Went path saves effect same h = h
  child_leaves rest child tx inside (Stopped ask) path saves effect same h = same path (size effect) h
  child_leaves rest child tx inside Gave_way path saves effect same h = h
  child_leaves rest child tx inside (Left how) path saves effect same h = h

  -- behind a leaf
  pub leaf_leaves : (rest : ℕ) (out : Out) (tx : Tx) (path : List ℕ) (saves : List Save) (before after : Effect) → path ≡ [] → size after ≤ size before + count test tx → ((ask : Ask) → out ≡ Stopped ask → after ≡ before)
      → HasRoom test limit size rest path tx saves (size before) → LeavesRoom test limit size rest out path tx saves after
  leaf_leaves rest Went tx path saves before after none more stays h =
      let h' : size before + count test tx + rest ≤ limit = subst (λ l. HasRoom test limit size rest l tx saves (size before)) none h in omega arith
  leaf_leaves rest (Stopped ask) tx path saves before after none more stays h =
      subst (λ e. HasRoom test limit size rest path tx saves (size e)) (sym (stays ask refl)) h
  leaf_leaves rest Gave_way tx path saves before after none more stays h = tt
  leaf_leaves rest (Left how) tx path saves before after none more stays h = tt

-- the path behind a leaf
pub leaf_path : (out : Out) (d : ℕ) (path : List ℕ) → path ≡ [] → 0 < d → IsPathBehind out d path
leaf_path Went d path none some = none
leaf_path (Stopped ask) d path none some = subst (λ l. length l < d) (sym none) some
leaf_path Gave_way d path none some = none
leaf_path (Left how) d path none some = none

pub leaf_depth : (tx : Tx) → IsLeaf tx → 0 < depth tx
leaf_depth (tree.Seq' shape txs) leaf = absurd leaf
leaf_depth tx leaf = omega arith
