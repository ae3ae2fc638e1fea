-- Puts that take numbers, one after another.
use Rattle.std.proofs.Common.{◌≡◌, ℕ, suc, ◌+◌, ◌<◌, ◌≤◌, ℤ, Bool, true, false, List, [], ◌∷◌, ◌++◌, length, take, drop, get_or, set, sym, ap, ◌∙◌, arith, length-append, length-take-le}
use Rattle.std.proofs.lemmas.List.{take_more}
use Rattle.std.specs.Prelude.{if◌then◌else◌}
use Rattle.std.proofs.lemmas.List.Edits.{sets, sets-eq}
use Rattle.tmem_tree.specs.declared.tx.Tx.{Tx, Row_of-Tx, end_of-Tx, more_of-Tx}
use Rattle.tmem_tree.specs.declared.tx.Tx.TheVariants.{Seq', Put}
use Rattle.tmem_tree.specs.Numbers.{numbers, numbers_in, with_number}
use Rattle.tmem_desk.specs.Leading.{is_puts, first_puts, first_puts_in}
use Rattle.tmem_desk.specs.Numbering.{with_numbers_from, with_numbers}

-- one number more
with_numbers_from-push : (index : ℕ) (ns : List ℤ) (n : ℤ) (tx : Tx) → with_numbers_from index (ns ++ n ∷ []) tx ≡ with_number (index + length ns) n (with_numbers_from index ns tx)
with_numbers_from-push index [] n tx = ap (λ (k : ℕ). with_number k n tx) (omega arith)
with_numbers_from-push index (m ∷ ms) n tx =
    with_numbers_from-push (suc index) ms n (with_number index m tx)
    ∙ ap (λ (k : ℕ). with_number k n (with_numbers_from (suc index) ms (with_number index m tx))) (omega arith)

pub with_numbers-push : (ns : List ℤ) (n : ℤ) (tx : Tx) → with_numbers (ns ++ n ∷ []) tx ≡ with_number (length ns) n (with_numbers ns tx)
with_numbers-push ns n tx = with_numbers_from-push 0 ns n tx ∙ ap (λ (k : ℕ). with_number k n (with_numbers ns tx)) (omega arith)

-- the same of a list
sets_push : (l : List ℤ) (i : ℕ) (ns : List ℤ) (n : ℤ) → sets l i (ns ++ n ∷ []) ≡ set (sets l i ns) (i + length ns) n
sets_push l i [] n = ap (λ (k : ℕ). set l k n) (omega arith)
sets_push l i (m ∷ ms) n = sets_push (set l i m) (suc i) ms n ∙ ap (λ (k : ℕ). set (sets (set l i m) (suc i) ms) k n) (omega arith)

pub sets-push : (l ns : List ℤ) (n : ℤ) → sets l 0 (ns ++ n ∷ []) ≡ set (sets l 0 ns) (length ns) n
sets-push l ns n = sets_push l 0 ns n ∙ ap (λ (k : ℕ). set (sets l 0 ns) k n) (omega arith)

-- all of them stand before the rest
pub sets_first : (l ns : List ℤ) → length ns ≤ length l → sets l 0 ns ≡ ns ++ drop (length ns) l
sets_first l ns few = sets-eq ns l 0 (omega (arith, few)) ∙ ap (λ (k : ℕ). ns ++ drop k l) (omega arith)

-- the next number of a list is taken, at its index
pub tree_more : (index : ℕ) (ns : List ℤ) (n d : ℤ) (old tx new : Tx) → index < length ns → n ≡ get_or ns index d → tx ≡ with_numbers (take index ns) old → new ≡ with_number index n tx → new ≡ with_numbers (take (index + 1) ns) old
tree_more index ns n d old tx new there is so_far next =
    next ∙ ap (with_number index n) so_far ∙ ap (λ (k : ℕ). with_number k n (with_numbers (take index ns) old)) (sym (length-take-le index ns (omega (arith, there))))
    ∙ sym (with_numbers-push (take index ns) n old) ∙ ap (λ (m : ℤ). with_numbers (take index ns ++ m ∷ []) old) is ∙ ap (λ (l : List ℤ). with_numbers l old) (sym (take_more ns index d there))

pub list_more : (index : ℕ) (ns : List ℤ) (n d : ℤ) (old xs new : List ℤ) → index < length ns → n ≡ get_or ns index d → xs ≡ sets old 0 (take index ns) → new ≡ set xs index n → new ≡ sets old 0 (take (index + 1) ns)
list_more index ns n d old xs new there is so_far next =
    next ∙ ap (λ (l : List ℤ). set l index n) so_far ∙ ap (λ (k : ℕ). set (sets old 0 (take index ns)) k n) (sym (length-take-le index ns (omega (arith, there))))
    ∙ sym (sets-push old (take index ns) n) ∙ ap (λ (m : ℤ). sets old 0 (take index ns ++ m ∷ [])) is ∙ ap (λ (l : List ℤ). sets old 0 l) (sym (take_more ns index d there))

-- of the first list, or of both
few_of : (b : Bool) (m n : ℕ) (xs ys : List ℤ) → m ≤ length xs → n ≤ length ys → (if b then m + n else m) ≤ length (xs ++ ys)
few_of true m n xs ys few more = omega (arith, few, more, length-append xs ys)
few_of false m n xs ys few more = omega (arith, few, length-append xs ys)

mutual
  -- a transaction begins with no more Puts than it has
  pub few_first : (tx : Tx) → first_puts tx ≤ length (numbers tx)
  few_first (Put reg number) = omega arith
  few_first (Seq' shape txs) = few_first_in txs
  few_first tx = omega arith

  few_first_in : {m : _} (txs : Row_of-Tx m) → first_puts_in txs ≤ length (numbers_in txs)
  few_first_in end_of-Tx = omega arith
  few_first_in (more_of-Tx tx txs) = few_of (is_puts tx) (first_puts tx) (first_puts_in txs) (numbers tx) (numbers_in txs) (few_first tx) (few_first_in txs)
