-- The numbers of a tree where one of them is changed.
use Rattle.std.proofs.Common.{◌≡◌, ℕ, zero, suc, ◌-◌, ◌<◌, ◌≤◌, ℤ, nat_eq, nat_lt, if◌then◌else◌, List, [], ◌∷◌, ◌++◌, length, set, refl, sym, ap, ap₂, ◌∙◌, ⊎_elim, length-append, arith}
use Rattle.std.proofs.lemmas.Bool.{cases_lt, cond_below, cond_above}
use Rattle.std.proofs.lemmas.Bool.Decides.{nat_tests}
use Rattle.std.proofs.lemmas.List.{set-append_left, set-append_right, set_past}
use Rattle.tmem_tree.specs.declared.tx.Tx.{Tx, Row_of-Tx, end_of-Tx, more_of-Tx}
use Rattle.tmem_tree.specs.declared.tx.Tx.TheVariants.{Seq', Put, When', OrElse'}
use Rattle.tmem_tree.specs.Limits.{count, count_all, is_put}
use Rattle.tmem_tree.proofs.Among.{ap_either}
use Rattle.tmem_tree.specs.Numbers.{numbers, numbers_in, with_number, with_number_in}

mutual
  length-numbers : (tx : Tx) → length (numbers tx) ≡ count is_put tx
  length-numbers (Seq' shape txs) = omega (arith, length-numbers_in txs)
  length-numbers (When' reg p a q b) = omega (arith, length-append (numbers a) (numbers b), length-numbers a, length-numbers b)
  length-numbers (OrElse' p a q b) = omega (arith, length-append (numbers a) (numbers b), length-numbers a, length-numbers b)
  length-numbers tx = refl

  length-numbers_in : {m : _} (txs : Row_of-Tx m) → length (numbers_in txs) ≡ count_all is_put txs
  length-numbers_in end_of-Tx = refl
  length-numbers_in (more_of-Tx tx txs) = omega (arith, length-append (numbers tx) (numbers_in txs), length-numbers tx, length-numbers_in txs)

-- a write to one list behind another
set_parts : (xs ys : List ℤ) (m i : ℕ) (n : ℤ) → length xs ≡ m → set xs i n ++ (if nat_lt i m then ys else set ys (i - m) n) ≡ set (xs ++ ys) i n
set_parts xs ys m i n long =
    ⊎_elim
    (λ (below : i < m). ap (λ zs. set xs i n ++ zs) (sym (cond_below i m _ _ below)) ∙ sym (set-append_left xs ys i n (omega arith)))
    (λ (past : m ≤ i). ap₂ ◌++◌ (set_past xs i n (omega arith)) (sym (cond_above i m ys _ _ past refl)) ∙ sym (set-append_right xs ys m i n long past))
    (cases_lt i m)

changed_number : (index : ℕ) (n number : ℤ) → (if nat_eq index 0 then n else number) ∷ [] ≡ set (number ∷ []) index n
changed_number zero n number = refl
changed_number (suc index) n number = grind (arith, nat_tests)

mutual
  -- the one at the index is changed, and no other
  pub numbers_changed : (index : ℕ) (n : ℤ) (tx : Tx) → numbers (with_number index n tx) ≡ set (numbers tx) index n
  numbers_changed index n (Seq' shape txs) = numbers_in_changed index n txs
  numbers_changed index n (Put reg number) = changed_number index n number
  numbers_changed index n (When' reg p a q b) =
      ap₂ ◌++◌ (numbers_changed index n a) (ap_either numbers _ b _ _ (numbers_changed (index - count is_put a) n b))
      ∙ set_parts (numbers a) (numbers b) (count is_put a) index n (length-numbers a)
  numbers_changed index n (OrElse' p a q b) =
      ap₂ ◌++◌ (numbers_changed index n a) (ap_either numbers _ b _ _ (numbers_changed (index - count is_put a) n b))
      ∙ set_parts (numbers a) (numbers b) (count is_put a) index n (length-numbers a)
  numbers_changed index n tx = refl

  numbers_in_changed : {m : _} (index : ℕ) (n : ℤ) (txs : Row_of-Tx m) → numbers_in (with_number_in index n txs) ≡ set (numbers_in txs) index n
  numbers_in_changed index n end_of-Tx = refl
  numbers_in_changed index n (more_of-Tx tx txs) =
      ap₂ ◌++◌ (numbers_changed index n tx) (ap_either numbers_in _ txs _ _ (numbers_in_changed (index - count is_put tx) n txs))
      ∙ set_parts (numbers tx) (numbers_in txs) (count is_put tx) index n (length-numbers tx)
