-- The numbers of a transaction, and the same transaction with another one.
use Rattle.std.specs.Prelude.{ℕ, ◌-◌, ℤ, List, [], ◌∷◌, ◌++◌, nat_eq, nat_lt, if◌then◌else◌}
use Rattle.tmem_tree.specs.declared.tx.Tx.{Tx, Row_of-Tx, end_of-Tx, more_of-Tx}
use Rattle.tmem_tree.specs.declared.tx.Tx.TheVariants.{Seq', Put, When', OrElse'}
use Rattle.tmem_tree.specs.Limits.{count, is_put}

abbrev mutual
  -- those of its Puts, in the order in which they stand
  pub numbers : Tx → List ℤ
  numbers (Seq' shape txs) = numbers_in txs
  numbers (Put reg number) = number ∷ []
  numbers (When' reg p a q b) = numbers a ++ numbers b
  numbers (OrElse' p a q b) = numbers a ++ numbers b
  numbers tx = []

  pub numbers_in : {m : _} → Row_of-Tx m → List ℤ
  numbers_in end_of-Tx = []
  numbers_in (more_of-Tx tx txs) = numbers tx ++ numbers_in txs

abbrev mutual
  -- its Puts are counted from 0 in the order in which they stand, and the one at the index takes the number
  pub with_number : ℕ → ℤ → Tx → Tx
  with_number index n (Seq' shape txs) = Seq' shape (with_number_in index n txs)
  with_number index n (Put reg number) = Put reg (if nat_eq index 0 then n else number)
  with_number index n (When' reg p a q b) =
      When' reg p (with_number index n a) q (if nat_lt index (count is_put a) then b else with_number (index - count is_put a) n b)
  with_number index n (OrElse' p a q b) =
      OrElse' p (with_number index n a) q (if nat_lt index (count is_put a) then b else with_number (index - count is_put a) n b)
  with_number index n tx = tx

  pub with_number_in : {m : _} → ℕ → ℤ → Row_of-Tx m → Row_of-Tx m
  with_number_in index n end_of-Tx = end_of-Tx
  with_number_in index n (more_of-Tx tx txs) =
      more_of-Tx (with_number index n tx) (if nat_lt index (count is_put tx) then txs else with_number_in (index - count is_put tx) n txs)
