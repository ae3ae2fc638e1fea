-- The Puts that a transaction begins with.
use Rattle.std.specs.Prelude.{ℕ, ◌+◌, Bool, true, false, ◌&&◌, if◌then◌else◌}
use Rattle.tmem_tree.specs.declared.tx.Tx.{Tx, Row_of-Tx, end_of-Tx, more_of-Tx}
use Rattle.tmem_tree.specs.declared.tx.Tx.TheVariants.{Seq', Put}

abbrev mutual
  -- whether a transaction is a Put, or a Seq of such alone
  pub is_puts : Tx → Bool
  is_puts (Put reg number) = true
  is_puts (Seq' shape txs) = are_puts txs
  is_puts tx = false

  pub are_puts : {m : _} → Row_of-Tx m → Bool
  are_puts end_of-Tx = true
  are_puts (more_of-Tx tx txs) = is_puts tx && are_puts txs

abbrev mutual
  -- how many Puts it begins with
  pub first_puts : Tx → ℕ
  first_puts (Put reg number) = 1
  first_puts (Seq' shape txs) = first_puts_in txs
  first_puts tx = 0

  pub first_puts_in : {m : _} → Row_of-Tx m → ℕ
  first_puts_in end_of-Tx = 0
  first_puts_in (more_of-Tx tx txs) = if is_puts tx then first_puts tx + first_puts_in txs else first_puts tx
