-- Puts that take other numbers.
use Rattle.std.specs.Prelude.{ℕ, suc, ℤ, List, [], ◌∷◌}
use Rattle.tmem_tree.specs.declared.tx.Tx.{Tx}
use Rattle.tmem_tree.specs.Numbers.{with_number}

-- the Puts from this index on take the numbers, one after another, in the order in which they stand
abbrev pub with_numbers_from : ℕ → List ℤ → Tx → Tx
with_numbers_from index [] tx = tx
with_numbers_from index (n ∷ ns) tx = with_numbers_from (suc index) ns (with_number index n tx)

-- the first Puts take the numbers
abbrev pub with_numbers : List ℤ → Tx → Tx
with_numbers ns tx = with_numbers_from 0 ns tx
