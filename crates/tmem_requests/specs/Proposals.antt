-- What an attempt that was made elsewhere has to keep, whatever the store.
use Rattle.std.specs.Prelude.{◌≤◌, ℕ, ℤ, List, length}
use Rattle.std.specs.Map.{keys_of}
use Rattle.tmem_fault.specs.Distinct.{AreDistinct}
use Rattle.tmem_effect.specs.Names.{AreApart}

-- No variable is read twice or written twice, no name is checked twice or retired twice, none is both checked and retired, and no
-- list is too long.
pub record IsProposal (reads writes : List (ℕ × ℤ)) (checks retires : List (List ℕ)) : Type 0 where
  pub few_reads : length reads ≤ 500
  pub few_writes : length writes ≤ 64
  pub few_checks : length checks ≤ 8
  pub few_retires : length retires ≤ 8
  pub read_once : AreDistinct (keys_of reads)
  pub written_once : AreDistinct (keys_of writes)
  pub checked_once : AreDistinct checks
  pub retired_once : AreDistinct retires
  pub apart : AreApart checks retires
