-- What a cell is made of where it is written.
use Rattle.std.specs.Prelude.{◌+◌, ℕ, List, length}
use Rattle.tmem_disk.specs.Disk.{SameOutside}
use Rattle.tmem_gate.specs.Gate.{IsClosed, IsOpenOver}

-- the cell of n bytes behind a gate is closed, and what is outside it is the same
pub record LeftClosed (at n : ℕ) (b c : List ℕ) : Type 0 where
  pub elsewhere : SameOutside at (1 + n) b c
  pub gate : IsClosed at c

-- the cell is open over these bytes, and what is outside it is the same, and is what a read gave: it was synced by then
pub record LeftOpen (at : ℕ) (bytes seen b c : List ℕ) : Type 0 where
  pub elsewhere : SameOutside at (1 + length bytes) b c
  pub as_seen : SameOutside at (1 + length bytes) seen c
  pub cell : IsOpenOver at bytes c
