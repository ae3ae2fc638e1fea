-- What the types of the seats keep.
use Rattle.std.specs.Prelude.{◌≡◌, ℕ, []}
use Rattle.atomic_table.specs.declared.shared.Seat.{Seat}
use Rattle.tmem_spine.specs.declared.view.Role.TheVariants.{Pass}
use Rattle.tmem_spine.specs.declared.view.SeatView.{SeatView}
use Rattle.tmem_spine.specs.History.{count}
use Rattle.tmem_spine.specs.Rule.{IsPass}
use Rattle.tmem_spine.specs.Views.{SpineName}

-- the seat is of this spine
pub record IsOf (name : SpineName) (s : Seat ℕ SeatView) : Type 0 where
  pub table : s.table_id ≡ name.table
  pub empty : s.me.1 ≡ []
  pub based : s.me.0.start ≡ name.start

-- what the seat of a pass knows, whose greatest answer is this number
pub record IsPassOf (name : SpineName) (most : ℕ) (v : SeatView) : Type 0 where
  pub role : v.role ≡ Pass
  pub saw : most ≡ count name.start v.seen
  pub is_pass : IsPass name.start v
