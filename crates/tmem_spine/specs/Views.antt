-- What the core, the journal and a pass see of the history.
use Rattle.std.specs.Prelude.{ℕ, List, []}
use Rattle.atomic_table.specs.Seated.{TableId}
use Rattle.tmem_effect.specs.declared.effect.Effect.{Effect}
use Rattle.tmem_spine.specs.declared.view.MarkedEffect.{MarkedEffect}
use Rattle.tmem_spine.specs.declared.view.SeatView.{SeatView}

-- which spine it is: its table, and the count at which its history starts
pub record SpineName : Type 0 where
  pub table : TableId
  pub start : ℕ

-- the core sees what is committed, the number up to which it was trimmed, and how many passes were given out
pub record CoreRoleView : Type 0 where
  pub committed : List MarkedEffect
  pub trimmed : ℕ
  pub given : ℕ

-- the journal sees what it aims at, and what is durable
pub record JournalRoleView : Type 0 where
  pub aimed : List MarkedEffect
  pub durable : List MarkedEffect

-- a pass sees its mark, what it knows to be committed, what it saw to be durable, and its own effects with their numbers
pub record PassRoleView : Type 0 where
  pub mark : ℕ
  pub known : List MarkedEffect
  pub seen : List MarkedEffect
  pub own : List (ℕ × Effect)

abbrev pub core_role_view : SeatView → CoreRoleView
core_role_view v = record { committed = v.committed; trimmed = v.trimmed; given = v.given }

abbrev pub journal_role_view : SeatView → JournalRoleView
journal_role_view v = record { aimed = v.aimed; durable = v.durable }

abbrev pub pass_role_view : SeatView → PassRoleView
pass_role_view v = record { mark = v.mark; known = v.known; seen = v.seen; own = v.own }

-- the core before it has committed anything
abbrev pub new_core : ℕ → CoreRoleView
new_core start = record { committed = []; trimmed = start; given = 0 }

abbrev pub new_journal : JournalRoleView
new_journal = record { aimed = []; durable = [] }

-- a pass that knows nothing yet
abbrev pub new_pass : ℕ → PassRoleView
new_pass mark = record { mark = mark; known = []; seen = []; own = [] }
