-- The rule of the history. It holds between any two steps.
use Rattle.std.specs.Prelude.{◌≡◌, ◌≢◌, ℕ, ◌^◌, ◌<◌, ◌≤◌, Bool, true, false, List, [], ◌∷◌, All, AllPairs}
use mathlib.Core.Option.{some}
use lib.ListN.{get_elem?}
use Rattle.atomic_table.specs.Table.{State}
use Rattle.tmem_effect.specs.Prefix.{IsPrefix}
use Rattle.tmem_effect.specs.declared.effect.Effect.{Effect}
use Rattle.tmem_spine.specs.declared.view.MarkedEffect.{MarkedEffect}
use Rattle.tmem_spine.specs.declared.view.Role.TheVariants.{Start, Core, Journal, Pass, Read}
use Rattle.tmem_spine.specs.declared.view.SeatView.{SeatView}
use Rattle.tmem_spine.specs.History.{count, marked_effect, HasAt}

-- What is committed, aimed at and durable, which seats are the core's and the journal's, how many passes were given out, and
-- whether the journal has its seat.
pub record History : Type 0 where
  pub committed : List MarkedEffect
  pub aimed : List MarkedEffect
  pub durable : List MarkedEffect
  pub core : ℕ
  pub journal : ℕ
  pub given : ℕ
  pub has_journal : Bool

-- The words count what is committed and what is durable. What is durable is a prefix of what the journal aims at, and that is
-- a prefix of what is committed. There are 32 passes at most.
pub record IsHistory (start : ℕ) (h : History) (words : List ℕ) : Type 0 where
  pub counts : words ≡ count start h.committed ∷ count start h.durable ∷ []
  pub room : count start h.committed < 2 ^ 64
  pub durable : IsPrefix h.durable h.aimed
  pub aimed : IsPrefix h.aimed h.committed
  pub few : h.given ≤ 32

-- a pass's own effects stand in what it knows at their numbers, which ascend, under its mark
pub record Owns (start mark : ℕ) (known : List MarkedEffect) (own : List (ℕ × Effect)) : Type 0 where
  pub ascend : AllPairs (λ (x y : ℕ × Effect). x.0 < y.0) own
  pub stand : All (λ (x : ℕ × Effect). HasAt start known x.0 (marked_effect mark x.1)) own

-- what a pass saw is a prefix of what it knows, in which its own effects stand
abbrev pub IsPass : ℕ → SeatView → Type 0
IsPass start v = IsPrefix v.seen v.known × Owns start v.mark v.known v.own

-- the first seat sees that nothing has happened
abbrev pub IsStart : ℕ → History → ℕ → SeatView → Type 0
IsStart start h id v = (id ≡ h.core) × (h.committed ≡ []) × (h.has_journal ≡ false) × (v.committed ≡ []) × (v.given ≡ h.given)

-- the core sees what is committed
abbrev pub IsCore : History → ℕ → SeatView → Type 0
IsCore h id v = (id ≡ h.core) × (v.committed ≡ h.committed) × (v.given ≡ h.given)

-- the journal sees what it aims at and what is durable
abbrev pub IsJournal : History → ℕ → SeatView → Type 0
IsJournal h id v = (id ≡ h.journal) × (h.has_journal ≡ true) × (v.aimed ≡ h.aimed) × (v.durable ≡ h.durable)

-- What a seat knows is so: what it knows is a prefix of what is committed, what it saw is a prefix of what is durable, and at
-- least so many are durable as it was trimmed to.
pub record Fits (start : ℕ) (h : History) (id : ℕ) (v : SeatView) : Type 0 where
  pub based : v.role ≢ Read → v.start ≡ start
  pub known : IsPrefix v.known h.committed
  pub seen : IsPrefix v.seen h.durable
  pub trimmed : v.trimmed ≤ count start h.durable
  pub is_start : v.role ≡ Start → IsStart start h id v
  pub is_core : v.role ≡ Core → IsCore h id v
  pub is_journal : v.role ≡ Journal → IsJournal h id v
  pub is_pass : v.role ≡ Pass → IsPass start v × (v.mark < h.given)

-- what each seat knows is so
abbrev pub Each : ℕ → History → List SeatView → Type 0
Each start h views = (id : ℕ) (v : SeatView) → get_elem? views id ≡ some v → Fits start h id v

-- no two passes have one mark
abbrev pub Apart : List SeatView → Type 0
Apart views = (i j : ℕ) (v w : SeatView) → get_elem? views i ≡ some v → get_elem? views j ≡ some w → v.role ≡ Pass → w.role ≡ Pass
    → v.mark ≡ w.mark → i ≡ j

-- there is one history, which the words count and of which each seat knows a part, and no two passes have one mark
pub record KeepsHistory (start : ℕ) (s : State ℕ SeatView) : Type 0 where
  pub history : History
  pub is_history : IsHistory start history s.words
  pub each : Each start history s.views
  pub apart : Apart s.views
