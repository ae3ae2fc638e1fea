-- The six kinds of step: what each tells its seat. A step relates the view before, the number found and the view after.
use Rattle.std.specs.Prelude.{◌≡◌, ℕ, ◌-◌, ◌≤◌, [], ◌∷◌, ◌++◌, take}
use Rattle.atomic_table.specs.Table.{Me, Step}
use Rattle.tmem_effect.specs.Prefix.{IsPrefix}
use Rattle.tmem_effect.specs.declared.effect.Effect.{Effect}
use Rattle.tmem_spine.specs.declared.view.MarkedEffect.{MarkedEffect}
use Rattle.tmem_spine.specs.declared.view.SeatView.{SeatView}
use Rattle.tmem_spine.specs.History.{count, longer}
use Rattle.tmem_spine.specs.Rule.{IsPass}

abbrev pub Kind : Type 1
Kind = SeatView → ℕ → SeatView → Type 0

-- a step on the table tells so
abbrev pub told : Kind → Step ℕ → Me ℕ SeatView → ℕ → Me ℕ SeatView → Type 0
told kind st m n m' = (m'.1 ≡ m.1) × kind m.0 n m'.0

-- accept: the core raises the committed word by one, for one effect
abbrev pub Accepts : MarkedEffect → Kind
Accepts e v n w = (w ≡ record v { committed = v.committed ++ e ∷ [] }) × (n ≡ count v.start v.committed)

-- aim: the journal aims at what it was told is committed, up to a number. What is durable is a prefix of that.
abbrev pub Aims : ℕ → Kind
Aims upto v n w = (w ≡ record v { aimed = take (upto - v.start) v.known }) × IsPrefix v.durable w.aimed

-- aim, where the journal stays with what it aims at: what it was told of what is durable is so, and what it was told is
-- committed is a prefix of what is durable, or goes on from it
abbrev pub Stays : Kind
Stays v n w =
    (w ≡ v) × IsPrefix v.seen v.durable × (v.trimmed ≤ count v.start v.durable) × IsPrefix v.known (longer v.known v.durable)
    × IsPrefix v.durable (longer v.known v.durable)

-- durable: the journal raises the durable word. What it aims at is durable.
abbrev pub Hardens : Kind
Hardens v n w = w ≡ record v { durable = v.aimed }

-- trim: the core learns the durable word, which is not less than before, nor than what it was told is durable. What it was
-- told is a prefix of what is committed.
abbrev pub Trims : Kind
Trims v n w =
    (w ≡ record v { trimmed = n }) × (v.trimmed ≤ n) × (count v.start v.seen ≤ n) × (n ≤ count v.start v.committed)
    × IsPrefix v.known v.committed × IsPrefix v.seen v.committed

-- look: a pass sees all that is durable
abbrev pub Looks : Kind
Looks v n w =
    (w ≡ record v { seen = w.seen; known = longer v.known w.seen }) × (n ≡ count v.start w.seen) × IsPrefix v.seen w.seen
    × IsPrefix v.known w.known × IsPass v.start w

-- meet, beside the core: a pass knows all that is committed
abbrev pub meets_core : SeatView → SeatView → SeatView
meets_core v w = record v { known = w.known }

-- the same, and an effect there is its own
abbrev pub gains : ℕ → Effect → SeatView → SeatView → SeatView
gains number effect v w = record v { known = w.known; own = v.own ++ (number, effect) ∷ [] }

-- meet, beside the journal: a pass knows at least what is durable
abbrev pub meets_journal : SeatView → SeatView → SeatView
meets_journal v w = record v { known = longer v.known w.known }
