-- The history: the committed effects after an opening state, in order, each under the mark of a pass.
use Rattle.std.specs.Prelude.{◌≡◌, ℕ, ◌+◌, ◌-◌, ◌≤◌, nat_lt, if◌then◌else◌, List, length, map, Some, slice_get}
use Rattle.tmem_effect.specs.declared.effect.Effect.{Effect}
use Rattle.tmem_spine.specs.declared.view.MarkedEffect.{MarkedEffect}

-- an effect under a mark
abbrev pub marked_effect : ℕ → Effect → MarkedEffect
marked_effect mark effect = record { mark = mark; effect = effect }

-- the effects of a history, without the marks
abbrev pub unmarked : List MarkedEffect → List Effect
unmarked log = map (λ (e : MarkedEffect). e.effect) log

-- how many transactions there are after a history that starts at this count
abbrev pub count : ℕ → List MarkedEffect → ℕ
count start log = start + length log

-- this effect stands in the history, under its mark, at this number
abbrev pub HasAt : ℕ → List MarkedEffect → ℕ → MarkedEffect → Type 0
HasAt start log number e = (start ≤ number) × (slice_get log (number - start) ≡ Some e)

-- the effect is among a pass's own ones, with this number
abbrev pub Has : List (ℕ × Effect) → ℕ → Effect → Type 0
Has own number effect = (k : ℕ) × (slice_get own k ≡ Some (number, effect))

-- the longer of two histories
abbrev pub longer : List MarkedEffect → List MarkedEffect → List MarkedEffect
longer xs ys = if nat_lt (length xs) (length ys) then ys else xs
