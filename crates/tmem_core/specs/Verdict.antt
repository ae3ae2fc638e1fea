-- What a plan is answered on a state, and the serial order of the plans that are committed.
use Rattle.std.specs.Prelude.{ℕ, ℤ, pos, List, [], ◌∷◌, ◌++◌, Option, Some, None, slice_index_or, if◌then◌else◌}
use Rattle.tmem_effect.specs.Names.{without_names}
use Rattle.tmem_effect.specs.State.{State, no_effect, is_empty, apply, fold}
use Rattle.tmem_effect.specs.declared.effect.Effect.{Effect}
use Rattle.tmem_tree.specs.declared.tx.Tx.{Tx}
use Rattle.tmem_tree.specs.Run as run
use Rattle.tmem_tree.specs.Run.{run, start}
use Rattle.tmem_invariants.specs.Meanings.{first_false}
use Rattle.tmem_tree.specs.declared.settled.Settled.{Settled}
use Rattle.tmem_tree.specs.declared.settled.Settled.TheVariants.{Committed, Seen, Retry, Aborted, Refused}
use Rattle.tmem_core.specs.Program.{Program}

-- the map that a plan is run on: the value of each variable of a state
abbrev pub map_of : State → ℕ → ℤ
map_of s var = slice_index_or s.values var (pos 0)

-- the first name, in the table's order, that is registered and that the effect does not retire, or that it proposes, and that
-- is false of the map that the effect makes
abbrev pub first_broken : Program → State → Effect → Option (List ℕ)
first_broken p s e = first_false p.tests p.names (without_names s.names e.retired) e.names (apply s e).values

-- refused with a broken name, if there is one
abbrev pub unless_broken : Option (List ℕ) → Settled → Settled
unless_broken (Some name) v = Refused name
unless_broken None v = v

-- the answer to a run that ended normally: what it changes is committed under the count of those before it, where every
-- invariant is true of the new map
abbrev pub verdict_normal : Program → State → Effect → List ℤ → Settled
verdict_normal p s e registers =
    unless_broken (first_broken p s e) (if is_empty e then Seen s.count registers else Committed s.count registers)

-- the answer to a run on a state, that ended so
abbrev pub verdict_on : Program → State → run.RunResult → Settled
verdict_on p s (run.Normal view) = verdict_normal p s view.effect view.registers
verdict_on p s run.Retried = Retry
verdict_on p s (run.Aborted code) = Aborted code
verdict_on p s (run.Broken name) = Refused name

-- what a plan is answered on a state (Harris et al. 2005, section 3: one atomic step; Harris and Peyton Jones 2006: one
-- that would leave an invariant broken has no effect). That one which checks an invariant where that is false has none either is
-- this project's choice.
abbrev pub verdict : Program → Tx → State → Settled
verdict p tx s = verdict_on p s (run p.steps p.tests tx (start (map_of s)))

-- what a run would change
abbrev pub effect_on : run.RunResult → Effect
effect_on (run.Normal view) = view.effect
effect_on _ = no_effect

-- the effect of a plan on a state
abbrev pub effect_of : Program → Tx → State → Effect
effect_of p tx s = effect_on (run p.steps p.tests tx (start (map_of s)))

-- what an answer commits: only Committed commits the effect
abbrev pub committed : Settled → Effect → List Effect
committed (Committed number registers) e = e ∷ []
committed _ e = []

-- what a plan adds to the committed effects
abbrev pub committed_of : Program → Tx → State → List Effect
committed_of p tx s = committed (verdict p tx s) (effect_of p tx s)

-- the state after a plan
abbrev pub state_after : Program → State → Tx → State
state_after p s tx = fold s (committed_of p tx s)

-- the verdicts and the states of these plans, one after another
abbrev pub serial : Program → State → List Tx → List (Settled × State)
serial p s [] = []
serial p s (tx ∷ txs) = (verdict p tx s, state_after p s tx) ∷ serial p (state_after p s tx) txs

-- the state after the last of them
abbrev pub last_state : State → List (Settled × State) → State
last_state s [] = s
last_state s (step ∷ steps) = last_state step.1 steps

-- the state after these plans
abbrev pub serial_state : Program → State → List Tx → State
serial_state p s txs = last_state s (serial p s txs)

-- the effects that these plans add, in order
abbrev pub serial_effects : Program → State → List Tx → List Effect
serial_effects p s [] = []
serial_effects p s (tx ∷ txs) = committed_of p tx s ++ serial_effects p (state_after p s tx) txs

-- it is committed
abbrev pub IsCommitted : Settled → Type 0
IsCommitted (Committed number registers) = Unit {0}
IsCommitted _ = ⊥

-- each of these plans is committed, on the state after those before it
abbrev pub AreCommitted : Program → State → List Tx → Type 0
AreCommitted p s [] = Unit {0}
AreCommitted p s (tx ∷ txs) = IsCommitted (verdict p tx s) × AreCommitted p (state_after p s tx) txs
