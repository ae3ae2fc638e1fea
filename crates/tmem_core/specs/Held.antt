-- What a core holds.
use Rattle.std.specs.Prelude.{ℕ, ◌-◌, Bool, false, List, [], ◌++◌, drop}
use Rattle.tmem_effect.specs.State.{State, fold}
use Rattle.tmem_effect.specs.declared.effect.Effect.{Effect}
use Rattle.tmem_core.specs.declared.core_state.Core.{Core}
use Rattle.tmem_core.specs.History.{effects_of}

-- a core as contracts see it
pub record CoreView (T : Type 0) : Type 0 where
  -- the state that it was made of
  pub opened : State
  -- the effects that were committed since then, the oldest first
  pub history : List Effect
  -- the state after every committed transaction
  pub state : State
  -- the effects that are committed and not known durable, the oldest first
  pub waiting : List Effect
  -- how many committed transactions are known durable
  pub durable : ℕ
  -- whether it was shut
  pub is_shut : Bool
  -- what tests its invariants
  pub table : T

abbrev pub core_view : {T : Type 0} {t : _} → Core T t → CoreView T
core_view core = record { opened = core.opened.value; history = effects_of core.history; state = core.state; waiting = core.waiting; durable = core.durable; is_shut = core.is_shut; table = core.table }

-- its parts, by a word each
abbrev pub opened_of : {T : Type 0} {t : _} → Core T t → State
opened_of core = (core_view core).opened

abbrev pub history_of : {T : Type 0} {t : _} → Core T t → List Effect
history_of core = (core_view core).history

abbrev pub core_state : {T : Type 0} {t : _} → Core T t → State
core_state core = (core_view core).state

abbrev pub waiting_of : {T : Type 0} {t : _} → Core T t → List Effect
waiting_of core = (core_view core).waiting

abbrev pub durable_of : {T : Type 0} {t : _} → Core T t → ℕ
durable_of core = (core_view core).durable

abbrev pub is_shut_of : {T : Type 0} {t : _} → Core T t → Bool
is_shut_of core = (core_view core).is_shut

abbrev pub core_table : {T : Type 0} {t : _} → Core T t → T
core_table core = (core_view core).table

-- a new core of a state, all of it durable
abbrev pub new_view : {T : Type 0} → State → T → CoreView T
new_view s table = record { opened = s; history = []; state = s; waiting = []; durable = s.count; is_shut = false; table = table }

-- it commits these effects: they wait behind the others
abbrev pub committing : {T : Type 0} → List Effect → CoreView T → CoreView T
committing effects view = record view { history = view.history ++ effects; state = fold view.state effects; waiting = view.waiting ++ effects }

-- so many are known durable, and do not wait any more
abbrev pub knowing : {T : Type 0} → ℕ → CoreView T → CoreView T
knowing number view = record view { waiting = drop (number - view.durable) view.waiting; durable = number }
