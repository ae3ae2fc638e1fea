-- Which effects the log takes.
use Rattle.std.specs.Prelude.{◌≡◌, ℕ, false}
use Rattle.std.proofs.Props.{props}
use Rattle.tmem_effect.specs.State.{IsEffect, IsEffect-prop, is_empty}
use Rattle.tmem_effect.specs.declared.effect.Effect.{Effect}

-- an effect over so many variables that changes something
pub record IsLoggable (vars : ℕ) (e : Effect) : Type 0 where
  pub effect : IsEffect vars e
  pub not_empty : is_empty e ≡ false

-- that is a fact: it has one proof at most
pub IsLoggable-prop : (vars : ℕ) (e : Effect) → IsProp (IsLoggable vars e)
IsLoggable-prop vars e = hlevel (props, IsEffect-prop)
