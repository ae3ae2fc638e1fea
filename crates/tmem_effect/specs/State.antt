-- What a transaction changes, and the state that the committed transactions make.
use Rattle.std.specs.Prelude.{ℕ, ◌+◌, ◌^◌, ◌<◌, ◌≤◌, ◌==◌, ℤ, pos, Bool, ◌&&◌, List, [], ◌∷◌, length, replicate, slice_set, All}
use Rattle.std.proofs.Props.{props}
pub use Rattle.tmem_effect.specs.declared.effect.Effect.{Effect}
pub use Rattle.tmem_effect.specs.Writes.{variables, value_in, with_write, AreWrites}
pub use Rattle.tmem_effect.specs.Names.{has_name, with_name, is_before, at_its_place, insert_name, with_names, without_name, without_names, AreApart, AreAscending, AreChecks, AreRegistered}
pub use Rattle.tmem_fault.specs.Distinct.{AreDistinct}

-- the effect that changes nothing
abbrev pub no_effect : Effect
no_effect = record { writes = []; names = []; retired = [] }

-- whether an effect changes nothing
abbrev pub is_empty : Effect → Bool
is_empty e = (length e.writes == 0) && ((length e.names == 0) && (length e.retired == 0))

-- how many transactions were committed, the registered names, strictly ascending, and the value of each variable
pub record State : Type 0 where
  pub count : ℕ
  pub names : List (List ℕ)
  pub values : List ℤ

-- the state of a new store: nothing committed, no name, and each variable 0
abbrev pub first_state : ℕ → State
first_state vars = record { count = 0; names = []; values = replicate vars (pos 0) }

-- the values after these writes
abbrev pub written : List ℤ → List (ℕ × ℤ) → List ℤ
written values [] = values
written values (w ∷ ws) = written (slice_set values w.0 w.1) ws

-- the state with these variables set, and nothing else changed
abbrev pub overwrite : State → List (ℕ × ℤ) → State
overwrite s ws = record { count = s.count; names = s.names; values = written s.values ws }

-- the state after an effect: its variables are set, its retired names are removed, its names are added, and the count
-- grows by 1
abbrev pub apply : State → Effect → State
apply s e = record { count = s.count + 1; names = with_names (without_names s.names e.retired) e.names; values = written s.values e.writes }

-- the state after these effects, one after another
abbrev pub fold : State → List Effect → State
fold s [] = s
fold s (e ∷ es) = fold (apply s e) es

-- a state whose count has 64 bits, and which has at most 64 names
pub record IsWithin (s : State) : Type 0 where
  pub count : s.count < 2 ^ 64
  pub names : length s.names ≤ 64

-- the state, and each one after an effect, is within these limits
abbrev pub StaysWithin : State → List Effect → Type 0
StaysWithin s [] = IsWithin s
StaysWithin s (e ∷ es) = IsWithin s × StaysWithin (apply s e) es

-- an effect over so many variables: at most 64 writes, no variable twice and values of 64 bits, at most 8 names, none
-- twice, and at most 8 retired names, none twice and none among the names
pub record IsEffect (vars : ℕ) (e : Effect) : Type 0 where
  pub writes : AreWrites e.writes
  pub within : All (λ (w : ℕ × ℤ). w.0 < vars) e.writes
  pub names : AreChecks e.names
  pub retired : AreChecks e.retired
  pub apart : AreApart e.names e.retired

-- that an effect is one is a fact: it has one proof at most
pub IsEffect-prop : (vars : ℕ) (e : Effect) → IsProp (IsEffect vars e)
IsEffect-prop vars e = hlevel props
