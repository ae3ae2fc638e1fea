-- When one program may follow on another over the same store.
use Rattle.std.specs.Prelude.{◌≡◌, ℕ, ℤ, List, [], ◌∷◌, ◌++◌, map, flat_map, All, IsTrue}
use Rattle.tmem_effect.specs.Names.{without_names}
use Rattle.tmem_effect.specs.State.{State}
use Rattle.tmem_effect.specs.declared.effect.Effect.{Effect}
use Rattle.tmem_tree.specs.declared.tx.Tx.{Tx}
use Rattle.tmem_tree.specs.Visited.{probes}
use Rattle.tmem_invariants.specs.Meanings.{Meanings}
use Rattle.tmem_invariants.specs.TableNames.{has_name}
use Rattle.tmem_core.specs.Program.{Program}
use Rattle.tmem_core.specs.Verdict.{map_of, state_after, serial_state, serial_effects}

-- a name has the footprint and the answers that it had
pub record MeansAs (old new : Meanings) (name : List ℕ) : Type 0 where
  pub footprint : new.footprint name ≡ old.footprint name
  pub test : (values : List ℤ) → new.test name values ≡ old.test name values

-- the names that these plans test at their point, each plan on the state after those before it
abbrev pub names_tested : Program → State → List Tx → List (List ℕ)
names_tested p s [] = []
names_tested p s (tx ∷ txs) = map (λ probe. probe.0) (probes p.steps p.tests tx (map_of s)) ++ names_tested p (state_after p s tx) txs

-- the names that were registered at the state or by these plans, and are not registered after them
abbrev pub names_left : Program → State → List Tx → List (List ℕ)
names_left p s txs = without_names (s.names ++ flat_map (λ (e : Effect). e.names) (serial_effects p s txs)) (serial_state p s txs).names

-- Where none of these plans retires a name, each name that was registered is registered after them.
abbrev pub NamesOnlyGrow : Type 0
NamesOnlyGrow = (p : Program) (s : State) (txs : List Tx) → All (λ (e : Effect). e.retired ≡ []) (serial_effects p s txs) → names_left p s txs ≡ []

-- where the new table has a name, the old one has it too, with the same meaning
abbrev pub StaysAs : Program → Program → List ℕ → Type 0
StaysAs old new name = IsTrue (has_name new.names name) → IsTrue (has_name old.names name) × MeansAs old.tests new.tests name

-- After these plans on the state: the steps mean the same, and each registered name is in the new table with the meaning that it
-- had. So each name that was tested means what it did: one that a branch tested which then retried need not be registered, nor in
-- the new table. Nor need one that was retired: where it is there, it was in the old table too, and means the same. All else may
-- differ: the order of the table, and what nobody registered or tested.
pub record Follows (old : Program) (s : State) (txs : List Tx) (new : Program) : Type 0 where
  pub steps : new.steps ≡ old.steps
  pub there : All (λ name. IsTrue (has_name new.names name)) (serial_state old s txs).names
  pub same : All (MeansAs old.tests new.tests) (serial_state old s txs).names
  pub asked : All (MeansAs old.tests new.tests) (names_tested old s txs)
  pub left : All (StaysAs old new) (names_left old s txs)
