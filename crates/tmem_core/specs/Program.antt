-- What a program brings to a store.
use Rattle.std.specs.Prelude.{◌≡◌, ℕ, List}
use Rattle.tmem_tree.specs.StepAnswers as step
use Rattle.tmem_invariants.specs.Meanings as invariant
use Rattle.tmem_invariants.specs.declared.named.Invariants.{Ghosts}

-- what its steps mean by their index, the names of its invariants in the table's order, and what each name means
pub record Program : Type 0 where
  pub steps : step.StepMeanings
  pub names : List (List ℕ)
  pub tests : invariant.Meanings

-- The program's invariants are those of a table: they have its names, in its order, and each means what its closure answers.
pub record IsProgramOf {T : Type 0} (t : Ghosts T) (table : T) (p : Program) : Type 0 where
  pub names : p.names ≡ t.names table
  pub tests : t.is_stated table p.tests
