-- What a step's closure answers.
use Rattle.std.specs.Prelude.{◌≡◌, ℕ, ℤ, List, length}
use Rattle.std.specs.Borrow.{Bor}
use Rattle.tmem_tree.specs.declared.step.StepAnswer.{StepAnswer}

-- what each index means: the answer on each list of arguments
abbrev pub StepMeanings : Type 0
StepMeanings = ℕ → List ℤ → StepAnswer

-- the closure may be called on each list of n numbers
abbrev pub MayCallStep : (Bor (List ℤ) → Type 0) → ℕ → Type 0
MayCallStep pre n = (args : Bor (List ℤ)) → length args.now ≡ n → pre args

-- each answer on a list of n numbers is its meaning
abbrev pub StepGives : (Bor (List ℤ) → StepAnswer → Type 0) → ℕ → (List ℤ → StepAnswer) → Type 0
StepGives post n meaning =
    (args : Bor (List ℤ)) (answer : StepAnswer) → length args.now ≡ n → post args answer → answer ≡ meaning args.now

-- there is such a meaning
abbrev pub StepHasMeaning : (Bor (List ℤ) → StepAnswer → Type 0) → ℕ → Type 0
StepHasMeaning post n = ∥ ((meaning : List ℤ → StepAnswer) × StepGives post n meaning) ∥₁
