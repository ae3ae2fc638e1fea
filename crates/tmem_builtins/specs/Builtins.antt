-- The program that scripts are played under: what its stored steps answer, and what its invariants mean.
use Rattle.std.specs.Prelude.{◌≤◌, ℕ, ℤ, All, Bool, true, List, [], ◌∷◌, codes, bytes_eq, find, map, slice_index_or, unwrap_or}
use Rattle.std.proofs.Common.{lit≤}
use Rattle.std.proofs.lemmas.List.Elements.{All-cons, All-nil}
use Rattle.tmem_tree.specs.StepAnswers.{StepMeanings}
use Rattle.tmem_tree.specs.declared.step.StepAnswer.{StepAnswer}
use Rattle.tmem_tree.specs.declared.step.StepAnswer.TheVariants.{Retry}
use Rattle.tmem_invariants.specs.Meanings.{Meanings}
use Rattle.tmem_builtins.specs.Steps.{sum_of, difference_of, at_least}
use Rattle.tmem_builtins.specs.Invariants.{is_not_negative, add_to_hundred, are_ordered, fitting}

-- what each step answers, in the order of their indices
abbrev pub step_answers : List (List ℤ → StepAnswer)
step_answers = sum_of ∷ difference_of ∷ at_least ∷ []

-- the step at each index: 0 is `add`, 1 is `sub`, 2 is `need`
abbrev pub builtin_steps : StepMeanings
builtin_steps index = slice_index_or step_answers index (λ args. Retry)

-- two arguments are few
pub three_small : All (λ n. n ≤ 4) (2 ∷ 2 ∷ 2 ∷ [])
three_small = All-cons (λ n. n ≤ 4) 2 (2 ∷ 2 ∷ []) (lit≤ tt) (All-cons (λ n. n ≤ 4) 2 (2 ∷ []) (lit≤ tt) (All-cons (λ n. n ≤ 4) 2 [] (lit≤ tt) (All-nil (λ n. n ≤ 4))))

-- each invariant's name, the variables that it is about, and what it says of their values
abbrev pub invariants : List (List ℕ × List ℕ × (List ℤ → Bool))
invariants =
    (codes "nonneg", 0 ∷ [], is_not_negative)
    ∷ (codes "sum", 0 ∷ 1 ∷ [], add_to_hundred)
    ∷ (codes "ordered", 2 ∷ 3 ∷ [], are_ordered)
    ∷ []

-- the invariant of a name
abbrev pub invariant_of : List ℕ → List ℕ × List ℕ × (List ℤ → Bool)
invariant_of name = unwrap_or (find (λ entry. bytes_eq entry.0 name) invariants) ([], [], λ values. true)

-- what each name means
abbrev pub builtin_tests : Meanings
builtin_tests = record {
  footprint = λ name. (invariant_of name).1;
  test = λ name. (invariant_of name).2;
}

-- the names of those whose variables are among so many, in the order in which they are tested
abbrev pub builtin_names : ℕ → List (List ℕ)
builtin_names vars = map (λ entry. entry.0) (fitting vars invariants)
