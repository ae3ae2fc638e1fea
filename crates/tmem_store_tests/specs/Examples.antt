-- What the table and steps mean that scenes are played with.
use Rattle.std.specs.Prelude.{◌≢◌, ℕ, ◌≤◌, true, List, [], ◌∷◌, All, codes, nat_eq, if◌then◌else◌}
use Rattle.std.proofs.Common.{lit≤, not-suc-le-zero}
use Rattle.std.proofs.lemmas.List.Kept.{AllPairs-cons}
use Rattle.std.proofs.lemmas.List.Elements.{All-cons, All-nil}
use Rattle.tmem_builtins.specs.Steps.{sum_of, at_least}
use Rattle.tmem_core.specs.Program.{Program}
use Rattle.tmem_tree.specs.StepAnswers.{StepMeanings}
use Rattle.tmem_invariants.specs.Meanings.{Meanings}
use Rattle.tmem_invariants.specs.TableNames.{AreDistinct}

-- each name is of an invariant that is always true
abbrev pub all_true : Meanings
all_true = record { footprint = λ name. []; test = λ name values. true }

-- step 0 adds, and each other one needs a number
abbrev pub adds_and_needs : StepMeanings
adds_and_needs index args = if nat_eq index 0 then sum_of args else at_least args

-- what they bring to a store
abbrev pub adding : Program
adding = record { steps = adds_and_needs; names = codes "always" ∷ []; tests = all_true }

-- the same with an invariant over variables 1 and 2
abbrev pub over_two : Program
over_two = record {
  steps = adds_and_needs;
  names = codes "always" ∷ [];
  tests = record { footprint = λ name. 1 ∷ 2 ∷ []; test = λ name values. true };
}

-- what stands alone stands once
pub alone : (name : List ℕ) → AreDistinct (name ∷ [])
alone name = AllPairs-cons (λ (x y : List ℕ). x ≢ y) name [] (All-nil (λ (other : List ℕ). name ≢ other)) (λ i j d before within. absurd (not-suc-le-zero within))

-- two arguments are few
pub two_small : All (λ n. n ≤ 4) (2 ∷ 2 ∷ [])
two_small = All-cons (λ n. n ≤ 4) 2 (2 ∷ []) (lit≤ tt) (All-cons (λ n. n ≤ 4) 2 [] (lit≤ tt) (All-nil (λ n. n ≤ 4)))
