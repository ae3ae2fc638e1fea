-- A choice by cases of how its first branch ends.
use Rattle.std.proofs.Common.{◌≡◌, ℕ, ℤ, List, [], ◌++◌, refl, sym, ap, ◌∙◌, subst, append_assoc, append-nil}
use Rattle.tmem_invariants.specs.Meanings.{Meanings}
use Rattle.tmem_tree.specs.declared.tx.Tx.{Tx}
use Rattle.tmem_tree.specs.StepAnswers.{StepMeanings}
use Rattle.tmem_tree.specs.Run.{RunResult, Normal, Retried, Aborted, Broken, start, or_else}
use Rattle.tmem_tree.specs.Visited.{Ask, else_ask, each_once, visited, visits_in}
use Rattle.tmem_tentative.specs.Laws.{AreAlike}
use Rattle.tmem_tentative.specs.Right.{IsOutcome, first_open, valued, EndsAs}
use Rattle.tmem_tentative.specs.declared.attempt.Outcome.{Outcome}
use Rattle.tmem_tentative.specs.declared.attempt.Outcome.TheVariants.{Need, Ended}
use Rattle.tmem_tentative.specs.declared.attempt.Outcome.TheVariants as outcome

pub or_else-assoc : (a b c : RunResult) → or_else a (or_else b c) ≡ or_else (or_else a b) c
or_else-assoc (Normal view) b c = refl
or_else-assoc Retried b c = refl
or_else-assoc (Aborted code) b c = refl
or_else-assoc (Broken name) b c = refl

pub or_else-retried : (a : RunResult) → or_else a Retried ≡ a
or_else-retried (Normal view) = refl
or_else-retried Retried = refl
or_else-retried (Aborted code) = refl
or_else-retried (Broken name) = refl

pub else_ask-assoc : (a b : RunResult) (xs ys zs : List Ask) → xs ++ else_ask a (ys ++ else_ask b zs) ≡ (xs ++ else_ask a ys) ++ else_ask (or_else a b) zs
else_ask-assoc (Normal view) b xs ys zs = sym (append-nil (xs ++ []))
else_ask-assoc Retried b xs ys zs = sym (append_assoc xs ys (else_ask b zs))
else_ask-assoc (Aborted code) b xs ys zs = sym (append-nil (xs ++ []))
else_ask-assoc (Broken name) b xs ys zs = sym (append-nil (xs ++ []))

pub else_ask-nil : (a : RunResult) (xs : List Ask) → xs ++ else_ask a [] ≡ xs
else_ask-nil (Normal view) xs = append-nil xs
else_ask-nil Retried xs = append-nil xs
else_ask-nil (Aborted code) xs = append-nil xs
else_ask-nil (Broken name) xs = append-nil xs

pub alike_answers : (steps : StepMeanings) (tests : Meanings) (a b : Tx) → AreAlike steps tests a b → (reads : List (ℕ × ℤ)) (n : ℕ) (outcome : Outcome) → IsOutcome steps tests a reads n outcome → IsOutcome steps tests b reads n outcome
alike_answers steps tests a b alike reads n (Need var) is = λ values agrees. ap (first_open reads n) (sym (alike.asks_alike (start values))) ∙ is values agrees
alike_answers steps tests a b alike reads n (outcome.Probe probe) is = λ values agrees. ap (first_open reads n) (sym (alike.asks_alike (start values))) ∙ is values agrees
alike_answers steps tests a b alike reads n (Ended t) is =
    let same : (values : ℕ → ℤ) → visited steps tests b values ≡ visited steps tests a values =
    λ values. ap (λ asks. each_once [] (visits_in asks)) (sym (alike.asks_alike (start values))) in (
      (λ values agrees. let r = is.0 values agrees in (ap (first_open reads n) (sym (alike.asks_alike (start values))) ∙ r.0, r.1 ∙ ap (valued values) (sym (same values)))),
      record {
        reads = λ values agrees. is.1.reads values agrees ∙ ap (valued values) (sym (same values));
        ends = λ values agrees. subst (λ e. EndsAs e t) (alike.runs (start values)) (is.1.ends values agrees);
      },
    )
