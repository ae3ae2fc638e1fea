-- Runs that test only names which mean the same.
use Rattle.std.proofs.Common.{◌≡◌, ℕ, ℤ, Bool, true, false, ◌++◌, List, [], ◌∷◌, map, if◌then◌else◌, All, refl, ap, ◌∙◌}
use Rattle.std.specs.Prelude.{⊤}
use Rattle.std.proofs.lemmas.List.Elements.{All-head, All-tail}
use Rattle.tmem_tree.specs.declared.tx.Tx.{Tx, Row_of-Tx, end_of-Tx, more_of-Tx}
use Rattle.tmem_tree.specs.declared.tx.Tx.TheVariants.{Skip, Seq', Put, Read, Write, Step, When', OrElse', Retry, Abort, Check, Retire}
use Rattle.tmem_tree.specs.Run.{View, RunResult, Normal, Retried, Aborted, Broken, run, run_all, then_run, or_else, checked, is_zero, register}
use Rattle.tmem_tree.specs.StepAnswers.{StepMeanings}
use Rattle.tmem_tree.specs.Visited.{Ask, Visit, Probe, asks, asks_all, unwritten, then_ask, else_ask, probes_in}
use Rattle.tmem_invariants.specs.Meanings.{Meanings, holds_on}
use Rattle.tmem_core.specs.Following.{MeansAs}

-- each name that is tested means the same
abbrev pub AskAlike : Meanings → Meanings → List Ask → Type 0
AskAlike p q [] = ⊤
AskAlike p q (Visit var ∷ more) = AskAlike p q more
AskAlike p q (Probe name values ∷ more) = MeansAs p q name × AskAlike p q more

module _ (p q : Meanings) where
  -- it is so of the first of two lists, and of the second
  pub first_alike : (asked : List Ask) (names : List (List ℕ)) → All (MeansAs p q) (map (λ (probe : List ℕ × List ℤ). probe.0) (probes_in asked) ++ names) → AskAlike p q asked
  first_alike [] names all = tt
  first_alike (Visit var ∷ more) names all = first_alike more names all
  first_alike (Probe name values ∷ more) names all = (All-head (MeansAs p q) name _ all, first_alike more names (All-tail (MeansAs p q) name _ all))

  pub rest_alike : (asked : List Ask) (names : List (List ℕ)) → All (MeansAs p q) (map (λ (probe : List ℕ × List ℤ). probe.0) (probes_in asked) ++ names) → All (MeansAs p q) names
  rest_alike [] names all = all
  rest_alike (Visit var ∷ more) names all = rest_alike more names all
  rest_alike (Probe name values ∷ more) names all = rest_alike more names (All-tail (MeansAs p q) name _ all)

  both_alike : (first second : List Ask) → AskAlike p q (first ++ second) → AskAlike p q first × AskAlike p q second
  both_alike [] second alike = (tt, alike)
  both_alike (Visit var ∷ more) second alike = both_alike more second alike
  both_alike (Probe name values ∷ more) second alike =
      let rest = both_alike more second alike.1 in
      ((alike.0, rest.0), rest.1)

  -- the branch that is taken
  chosen : (b : Bool) (first second : List Ask) (r s r' s' : RunResult) → (AskAlike p q first → r ≡ r') → (AskAlike p q second → s ≡ s') → AskAlike p q (if b then first else second)
      → (if b then r else s) ≡ (if b then r' else s')
  chosen true first second r s r' s' one other alike = one alike
  chosen false first second r s r' s' one other alike = other alike

  -- the second branch, where it is taken
  after_retry : (r : RunResult) (second : List Ask) (s s' : RunResult) → (AskAlike p q second → s ≡ s') → AskAlike p q (else_ask r second) → or_else r s ≡ or_else r s'
  after_retry (Normal view) second s s' other alike = refl
  after_retry Retried second s s' other alike = other alike
  after_retry (Aborted code) second s s' other alike = refl
  after_retry (Broken name) second s s' other alike = refl

  -- what comes next, where it does
  behind : (r : RunResult) (asked : View → List Ask) (next next' : View → RunResult) → ((view : View) → AskAlike p q (asked view) → next view ≡ next' view) → AskAlike p q (then_ask r asked) → then_run r next ≡ then_run r next'
  behind (Normal view) asked next next' rest alike = rest view alike
  behind Retried asked next next' rest alike = refl
  behind (Aborted code) asked next next' rest alike = refl
  behind (Broken name) asked next next' rest alike = refl

  -- a name that means the same answers the same
  test_alike : (values : ℕ → ℤ) (name : List ℕ) → MeansAs p q name → holds_on q values name ≡ holds_on p values name
  test_alike values name is = is.test (map values (q.footprint name)) ∙ ap (λ (vars : List ℕ). p.test name (map values vars)) is.footprint

module _ (steps : StepMeanings) (p q : Meanings) where
  mutual
    pub same_run : (tx : Tx) (view : View) → AskAlike p q (asks steps p tx view) → run steps q tx view ≡ run steps p tx view
    same_run Skip view alike = refl
    same_run (Seq' shape txs) view alike = same_run_all txs view alike
    same_run (Put reg number) view alike = refl
    same_run (Read var reg) view alike = refl
    same_run (Write var reg) view alike = refl
    same_run (Step index args out) view alike = refl
    same_run (When' reg there a absent b) view alike =
        chosen p q (is_zero (register view.registers reg)) (asks steps p b view) (asks steps p a view) (run steps q b view) (run steps q a view) (run steps p b view) (run steps p a view) (same_run b view) (same_run a view) alike
    same_run (OrElse' there a absent b) view alike =
        let parts = both_alike p q (asks steps p a view) (else_ask (run steps p a view) (asks steps p b view)) alike in
        ap (λ (r : RunResult). or_else r (run steps q b view)) (same_run a view parts.0)
        ∙ after_retry p q (run steps p a view) (asks steps p b view) (run steps q b view) (run steps p b view) (same_run b view) parts.1
    same_run Retry view alike = refl
    same_run (Abort code) view alike = refl
    same_run (Check name) view alike =
        let parts = both_alike p q (unwritten view.effect.writes (p.footprint name)) (Probe name (map view.values (p.footprint name)) ∷ []) alike in
        ap (λ (b : Bool). checked b view name) (test_alike p q view.values name parts.1.0)
    same_run (Retire name) view alike = refl

    same_run_all : {m : _} (txs : Row_of-Tx m) (view : View) → AskAlike p q (asks_all steps p txs view) → run_all steps q txs view ≡ run_all steps p txs view
    same_run_all end_of-Tx view alike = refl
    same_run_all (more_of-Tx tx txs) view alike =
        let parts = both_alike p q (asks steps p tx view) (then_ask (run steps p tx view) (asks_all steps p txs)) alike in
        ap (λ (r : RunResult). then_run r (run_all steps q txs)) (same_run tx view parts.0)
        ∙ behind p q (run steps p tx view) (asks_all steps p txs) (run_all steps q txs) (run_all steps p txs) (λ next. same_run_all txs next) parts.1
