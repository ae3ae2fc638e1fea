-- What a run does and asks for rests on the values of the variables that it visits, and on no other.
use Rattle.std.proofs.Common.{◌≡◌, ℕ, ℤ, Bool, true, false, List, [], ◌∷◌, ◌++◌, map, Option, Some, None, unwrap_or, cond, refl, sym, ap, ◌∙◌, subst}
use Rattle.std.specs.Prelude.{⊤, nat_eq}
use Rattle.indexmap.specs.IndexMap.{insert_entry}
use Rattle.tmem_invariants.specs.Meanings.{Meanings}
use Rattle.tmem_tree.specs.declared.tx.Tx.{Tx, Row_of-Tx, end_of-Tx, more_of-Tx}
use Rattle.tmem_tree.specs.declared.tx.Tx.TheVariants.{Seq', Put, Read, Write, Step, When', OrElse', Retry, Abort, Check, Retire}
use Rattle.tmem_tree.specs.declared.step.StepAnswer.{StepAnswer}
use Rattle.tmem_tree.specs.declared.step.StepAnswer.TheVariants as answer
use Rattle.tmem_tree.specs.StepAnswers.{StepMeanings}
use Rattle.tmem_effect.specs.Writes.{value_in, with_write}
use Rattle.tmem_tree.specs.Run as run
use Rattle.tmem_tree.specs.Run.{View, RunResult, Normal, Retried, Aborted, Broken, run, run_all, register, is_zero, then_run, or_else}
use Rattle.tmem_tree.specs.Visited.{Ask, Visit, Probe, asks, asks_all, read_of, unwritten, then_ask, else_ask, visits_in}
use Rattle.tmem_tentative.specs.Eval as eval
use Rattle.tmem_tentative.specs.Eval.{RunState}
use Rattle.tmem_tentative.proofs.EvalRuns.{overlay, overlay-write, view_of}
use Rattle.tmem_tentative.proofs.ReadEntries.{note}

-- of two maps
module _ (v w : ℕ → ℤ) where
  -- they give the same to the variables that are visited
  abbrev pub AgreeOn : List Ask → Type 0
  AgreeOn [] = ⊤
  AgreeOn (Visit var ∷ more) = (v var ≡ w var) × AgreeOn more
  AgreeOn (Probe name values ∷ more) = AgreeOn more

  agree_first : (xs ys : List Ask) → AgreeOn (xs ++ ys) → AgreeOn xs
  agree_first [] ys a = tt
  agree_first (Visit var ∷ xs) ys a = (a.0, agree_first xs ys a.1)
  agree_first (Probe name values ∷ xs) ys a = agree_first xs ys a

  agree_rest : (xs ys : List Ask) → AgreeOn (xs ++ ys) → AgreeOn ys
  agree_rest [] ys a = a
  agree_rest (Visit var ∷ xs) ys a = agree_rest xs ys a.1
  agree_rest (Probe name values ∷ xs) ys a = agree_rest xs ys a

  pub note_same : (es : List (ℕ × ℤ)) (xs : List Ask) → AgreeOn xs → note v es (visits_in xs) ≡ note w es (visits_in xs)
  note_same es [] a = refl
  note_same es (Visit var ∷ xs) a =
      note_same (insert_entry nat_eq es var (v var)) xs a.1 ∙ ap (λ n. note w (insert_entry nat_eq es var n) (visits_in xs)) a.0
  note_same es (Probe name values ∷ xs) a = note_same es xs a

  read_same : (ws : List (ℕ × ℤ)) (var : ℕ) → AgreeOn (read_of (value_in ws var) var) → overlay v ws var ≡ overlay w ws var
  read_same ws var a = on (value_in ws var) a where
    on : (o : Option ℤ) → AgreeOn (read_of o var) → unwrap_or o (v var) ≡ unwrap_or o (w var)
    on (Some n) a = refl
    on None a = a.0

  values_same : (ws : List (ℕ × ℤ)) (vars : List ℕ) → AgreeOn (unwritten ws vars) → map (overlay v ws) vars ≡ map (overlay w ws) vars
  values_same ws [] a = refl
  values_same ws (var ∷ vars) a =
      let first = agree_first (read_of (value_in ws var) var) (unwritten ws vars) a in
      let rest = agree_rest (read_of (value_in ws var) var) (unwritten ws vars) a in
      ap (λ n. n ∷ map (overlay v ws) vars) (read_same ws var first) ∙ ap (λ l. overlay w ws var ∷ l) (values_same ws vars rest)

  -- a run on the one map and one on the other end alike
  abbrev pub EndLike : RunResult → RunResult → Type 0
  EndLike (Normal view) e = (s : RunState) × (view ≡ view_of v s) × (e ≡ Normal (view_of w s))
  EndLike Retried e = e ≡ Retried
  EndLike (Aborted code) e = e ≡ Aborted code
  EndLike (Broken name) e = e ≡ Broken name

  -- and ask for the same
  abbrev pub AreSame : RunResult → RunResult → List Ask → List Ask → Type 0
  AreSame e e' xs ys = EndLike e e' × (xs ≡ ys)

  then_same : (e e' : RunResult) (xs ys : List Ask) (go : View → RunResult) (ask : View → List Ask) → AreSame e e' xs ys
      → ((s : RunState) → AgreeOn (ask (view_of v s)) → AreSame (go (view_of v s)) (go (view_of w s)) (ask (view_of v s)) (ask (view_of w s)))
      → AgreeOn (xs ++ then_ask e ask) → AreSame (then_run e go) (then_run e' go) (xs ++ then_ask e ask) (ys ++ then_ask e' ask)
  then_same (Normal view) e' xs ys go ask t k a =
      let s = t.0.0 in
      subst (λ x. AgreeOn (xs ++ ask x) → AreSame (go x) (then_run e' go) (xs ++ ask x) (ys ++ then_ask e' ask)) (sym t.0.1)
      (subst (λ d. AgreeOn (xs ++ ask (view_of v s)) → AreSame (go (view_of v s)) (then_run d go) (xs ++ ask (view_of v s)) (ys ++ then_ask d ask)) (sym t.0.2)
      (λ b. let r = k s (agree_rest xs (ask (view_of v s)) b) in (r.0, ap (λ l. l ++ ask (view_of v s)) t.1 ∙ ap (λ l. ys ++ l) r.1)))
      a
  then_same Retried e' xs ys go ask t k a =
      subst (λ d. AreSame Retried (then_run d go) (xs ++ []) (ys ++ then_ask d ask)) (sym t.0) (refl, ap (λ l. l ++ []) t.1)
  then_same (Aborted code) e' xs ys go ask t k a =
      subst (λ d. AreSame (Aborted code) (then_run d go) (xs ++ []) (ys ++ then_ask d ask)) (sym t.0) (refl, ap (λ l. l ++ []) t.1)
  then_same (Broken name) e' xs ys go ask t k a =
      subst (λ d. AreSame (Broken name) (then_run d go) (xs ++ []) (ys ++ then_ask d ask)) (sym t.0) (refl, ap (λ l. l ++ []) t.1)

  else_same : (e e' f f' : RunResult) (xs ys xs' ys' : List Ask) → AreSame e e' xs ys → (AgreeOn xs' → AreSame f f' xs' ys')
      → AgreeOn (xs ++ else_ask e xs') → AreSame (or_else e f) (or_else e' f') (xs ++ else_ask e xs') (ys ++ else_ask e' ys')
  else_same (Normal view) e' f f' xs ys xs' ys' t k a =
      subst (λ d. AreSame (Normal view) (or_else d f') (xs ++ []) (ys ++ else_ask d ys')) (sym t.0.2) ((t.0.0, t.0.1, refl), ap (λ l. l ++ []) t.1)
  else_same Retried e' f f' xs ys xs' ys' t k a =
      let r = k (agree_rest xs xs' a) in
      subst (λ d. AreSame f (or_else d f') (xs ++ xs') (ys ++ else_ask d ys')) (sym t.0) (r.0, ap (λ l. l ++ xs') t.1 ∙ ap (λ l. ys ++ l) r.1)
  else_same (Aborted code) e' f f' xs ys xs' ys' t k a =
      subst (λ d. AreSame (Aborted code) (or_else d f') (xs ++ []) (ys ++ else_ask d ys')) (sym t.0) (refl, ap (λ l. l ++ []) t.1)
  else_same (Broken name) e' f f' xs ys xs' ys' t k a =
      subst (λ d. AreSame (Broken name) (or_else d f') (xs ++ []) (ys ++ else_ask d ys')) (sym t.0) (refl, ap (λ l. l ++ []) t.1)

  cond_same : (b : Bool) (e e' f f' : RunResult) (xs ys xs' ys' : List Ask) → (AgreeOn xs → AreSame e e' xs ys) → (AgreeOn xs' → AreSame f f' xs' ys') → AgreeOn (cond b xs xs') → AreSame (cond b e f) (cond b e' f') (cond b xs xs') (cond b ys ys')
  cond_same true e e' f f' xs ys xs' ys' t t' a = t a
  cond_same false e e' f f' xs ys xs' ys' t t' a = t' a

  answered_same : (a : StepAnswer) (s : RunState) (out : ℕ) → AreSame (run.answered a (view_of v s) out) (run.answered a (view_of w s) out) [] []
  answered_same (answer.Value n) s out = ((eval.eval_put s out n, refl, refl), refl)
  answered_same answer.Retry s out = (refl, refl)
  answered_same (answer.Abort code) s out = (refl, refl)

  checked_same : (b : Bool) (s : RunState) (name : List ℕ) → EndLike (run.checked b (view_of v s) name) (run.checked b (view_of w s) name)
  checked_same true s name = (eval.eval_check s name, refl, refl)
  checked_same false s name = refl

  module _ (steps : StepMeanings) (tests : Meanings) where
    mutual
      pub same : (tx : Tx) (s : RunState) → AgreeOn (asks steps tests tx (view_of v s)) → AreSame (run steps tests tx (view_of v s)) (run steps tests tx (view_of w s)) (asks steps tests tx (view_of v s)) (asks steps tests tx (view_of w s))
      same (Seq' shape txs) s a = same_all txs s a
      same (Put reg number) s a = ((eval.eval_put s reg number, refl, refl), refl)
      same (Read var reg) s a =
          ((eval.eval_put s reg (overlay v s.effect.writes var), refl, ap (λ n. Normal (run.put (view_of w s) reg n)) (sym (read_same s.effect.writes var a))), refl)
      same (Write var reg) s a =
          let n = register s.registers reg in
          let after : (ℕ → ℤ) → View = λ m. record { values = m; registers = s.registers; effect = record { writes = with_write s.effect.writes var n; names = s.effect.names; retired = s.effect.retired } } in
          ((eval.eval_write s var n, ap after (sym (overlay-write v s.effect.writes var n)), ap (λ m. Normal (after m)) (sym (overlay-write w s.effect.writes var n))), refl)
      same (Step index args out) s a = answered_same (steps index (map (register s.registers) args.items)) s out
      same (When' reg p x q y) s a = cond_same (is_zero (register s.registers reg)) _ _ _ _ _ _ _ _ (same y s) (same x s) a
      same (OrElse' p x q y) s a =
          let first = agree_first (asks steps tests x (view_of v s)) (else_ask (run steps tests x (view_of v s)) (asks steps tests y (view_of v s))) a in
          else_same _ _ _ _ _ _ _ _ (same x s first) (same y s) a
      same Retry s a = (refl, refl)
      same (Abort code) s a = (refl, refl)
      same (Check name) s a =
          let vars = tests.footprint name in
          let eq = values_same s.effect.writes vars (agree_first (unwritten s.effect.writes vars) (Probe name (map (overlay v s.effect.writes) vars) ∷ []) a) in (
            subst (λ l. EndLike (run.checked (tests.test name (map (overlay v s.effect.writes) vars)) (view_of v s) name) (run.checked (tests.test name l) (view_of w s) name)) eq (checked_same (tests.test name (map (overlay v s.effect.writes) vars)) s name),
            ap (λ l. unwritten s.effect.writes vars ++ Probe name l ∷ []) eq,
          )
      same (Retire name) s a = ((eval.eval_retire s name, refl, refl), refl)
      same tx s a = ((s, refl, refl), refl)

      pub same_all : {m : _} (txs : Row_of-Tx m) (s : RunState) → AgreeOn (asks_all steps tests txs (view_of v s)) → AreSame (run_all steps tests txs (view_of v s)) (run_all steps tests txs (view_of w s)) (asks_all steps tests txs (view_of v s)) (asks_all steps tests txs (view_of w s))
      same_all end_of-Tx s a = ((s, refl, refl), refl)
      same_all (more_of-Tx tx txs) s a =
          let first = agree_first (asks steps tests tx (view_of v s)) (then_ask (run steps tests tx (view_of v s)) (asks_all steps tests txs)) a in
          then_same _ _ _ _ (run_all steps tests txs) (asks_all steps tests txs) (same tx s first) (same_all txs) a
