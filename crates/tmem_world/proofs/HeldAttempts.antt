-- What an attempt and a core keep.
use Rattle.std.proofs.Common.{◌≡◌, ⊎_elim, ℕ, List, get_or, length, refl, sym, ◌∙◌, ap, subst, arith, Option, Some, None}
use Rattle.std.specs.Prelude.{◌<◌, true, All, Result, Ok, Err, OnOk, IfErr, option_map, IsSome, vec_len}
use Rattle.std.specs.Map.{keys_of}
use Rattle.std.proofs.lemmas.Bool.{false≢true}
use Rattle.std.proofs.lemmas.List.Elements.{All-weaker}
use Rattle.tmem_fault.specs.declared.fault.Fault.{Fault}
use Rattle.tmem_effect.specs.Names.{has_name, AreApart}
use Rattle.tmem_effect.specs.declared.effect.Effect.{Effect}
use Rattle.tmem_fault.specs.declared.fault.Fault.TheVariants.{Memory}
use Rattle.tmem_invariants.specs.Meanings.{Meanings}
use Rattle.tmem_tree.specs.Plans.{PlanView, FitsSteps, FitsVariables, FitsNames, FitsSignatures}
use Rattle.tmem_tree.specs.Signatures.{AreMeant, names_of}
use Rattle.tmem_tree.specs.declared.tx.Tx.{Tx}
use Rattle.tmem_tree.specs.declared.settled.Settled.{Settled}
use Rattle.tmem_tree.specs.StepAnswers.{StepMeanings}
use Rattle.tmem_tentative.specs.Cursors.{StandsIn, IsAt, IsAsBefore, HasEnded, place, attempt_of}
use Rattle.tmem_tentative.specs.Fits.{IsEndingFor}
use Rattle.tmem_tentative.specs.Places.{Place}
use Rattle.tmem_tentative.specs.declared.cursor.Cursor.{Cursor}
use Rattle.tmem_core.specs.Held.{core_state, core_table}
use Rattle.tmem_core.specs.Program.{Program}
use Rattle.tmem_event.specs.declared.event.Reply.{Reply}
use Rattle.tmem_world.specs.declared.attempt.WorldAttempt.{WorldAttempt}
use Rattle.tmem_world.specs.declared.core_and_journal.CoreAndJournal as core
use Rattle.tmem_world.specs.Attempts.{HoldsEnded, IsForStore, FitsPlan, FitsOption, FitsAttempt}
use Rattle.tmem_world.specs.SettleAttempt.{SettlesAttempt, attempt_after}
use Rattle.tmem_world.specs.declared.held.Held.{Held}
use Rattle.tmem_world.specs.declared.held.Held.TheVariants.{With}
use Rattle.tmem_world.specs.declared.world.World.{World}
use Rattle.tmem_world.specs.Parts.{layout_in, table_in}
use Rattle.tmem_world.specs.WorldModel.{AttemptModel, NoTransaction, Begun, Ended}
use Rattle.tmem_world.specs.Represents.{AttemptIs, held_of}

-- it stands in each evaluation that it stood in
abbrev StaysIn : Cursor → Cursor → Type 0
StaysIn old new = (m : StepMeanings) (plan : PlanView) → StandsIn m plan old → StandsIn m plan new

-- so it does where tests gave its answers
abbrev StaysAt : Cursor → Cursor → Type 0
StaysAt old new = (m : StepMeanings) (tests : Meanings) (plan : Tx) → IsAt m tests plan old → IsAt m tests plan new

-- a plan of this tree is there
pub record IsPlanOf (o : Option PlanView) (tx : Tx) : Type 0 where
  pub plan : PlanView
  pub held : o ≡ Some plan
  pub tree : plan.tree ≡ tx

pub plan_of : (o : Option PlanView) (tx : Tx) → option_map (λ plan. plan.tree) o ≡ Some tx → IsPlanOf o tx
plan_of (Some plan) tx is = record { plan = plan; held = refl; tree = cc }
plan_of None tx is = cc

pub not_none : (o : Option PlanView) (plan : PlanView) → o ≡ Some plan → o ≡ None → ⊥
not_none None plan is none = cc
not_none (Some p) plan is none = cc

pub is_there : (o : Option PlanView) (tx : Tx) → option_map (λ plan. plan.tree) o ≡ Some tx → IsSome o
is_there o tx is = subst (λ (x : Option PlanView). IsSome x) (sym (plan_of o tx is).held) refl

module _ (vars : ℕ) (arities : List ℕ) (stated : StepMeanings → Type 0) (names : List (List ℕ)) (tested : Meanings → Type 0) where
  -- the plan that an attempt holds
  pub plan_fits : (s : WorldAttempt) (plan : PlanView) → s.plan ≡ Some plan → FitsAttempt vars arities stated names tested s → FitsPlan vars arities stated names tested plan s.cursor
  plan_fits s plan is fits = subst (λ (o : Option PlanView). FitsOption vars arities stated names tested o s.cursor) is fits

  -- an attempt that holds this plan
  pub with_plan_fits : (s : WorldAttempt) (plan : PlanView) → s.plan ≡ Some plan → FitsPlan vars arities stated names tested plan s.cursor → FitsAttempt vars arities stated names tested s
  with_plan_fits s plan is fits = subst (λ (o : Option PlanView). FitsOption vars arities stated names tested o s.cursor) (sym is) fits

  -- an attempt is for the same variables and names where its cursor is as it was
  attempt_again : (old new : Cursor) → IsAsBefore old new → IsForStore vars names (attempt_of old) → IsForStore vars names (attempt_of new)
  attempt_again old new same fits =
      let variables = subst (λ seen. All (λ var. var < vars) (keys_of seen)) (sym same.given) fits.0.0 in
      let at = λ (P : Effect → Type 0) (is : P (place old).effect). subst (λ (p : Place). P p.effect) (sym same.place) is in (
        (variables, at (λ e. All (λ var. var < vars) (keys_of e.writes)) fits.0.1),
        record {
          proposed = at (λ e. All (λ name. has_name names name ≡ true) e.names) fits.1.proposed;
          retired = at (λ e. All (λ name. has_name names name ≡ true) e.retired) fits.1.retired;
          apart = at (λ e. AreApart e.names e.retired) fits.1.apart;
          ending = subst (IsEndingFor names) (sym same.ending) fits.1.ending;
        },
      )

  option_fits_again : (o : Option PlanView) (old new : Cursor) → IsAsBefore old new → StaysIn old new → FitsOption vars arities stated names tested o old → FitsOption vars arities stated names tested o new
  option_fits_again None old new same stays fits = tt
  option_fits_again (Some plan) old new same stays fits = record {
    variables = fits.variables;
    steps = fits.steps;
    names = fits.names;
    signatures = fits.signatures;
    stands = λ m is. stays m plan (fits.stands m is);
    ended = λ ended. attempt_again old new same (fits.ended (sym same.stage ∙ ended));
  }

  -- an attempt that holds what it held
  fits_again : (old new : WorldAttempt) → new.plan ≡ old.plan → IsAsBefore old.cursor new.cursor → StaysIn old.cursor new.cursor → FitsAttempt vars arities stated names tested old → FitsAttempt vars arities stated names tested new
  fits_again old new plan same stays fits = subst (λ (o : Option PlanView). FitsOption vars arities stated names tested o new.cursor) (sym plan) (option_fits_again old.plan old.cursor new.cursor same stays fits)

  -- an attempt where a plan was to begin
  pub begun_fits : (plan : PlanView) (old new : WorldAttempt) (answer : Result (Unit {0}) Fault) → FitsVariables vars plan → FitsSteps arities plan.tree → FitsNames names plan.tree → ((tests : Meanings) → tested tests → FitsSignatures tests plan)
      → OnOk answer (new.plan ≡ Some plan) → OnOk answer ((m : StepMeanings) → StandsIn m plan new.cursor) → OnOk answer (¬ HasEnded new.cursor)
      → IfErr answer (λ (f : Fault). (f ≡ Memory) × (new.plan ≡ old.plan) × IsAsBefore old.cursor new.cursor)
      → ((m : StepMeanings) (kept : PlanView) → StandsIn m kept old.cursor → IfErr answer (λ _. StandsIn m kept new.cursor))
      → FitsAttempt vars arities stated names tested old → FitsAttempt vars arities stated names tested new
  begun_fits plan old new (Ok done) variables steps known signatures held stands going same stays fits =
      with_plan_fits new plan held (record { variables = variables; steps = steps; names = known; signatures = signatures; stands = λ m is. stands m; ended = λ ended. absurd (going ended) })
  begun_fits plan old new (Err f) variables steps known signatures held stands going same stays fits = fits_again old new same.1 same.2 stays fits

  -- an attempt that was settled
  pub settles_fit : {D T : Type 0} {d t : _} (o o' : core.CoreAndJournal D T d t) (s after : WorldAttempt) (r : Reply) → SettlesAttempt o s r o' after → FitsAttempt vars arities stated names tested s → FitsAttempt vars arities stated names tested after
  settles_fit o o' s after r it fits = ⊎_elim (λ none. subst (FitsAttempt vars arities stated names tested) (sym none.1.2) fits) (λ some. subst (FitsAttempt vars arities stated names tested) (sym some.1.1.attempt) (by_answer some.1.0)) it
    where
      by_answer : (x : Result Settled Fault) → FitsAttempt vars arities stated names tested (attempt_after x s)
      by_answer (Ok settled) = tt
      by_answer (Err f) = fits

  -- attempts without a plan are for any store
  pub emptied_fit : (xs : List WorldAttempt) → All (λ (x : WorldAttempt). x.plan ≡ None) xs → All (FitsAttempt vars arities stated names tested) xs
  emptied_fit xs emptied = All-weaker (λ x. x.plan ≡ None) (FitsAttempt vars arities stated names tested) (λ x none. subst (λ (o : Option PlanView). FitsOption vars arities stated names tested o x.cursor) (sym none) tt) xs emptied

  -- an attempt that has ended is for these variables and names
  pub ended_fits : (s : WorldAttempt) → FitsAttempt vars arities stated names tested s → HoldsEnded s → IsForStore vars names (attempt_of s.cursor)
  ended_fits s fits held = of_plan s.plan fits held.0
    where
      of_plan : (o : Option PlanView) → FitsOption vars arities stated names tested o s.cursor → IsSome o → IsForStore vars names (attempt_of s.cursor)
      of_plan None fits here = absurd (false≢true here)
      of_plan (Some plan) fits here = fits.ended held.1

  -- what is for each of these meanings is so for fewer
  option_for_fewer : (fewer : Meanings → Type 0) → ((tests : Meanings) → fewer tests → tested tests) → (o : Option PlanView) (cursor : Cursor) → FitsOption vars arities stated names tested o cursor → FitsOption vars arities stated names fewer o cursor
  option_for_fewer fewer among None cursor fits = tt
  option_for_fewer fewer among (Some plan) cursor fits = record {
    variables = fits.variables;
    steps = fits.steps;
    names = fits.names;
    signatures = λ tests is. fits.signatures tests (among tests is);
    stands = fits.stands;
    ended = fits.ended;
  }

module _ {D T S : Type 0} {d t s : _} (w : World D T S d t s) where
  pub slot_there : (k : ℕ) → k < 16 → k < length w.attempts.items
  slot_there k below = subst (λ (n : ℕ). k < n) (sym w.sized) below

  pub slot_within : (k : ℕ) → k < 16 → k < vec_len w.attempts
  slot_within k below = omega (arith, below, w.sized, w.attempts.ok.0)

  -- what the attempt of a number holds is for the store
  pub slot_fits : (k : ℕ) (x : WorldAttempt) → k < 16 → x ≡ get_or w.attempts.items k x → FitsAttempt w.layout.vars (s.arities w.steps) (s.is_stated w.steps) (names_of w.signatures.items) (λ tests. AreMeant tests w.signatures.items) x
  slot_fits k x below is = subst (FitsAttempt w.layout.vars (s.arities w.steps) (s.is_stated w.steps) (names_of w.signatures.items) (λ tests. AreMeant tests w.signatures.items)) (sym is) (w.fit k x (slot_there k below))

module _ {D T S : Type 0} {d t s : _} (w : World D T S d t s) (o : core.CoreAndJournal D T d t) (here : held_of w ≡ With o) where
  vars_here : (length (core_state o.core).values) ≡ w.layout.vars
  vars_here = o.over ∙ sym (ap (λ (h : Held D T d t). (layout_in h).vars) here) ∙ w.same_vars

  names_here : names_of w.signatures.items ≡ t.names (core_table o.core)
  names_here = w.named ∙ ap (λ (h : Held D T d t). t.names (table_in h)) here

  meant_here : (tests : Meanings) → t.is_stated (core_table o.core) tests → AreMeant tests w.signatures.items
  meant_here tests is = w.meant tests (subst (λ (h : Held D T d t). t.is_stated (table_in h) tests) (sym here) is)

  -- what an attempt holds is for the core's variables where it is for the world's
  fits_core : (x : WorldAttempt) → FitsAttempt w.layout.vars (s.arities w.steps) (s.is_stated w.steps) (names_of w.signatures.items) (λ tests. AreMeant tests w.signatures.items) x
      → FitsAttempt (length (core_state o.core).values) (s.arities w.steps) (s.is_stated w.steps) (names_of w.signatures.items) (λ tests. AreMeant tests w.signatures.items) x
  fits_core x fits = subst (λ (vars : ℕ). FitsAttempt vars (s.arities w.steps) (s.is_stated w.steps) (names_of w.signatures.items) (λ tests. AreMeant tests w.signatures.items) x) (sym vars_here) fits

  -- and the other way round
  fits_world : (x : WorldAttempt) → FitsAttempt (length (core_state o.core).values) (s.arities w.steps) (s.is_stated w.steps) (names_of w.signatures.items) (λ tests. AreMeant tests w.signatures.items) x
      → FitsAttempt w.layout.vars (s.arities w.steps) (s.is_stated w.steps) (names_of w.signatures.items) (λ tests. AreMeant tests w.signatures.items) x
  fits_world x fits = subst (λ (vars : ℕ). FitsAttempt vars (s.arities w.steps) (s.is_stated w.steps) (names_of w.signatures.items) (λ tests. AreMeant tests w.signatures.items) x) vars_here fits

  -- and so after a call that keeps it for the core
  pub fits_after : (x y : WorldAttempt) → FitsAttempt w.layout.vars (s.arities w.steps) (s.is_stated w.steps) (names_of w.signatures.items) (λ tests. AreMeant tests w.signatures.items) x
      → (FitsAttempt (length (core_state o.core).values) (s.arities w.steps) (s.is_stated w.steps) (names_of w.signatures.items) (λ tests. AreMeant tests w.signatures.items) x
      → FitsAttempt (length (core_state o.core).values) (s.arities w.steps) (s.is_stated w.steps) (names_of w.signatures.items) (λ tests. AreMeant tests w.signatures.items) y)
      → FitsAttempt w.layout.vars (s.arities w.steps) (s.is_stated w.steps) (names_of w.signatures.items) (λ tests. AreMeant tests w.signatures.items) y
  fits_after x y fits keeps = fits_world y (keeps (fits_core x fits))

  -- it is for the names of the core's table too, and for what these are stated to mean
  pub fits_table : (x : WorldAttempt) → FitsAttempt w.layout.vars (s.arities w.steps) (s.is_stated w.steps) (names_of w.signatures.items) (λ tests. AreMeant tests w.signatures.items) x
      → FitsAttempt (length (core_state o.core).values) (s.arities w.steps) (s.is_stated w.steps) (t.names (core_table o.core)) (t.is_stated (core_table o.core)) x
  fits_table x fits =
      subst (λ (names : List (List ℕ)). FitsAttempt (length (core_state o.core).values) (s.arities w.steps) (s.is_stated w.steps) names (t.is_stated (core_table o.core)) x) names_here
      (option_for_fewer (length (core_state o.core).values) (s.arities w.steps) (s.is_stated w.steps) (names_of w.signatures.items) (λ tests. AreMeant tests w.signatures.items) (t.is_stated (core_table o.core)) meant_here x.plan x.cursor (fits_core x fits))

-- an attempt holds what it held where no plan was begun for want of memory
pub held_again : (program : Program) (a : AttemptModel) (old new : WorldAttempt) → new.plan ≡ old.plan → IsAsBefore old.cursor new.cursor → StaysAt old.cursor new.cursor → AttemptIs program old a → AttemptIs program new a
held_again program NoTransaction old new plan same stays holds = plan ∙ holds
held_again program (Begun tx values answered) old new plan same stays holds = (
  record { plan = ap (option_map (λ (p : PlanView). p.tree)) plan ∙ holds.0.plan; at = stays program.steps program.tests tx holds.0.at; given = same.given ∙ holds.0.given },
  ap length same.answers ∙ holds.1,
  λ ended. holds.2 (sym same.stage ∙ ended),
)
held_again program (Ended tx values) old new plan same stays holds = (
  record { plan = ap (option_map (λ (p : PlanView). p.tree)) plan ∙ holds.0.plan; at = stays program.steps program.tests tx holds.0.at; given = same.given ∙ holds.0.given },
  same.stage ∙ holds.1,
)
