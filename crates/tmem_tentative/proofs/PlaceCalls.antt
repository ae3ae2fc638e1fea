-- The run of a tree, from the call that runs a part of it.
use Rattle.std.proofs.Common.{◌≡◌, ℕ, ℤ, Bool, List, get_or, length, option_to_list, sym, subst}
use Rattle.std.specs.declared.alloc.Global.{Global}
use Rattle.std.specs.declared.boxed.Box.{Box}
use Rattle.tmem_tree.specs.declared.signature.Signature.{Signature}
use Rattle.tmem_tree.specs.declared.tx.Tx.{Tx}
use Rattle.tmem_tree.specs.declared.tx.Tx.TheVariants.{OrElse}
use Rattle.tmem_tree.specs.StepAnswers.{StepMeanings}
use Rattle.tmem_effect.specs.declared.effect.Effect.{Effect}
use Rattle.tmem_tentative.specs.declared.attempt.Attempt.{Attempt}
use Rattle.tmem_tentative.specs.declared.course.Course.{Course}
use Rattle.tmem_tentative.specs.declared.flow.Flow as code
use Rattle.tmem_tentative.specs.declared.flow.Flow.TheVariants.{Retry}
use Rattle.tmem_tentative.specs.declared.save.Save.{Save}
use Rattle.tmem_tentative.specs.Eval.{Taken}
use Rattle.tmem_tentative.specs.Logs.{Out, taken_of}
use Rattle.tmem_tentative.specs.Places.{Place, MayRunFrom, RunsTo, Enters, place_at, out_at, with_child}
use Rattle.tmem_tentative.proofs.PlaceLeaves.{out_is_gave_way}
use Rattle.tmem_tentative.proofs.PlaceRuns.{with_left, in_child}
use Rattle.tmem_tentative.proofs.PlaceSaves.{EntersFirst, inside, joined}
use Rattle.tmem_tentative.proofs.PlaceChildren.{IsChild, child_may, child_runs, first_may, first_runs, retried_child}

-- the same child under equal names
pub enters_as : (path left : List ℕ) {start start' child child' : ℕ} → Enters path start child left → start ≡ start' → child ≡ child' → Enters path start' child' left
enters_as path left {start' = start'} {child = child} e is same = subst (λ k. Enters path start' k left) same (subst (λ k. Enters path k child left) is e)

module _ (IsStated : StepMeanings → Type 0) (signatures : List Signature) (seen : Taken) where
  -- the child is noted behind the run
  noted : {tx : Tx} {before : Place} (flow : code.Flow) (course : Course) (child : ℕ) {course' : Course} {saves : List Save} → course' ≡ record course { path = with_child (out_at flow course) child course.path }
      → RunsTo IsStated signatures seen tx before (out_at flow course) (in_child (out_at flow course) child (place_at course saves)) (option_to_list course.pending) → RunsTo IsStated signatures seen tx before (out_at flow course') (place_at course' saves) (option_to_list course'.pending)
  noted {tx} {before} flow course child {saves = saves} is r = subst (λ c. RunsTo IsStated signatures seen tx before (out_at flow c) (place_at c saves) (option_to_list c.pending)) (sym is) r

  module _ {tx whole sub part : Tx} (is : tx ≡ whole) (same : sub ≡ part) where
    -- a child
    module _ {child : ℕ} {before inside : Place} {kept : List Bool} (c : IsChild IsStated signatures seen whole part child before inside kept) where
      pub called_may : {arities : List ℕ} {invariants : List (List ℕ)} → MayRunFrom arities invariants tx before → MayRunFrom arities invariants sub inside
      called_may {arities} {invariants} may =
          subst (λ t. MayRunFrom arities invariants t inside) (sym same) (child_may IsStated signatures seen c (subst (λ t. MayRunFrom arities invariants t before) is may))

      pub called_runs : (flow : code.Flow) (course : Course) {course' : Course} {saves : List Save} → course' ≡ record course { path = with_child (out_at flow course) child course.path }
          → RunsTo IsStated signatures (with_left seen kept) sub inside (out_at flow course) (place_at course saves) (option_to_list course.pending) → RunsTo IsStated signatures seen tx before (out_at flow course') (place_at course' saves) (option_to_list course'.pending)
      called_runs flow course {saves = saves} at r =
          noted flow course child at (subst (λ t. RunsTo IsStated signatures seen t before (out_at flow course) (in_child (out_at flow course) child (place_at course saves)) (option_to_list course.pending)) (sym is)
          (child_runs IsStated signatures seen c (subst (λ t. RunsTo IsStated signatures (with_left seen kept) t inside (out_at flow course) (place_at course saves) (option_to_list course.pending)) same r)))

  -- the first branch of a choice
  module _ {sub : Tx} {before : Place} {left : List ℕ} {saves : List Save} (a b : Box Tx Global) (first : EntersFirst before left saves) (same : sub ≡ a.value) where
    pub first_called_may : {tx : Tx} {arities : List ℕ} {invariants : List (List ℕ)} → tx ≡ OrElse a b → MayRunFrom arities invariants tx before → MayRunFrom arities invariants sub (record before { path = left; saves = inside saves })
    first_called_may {arities = arities} {invariants} is may =
        subst (λ t. MayRunFrom arities invariants t (record before { path = left; saves = inside saves })) (sym same) (first_may IsStated signatures seen first (subst (λ t. MayRunFrom arities invariants t before) is may))

    first_run : {out : Out} {after : Place} {kept : List Bool} → RunsTo IsStated signatures seen sub (record before { path = left; saves = inside saves }) out after kept → RunsTo IsStated signatures seen a.value (record before { path = left; saves = inside saves }) out after kept
    first_run {out} {after} {kept} r = subst (λ t. RunsTo IsStated signatures seen t (record before { path = left; saves = inside saves }) out after kept) same r

    -- and that has not retried
    pub first_called_runs : (flow : code.Flow) (course : Course) {tx : Tx} {course' : Course} {inner : List Save} → tx ≡ OrElse a b → (flow ≡ Retry → ⊥) → course' ≡ record course { path = with_child (out_at flow course) 0 course.path }
        → RunsTo IsStated signatures seen sub (record before { path = left; saves = inside saves }) (out_at flow course) (place_at course inner) (option_to_list course.pending) → RunsTo IsStated signatures seen tx before (out_at flow course') (place_at course' (joined saves inner)) (option_to_list course'.pending)
    first_called_runs flow course {inner = inner} is some at r =
        noted flow course 0 at (subst (λ t. RunsTo IsStated signatures seen t before (out_at flow course) (in_child (out_at flow course) 0 (place_at course (joined saves inner))) (option_to_list course.pending)) (sym is)
        (first_runs IsStated signatures seen first (λ e. some (out_is_gave_way flow course.attempt course.probe e)) (first_run r)))

    -- and that has, with the registers and the effect of the save
    pub retried_called : (flow : code.Flow) (course : Course) {inner : List Save} {registers : List ℤ} {effect : Effect} (d : Save) → flow ≡ Retry → length inner ≡ length (inside saves)
        → RunsTo IsStated signatures seen sub (record before { path = left; saves = inside saves }) (out_at flow course) (place_at course inner) (option_to_list course.pending)
        → registers ≡ (get_or (joined saves inner) 0 d).registers → effect ≡ (get_or (joined saves inner) 0 d).effect
        → IsChild IsStated signatures seen (OrElse a b) b.value 1 before (record { path = course.path; saves = joined saves inner; registers = registers; effect = effect }) (option_to_list course.pending)
    retried_called flow course {inner} {registers} {effect} d retried long r is_registers is_effect =
        subst (λ rs. IsChild IsStated signatures seen (OrElse a b) b.value 1 before (record { path = course.path; saves = joined saves inner; registers = rs; effect = effect }) (option_to_list course.pending)) (sym is_registers)
        (subst (λ e. IsChild IsStated signatures seen (OrElse a b) b.value 1 before (record { path = course.path; saves = joined saves inner; registers = (get_or (joined saves inner) 0 d).registers; effect = e }) (option_to_list course.pending)) (sym is_effect)
        (retried_child IsStated signatures seen first d long (subst (λ f. RunsTo IsStated signatures seen a.value (record before { path = left; saves = inside saves }) (out_at f course) (place_at course inner) (option_to_list course.pending)) retried (first_run r))))

-- the same reads were given before
pub given_before : {IsStated : StepMeanings → Type 0} {signatures : List Signature} (log log' : Attempt) {left kept : List Bool} {tx : Tx} {before after : Place} {out : Out} → log'.reads ≡ log.reads
    → RunsTo IsStated signatures (taken_of log' left) tx before out after kept → RunsTo IsStated signatures (taken_of log left) tx before out after kept
given_before {IsStated} {signatures} log log' {left} {kept} {tx} {before} {after} {out} is r = subst (λ rs. RunsTo IsStated signatures (record { reads = rs.entries; left = left }) tx before out after kept) is r
