-- A run of a child, as a run of its tree.
use Rattle.std.proofs.Common.{◌≡◌, ℕ, ℤ, ◌+◌, ◌<◌, ◌≤◌, Bool, true, false, List, [], ◌∷◌, length, get_or, cond, refl, sym, ap, ◌∙◌, subst, arith}
use Rattle.std.specs.declared.alloc.Global.{Global}
use Rattle.std.specs.declared.boxed.Box.{Box}
use Rattle.tmem_effect.specs.declared.effect.Effect.{Effect}
use Rattle.tmem_tree.specs.declared.signature.Signature.{Signature}
use Rattle.tmem_tree.specs.declared.tx.Tx.{Tx}
use Rattle.tmem_tree.specs.declared.tx.Tx.TheVariants.{OrElse, When', OrElse'}
use Rattle.tmem_tree.specs.Limits.{depth, choices, count, is_write, is_check, is_retire, has_bad_register, has_bad_step, has_bad_arguments, lacks_signature}
use Rattle.tmem_tree.specs.Run.{register, is_zero}
use Rattle.tmem_tree.specs.StepAnswers.{StepMeanings}
use Rattle.tmem_tree.specs.Visited.{Ask}
use Rattle.tmem_tentative.specs.declared.attempt.Attempt.{Attempt}
use Rattle.tmem_tentative.specs.declared.save.Save.{Save}
use Rattle.tmem_tentative.specs.Eval.{RunState, Taken, eval, else_eval}
use Rattle.tmem_tentative.specs.Logs.{AreOf, MayWalk, Out, Stopped, Gave_way}
use Rattle.tmem_tentative.specs.Places.{Covers, Place, LeadsTo, place_of, with_more, IsLeaf, MayRunFrom, RunsTo, HasRoom, eval_on, eval_from, Enters, EntersChoice}
use Rattle.tmem_tentative.proofs.PlaceRoom.{path_grows, choice_saved, when_then_room, when_other_room, second_room, first_room, first_leaves, child_leaves, leaf_start, leaf_room, leaf_leaves, leaf_path, leaf_depth}
use Rattle.tmem_tentative.proofs.PlaceSaves.{EntersFirst, enters_first, inside, joined}
use Rattle.tmem_tentative.proofs.PlaceRuns.{with_left, in_child, child_leads, first_leads, retried_start, when_then, when_other, choice_first, choice_second}

module _ (IsStated : StepMeanings → Type 0) (signatures : List Signature) (seen : Taken) where
  -- the tree goes on from its place as the child does from its own, with these answers left, and is at its end where the child is
  pub record IsChild (tx sub : Tx) (child : ℕ) (before inside : Place) (kept : List Bool) : Type 0 where
    pub counts : (test : Tx → Bool) → count test sub ≤ count test tx
    pub deep : depth sub < depth tx
    pub enough : choices tx ≤ length before.saves → choices sub ≤ length inside.saves
    pub room : (test : Tx → Bool) (limit : ℕ) (size : Effect → ℕ) (rest : ℕ) → HasRoom test limit size rest before.path tx before.saves (size before.effect) → HasRoom test limit size rest inside.path sub inside.saves (size inside.effect)
    pub goes : (m : StepMeanings) (footprint : List ℕ → List ℕ) → IsStated m → AreOf signatures footprint → (reads : List (ℕ × ℤ)) (more : List Bool) → Covers reads seen.reads
        → eval_from m footprint reads tx before (with_more seen more) ≡ eval_from m footprint reads sub inside (with_more (with_left seen kept) more)
    pub room_on : (test : Tx → Bool) (limit : ℕ) (size : Effect → ℕ) (rest : ℕ) (path : List ℕ) (saves : List Save) (n : ℕ) → HasRoom test limit size rest path sub saves n → HasRoom test limit size rest (child ∷ path) tx saves n
    pub goes_on : (m : StepMeanings) (footprint : List ℕ → List ℕ) (reads : List (ℕ × ℤ)) (path : List ℕ) (saves : List Save) (s : RunState) → eval_on m footprint reads (child ∷ path) tx saves s ≡ eval_on m footprint reads path sub saves s

  pub child_may : {tx sub : Tx} {child : ℕ} {before inside : Place} {kept : List Bool} {arities : List ℕ} {invariants : List (List ℕ)} → IsChild tx sub child before inside kept → MayRunFrom arities invariants tx before → MayRunFrom arities invariants sub inside
  child_may {arities = arities} {invariants = invariants} is may = record {
    registers = omega (arith, is.counts has_bad_register, may.registers);
    steps = record { there = omega (arith, is.counts (has_bad_step arities), may.steps.there); given = omega (arith, is.counts (has_bad_arguments arities), may.steps.given) };
    known = omega (arith, is.counts (lacks_signature invariants), may.known);
    deep = omega (arith, is.deep, may.deep);
    enough = is.enough may.enough;
    writes = (may.writes.0, is.room is_write 64 (λ e. length e.writes) may.writes.0 may.writes.1);
    names = (may.names.0, is.room is_check 8 (λ e. length e.names) may.names.0 may.names.1);
    retires = (may.retires.0, is.room is_retire 8 (λ e. length e.retired) may.retires.0 may.retires.1);
  }

  pub child_runs : {tx sub : Tx} {child : ℕ} {before inside after : Place} {kept left : List Bool} {out : Out} → IsChild tx sub child before inside kept → RunsTo IsStated signatures (with_left seen kept) sub inside out after left
      → RunsTo IsStated signatures seen tx before out (in_child out child after) left
  child_runs {tx} {sub} {child} {before} {inside} {after} {kept} {left} {out} is r = record {
    path = path_grows out _ _ child after.path r.path is.deep;
    writes = λ rest h. child_leaves is_write 64 (λ e. length e.writes) rest child tx sub out after.path after.saves after.effect (λ path n. is.room_on is_write 64 (λ e. length e.writes) rest path after.saves n) (r.writes rest (is.room is_write 64 (λ e. length e.writes) rest h));
    names = λ rest h. child_leaves is_check 8 (λ e. length e.names) rest child tx sub out after.path after.saves after.effect (λ path n. is.room_on is_check 8 (λ e. length e.names) rest path after.saves n) (r.names rest (is.room is_check 8 (λ e. length e.names) rest h));
    retires = λ rest h. child_leaves is_retire 8 (λ e. length e.retired) rest child tx sub out after.path after.saves after.effect (λ path n. is.room_on is_retire 8 (λ e. length e.retired) rest path after.saves n) (r.retires rest (is.room is_retire 8 (λ e. length e.retired) rest h));
    leads = λ m footprint stated of. child_leads m footprint seen kept tx sub before inside child out after left (is.goes m footprint stated of) (is.goes_on m footprint) (r.leads m footprint stated of);
  }

  -- a When
  pub then_child : {reg : ℕ} {a b : Tx} {p q : _} {before : Place} {left : List ℕ} → Enters before.path (cond (is_zero (register before.registers reg)) 1 0) 0 left
      → IsChild (When' reg p a q b) a 0 before (record before { path = left }) seen.left
  then_child {reg} {a} {b} {p} {q} {before} {left} e = record {
    counts = λ test. omega arith;
    deep = omega arith;
    enough = λ h. omega (arith, h);
    room = λ test limit size rest. when_then_room test limit size rest reg a b p q before.path _ left before.saves (size before.effect) e;
    goes = λ m footprint stated of reads more c. when_then m footprint reads reg a b p q before.path left before.saves _ e;
    room_on = λ test limit size rest path saves n h. h;
    goes_on = λ m footprint reads path saves s. refl;
  }

  pub other_child : {reg child : ℕ} {a b : Tx} {p q : _} {before : Place} {left : List ℕ} → Enters before.path (cond (is_zero (register before.registers reg)) 1 0) child left → (child ≡ 0 → ⊥)
      → IsChild (When' reg p a q b) b 1 before (record before { path = left }) seen.left
  other_child {reg} {child} {a} {b} {p} {q} {before} {left} e some = record {
    counts = λ test. omega arith;
    deep = omega arith;
    enough = λ h. omega (arith, h);
    room = λ test limit size rest. when_other_room test limit size rest reg a b p q before.path _ child left before.saves (size before.effect) e some;
    goes = λ m footprint stated of reads more c. when_other m footprint reads reg a b p q before.path left before.saves _ child e some;
    room_on = λ test limit size rest path saves n h. h;
    goes_on = λ m footprint reads path saves s. refl;
  }

  -- a choice that is entered by its second branch
  pub second_child : {a b : Tx} {p q : _} {before : Place} {left : List ℕ} {saves : List Save} → length saves ≡ length before.saves → EntersChoice before.path (record { registers = before.registers; effect = before.effect }) before.saves false left saves
      → IsChild (OrElse' p a q b) b 1 before (record before { path = left; saves = saves }) seen.left
  second_child {a} {b} {p} {q} {before} {left} {saves} same e = record {
    counts = λ test. omega arith;
    deep = omega arith;
    enough = λ h. omega (arith, h);
    room = λ test limit size rest. second_room test limit size rest a b p q before.path left _ before.saves saves (size before.effect) e;
    goes = λ m footprint stated of reads more c. choice_second m footprint reads a b p q before.path left before.saves saves _ e;
    room_on = λ test limit size rest path saves n h. h;
    goes_on = λ m footprint reads path saves s. refl;
  }

  -- one that is entered by its first
  module _ {before : Place} {left : List ℕ} {saves : List Save} (e : EntersFirst before left saves) where
    room_of : (test : Tx → Bool) (limit : ℕ) (size : Effect → ℕ) (rest : ℕ) (a b : Tx) (p q : _) → HasRoom test limit size rest before.path (OrElse' p a q b) before.saves (size before.effect)
        → HasRoom test limit size rest left a (inside saves) (size before.effect) × (size e.head.effect + count test b + rest ≤ limit)
    room_of test limit size rest a b p q h =
        let k = first_room test limit size rest a b p q before.path left _ e.head before.saves e.tail e.some e.enters (size before.effect) refl h in
        (subst (λ l. HasRoom test limit size rest left a l (size before.effect)) (sym e.inner) k.0, k.1)

    start : (m : StepMeanings) (footprint : List ℕ → List ℕ) (a b : Tx) (p q : _) (reads : List (ℕ × ℤ)) (more : List Bool) → eval_from m footprint reads (OrElse' p a q b) before (with_more seen more)
        ≡ else_eval (eval_from m footprint reads a (record before { path = left; saves = inside saves }) (with_more seen more)) (λ seen. eval m footprint reads b (record { registers = e.head.registers; effect = e.head.effect; seen = seen }))
    start m footprint a b p q reads more =
        choice_first m footprint reads a b p q before.path left e.head before.saves e.tail _ e.some e.enters
        ∙ ap (λ l. else_eval (eval_from m footprint reads a (record before { path = left; saves = l }) (with_more seen more)) (λ seen. eval m footprint reads b (record { registers = e.head.registers; effect = e.head.effect; seen = seen }))) (sym e.inner)

    pub first_may : {a b : Tx} {p q : _} {arities : List ℕ} {invariants : List (List ℕ)} → MayRunFrom arities invariants (OrElse' p a q b) before → MayRunFrom arities invariants a (record before { path = left; saves = inside saves })
    first_may {a} {b} {p} {q} may = record {
      registers = omega (arith, may.registers);
      steps = record { there = omega (arith, may.steps.there); given = omega (arith, may.steps.given) };
      known = omega (arith, may.known);
      deep = omega (arith, may.deep);
      enough = omega (arith, may.enough, e.long, ap (λ (l : List Save). length l) e.inner);
      writes = (may.writes.0, (room_of is_write 64 (λ e. length e.writes) may.writes.0 a b p q may.writes.1).0);
      names = (may.names.0, (room_of is_check 8 (λ e. length e.names) may.names.0 a b p q may.names.1).0);
      retires = (may.retires.0, (room_of is_retire 8 (λ e. length e.retired) may.retires.0 a b p q may.retires.1).0);
    }

    -- and that has not retried
    pub first_runs : {a b : Tx} {p q : _} {out : Out} {after : Place} {kept : List Bool} → (out ≡ Gave_way → ⊥) → RunsTo IsStated signatures seen a (record before { path = left; saves = inside saves }) out after kept
        → RunsTo IsStated signatures seen (OrElse' p a q b) before out (in_child out 0 (record after { saves = joined saves after.saves })) kept
    first_runs {a} {b} {p} {q} {out} {after} {kept} some r =
        subst (λ l. RunsTo IsStated signatures seen (OrElse' p a q b) before out (in_child out 0 (record after { saves = l })) kept) (sym (e.all after.saves)) (record {
          path = path_grows out _ _ 0 after.path r.path (omega arith);
          writes = λ rest h.
              let k = room_of is_write 64 (λ e. length e.writes) rest a b p q h in
              first_leaves is_write 64 (λ e. length e.writes) rest a b p q out after.path e.head after.saves after.effect some k.1 (r.writes rest k.0);
          names = λ rest h.
              let k = room_of is_check 8 (λ e. length e.names) rest a b p q h in
              first_leaves is_check 8 (λ e. length e.names) rest a b p q out after.path e.head after.saves after.effect some k.1 (r.names rest k.0);
          retires = λ rest h.
              let k = room_of is_retire 8 (λ e. length e.retired) rest a b p q h in
              first_leaves is_retire 8 (λ e. length e.retired) rest a b p q out after.path e.head after.saves after.effect some k.1 (r.retires rest k.0);
          leads = λ m footprint stated of. first_leads m footprint seen a b p q before _ after e.head kept (start m footprint a b p q) out some (r.leads m footprint stated of);
        })

    -- and that has
    pub retried_child : {a b : Tx} {p q : _} {after : Place} {kept : List Bool} (d : Save) → length after.saves ≡ length (inside saves) → RunsTo IsStated signatures seen a (record before { path = left; saves = inside saves }) Gave_way after kept
        → IsChild (OrElse' p a q b) b 1 before (record { path = after.path; saves = joined saves after.saves; registers = (get_or (joined saves after.saves) 0 d).registers; effect = (get_or (joined saves after.saves) 0 d).effect }) kept
    retried_child {a} {b} {p} {q} {after} {kept} d same r =
        subst (λ l. IsChild (OrElse' p a q b) b 1 before (record { path = l; saves = joined saves after.saves; registers = (get_or (joined saves after.saves) 0 d).registers; effect = (get_or (joined saves after.saves) 0 d).effect }) kept) (sym r.path)
        (subst (λ (s : Save). IsChild (OrElse' p a q b) b 1 before (record { path = []; saves = joined saves after.saves; registers = s.registers; effect = s.effect }) kept) (sym (ap (λ l. get_or l 0 d) (e.all after.saves))) (record {
          counts = λ test. omega arith;
          deep = omega arith;
          enough = λ h. omega (arith, h, same, ap (λ (l : List Save). length l) (e.all after.saves), ap (λ (l : List Save). length l) e.inner);
          room = λ test limit size rest h. (room_of test limit size rest a b p q h).1;
          goes = λ m footprint stated of. retried_start m footprint seen a b p q before _ after e.head kept (start m footprint a b p q) (joined saves after.saves) (r.leads m footprint stated of);
          room_on = λ test limit size rest path saves n h. h;
          goes_on = λ m footprint reads path saves s. refl;
        }))

-- a run may go on in the first branch of a choice
pub enters_choice : {tx : Tx} (a b : Box Tx Global) (before : Place) (left : List ℕ) (saves : List Save) {arities : List ℕ} {invariants : List (List ℕ)} → tx ≡ OrElse a b → MayRunFrom arities invariants tx before → length saves ≡ length before.saves
    → EntersChoice before.path (record { registers = before.registers; effect = before.effect }) before.saves true left saves → EntersFirst before left saves
enters_choice a b before left saves is may = enters_first before left saves (choice_saved a b (subst (λ t. choices t ≤ length before.saves) is may.enough))

-- a leaf
pub leaf_may : {arities : List ℕ} {invariants : List (List ℕ)} {tx : Tx} (before : Attempt) {path : List ℕ} {saves : List Save} → MayRunFrom arities invariants tx (place_of before path saves) → IsLeaf tx → MayWalk arities invariants tx before.effect
leaf_may {tx = tx} before {path} {saves} may leaf = record {
  registers = may.registers;
  steps = may.steps;
  known = may.known;
  writes = leaf_room is_write 64 (λ e. length e.writes) may.writes.0 path tx saves (length before.effect.writes) leaf may.writes.1;
  checks = leaf_room is_check 8 (λ e. length e.names) may.names.0 path tx saves (length before.effect.names) leaf may.names.1;
  retires = leaf_room is_retire 8 (λ e. length e.retired) may.retires.0 path tx saves (length before.effect.retired) leaf may.retires.1;
}

-- whose effect had room
pub leaf_runs : {IsStated : StepMeanings → Type 0} {arities : List ℕ} {invariants : List (List ℕ)} {signatures : List Signature} {tx : Tx} (before after : Attempt) {path after_path : List ℕ} {saves : List Save} {seen : Taken} {out : Out} {left : List Bool}
    → MayRunFrom arities invariants tx (place_of before path saves) → IsLeaf tx → after_path ≡ path
    → length after.effect.writes ≤ length before.effect.writes + count is_write tx → length after.effect.names ≤ length before.effect.names + count is_check tx → length after.effect.retired ≤ length before.effect.retired + count is_retire tx → ((ask : Ask) → out ≡ Stopped ask → after.effect ≡ before.effect)
    → ((m : StepMeanings) (footprint : List ℕ → List ℕ) → IsStated m → AreOf signatures footprint → (saves : List Save) → LeadsTo m footprint seen tx (place_of before [] saves) out (place_of after [] saves) left)
    → RunsTo IsStated signatures seen tx (place_of before path saves) out (place_of after after_path saves) left
leaf_runs {IsStated} {signatures = signatures} {tx = tx} before after {path = path} {saves = saves} {seen = seen} {out = out} {left = left} may leaf stood writes names retires stays leads =
    let none : path ≡ [] = leaf_start is_write 64 (λ e. length e.writes) may.writes.0 path tx saves (length before.effect.writes) leaf may.writes.1 in
    subst (λ l. RunsTo IsStated signatures seen tx (place_of before path saves) out (place_of after l saves) left) (sym stood) (record {
      path = leaf_path out (depth tx) path none (leaf_depth tx leaf);
      writes = λ rest h. leaf_leaves is_write 64 (λ e. length e.writes) rest out tx path saves before.effect after.effect none writes stays h;
      names = λ rest h. leaf_leaves is_check 8 (λ e. length e.names) rest out tx path saves before.effect after.effect none names stays h;
      retires = λ rest h. leaf_leaves is_retire 8 (λ e. length e.retired) rest out tx path saves before.effect after.effect none retires stays h;
      leads = λ m footprint stated of. subst (λ l. LeadsTo m footprint seen tx (place_of before l saves) out (place_of after l saves) left) (sym none) (leads m footprint stated of saves);
    })
