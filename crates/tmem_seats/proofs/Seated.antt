-- The core stays what its seat says, after an attempt is settled.
use Rattle.std.proofs.Common.{◌≡◌, All, IsTrue, ◌⊎◌, inl, inr, ⊎_elim, ℕ, Result, Ok, ◌+◌, ◌-◌, ◌≤◌, List, [], ◌∷◌, ◌++◌, length, drop, refl, sym, ap, ◌∙◌, subst, arith}
use Rattle.std.proofs.lemmas.List.{append-nil, length-map, drop-drop, drop-append-le}
use Rattle.tmem_effect.specs.Prefix.{IsPrefix}
use Rattle.tmem_effect.specs.State.{State, fold, IsWithin, StaysWithin}
use Rattle.tmem_effect.specs.declared.effect.Effect.{Effect}
use Rattle.tmem_effect.proofs.Laws.{fold-append, count-fold, length-values-fold}
use Rattle.tmem_core.specs.declared.core_state.Core.{Core}
use Rattle.tmem_core.specs.Held as core
use Rattle.tmem_core.specs.Held.{core_view, core_state, durable_of, core_table, committing, knowing}
use Rattle.tmem_core.specs.Decisions.{answer_of, taken_by}
use Rattle.tmem_core.specs.declared.decision.Decision.{Decision}
use Rattle.tmem_core.specs.declared.decision.Decision.TheVariants.{Committed}
use Rattle.tmem_fault.specs.declared.fault.Fault.{Fault}
use Rattle.tmem_tentative.specs.declared.attempt.Attempt.{Attempt}
use Rattle.tmem_invariants.specs.TableNames.{has_name}
use Rattle.tmem_core.specs.Program.{Program, IsProgramOf}
use Rattle.tmem_core.proofs.Laws.{StaysWithin-taken}
use Rattle.tmem_spine.specs.declared.view.MarkedEffect.{MarkedEffect}
use Rattle.tmem_spine.specs.History.{count, marked_effect, unmarked}
use Rattle.tmem_spine.specs.Views.{CoreRoleView}
use Rattle.tmem_seats.specs.Histories.{state_after_history, marked, AreSound, IsSoundState}
use Rattle.tmem_seats.specs.Seats.{IsCoreOf}

unmarked-append : (xs ys : List MarkedEffect) → unmarked (xs ++ ys) ≡ unmarked xs ++ unmarked ys
unmarked-append [] ys = refl
unmarked-append (x ∷ xs) ys = ap (λ (l : List Effect). x.effect ∷ l) (unmarked-append xs ys)

unmarked-marked : (mark : ℕ) (es : List Effect) → unmarked (marked mark es) ≡ es
unmarked-marked mark [] = refl
unmarked-marked mark (e ∷ es) = ap (λ (l : List Effect). e ∷ l) (unmarked-marked mark es)

pub after-append : (opening : State) (xs ys : List MarkedEffect) → state_after_history opening (xs ++ ys) ≡ fold (state_after_history opening xs) (unmarked ys)
after-append opening xs ys = ap (λ (es : List Effect). fold opening es) (unmarked-append xs ys) ∙ fold-append opening (unmarked xs) (unmarked ys)

pub count-after : (opening : State) (start : ℕ) (log : List MarkedEffect) → opening.count ≡ start → (state_after_history opening log).count ≡ count start log
count-after opening start log starts = omega (arith, count-fold opening (unmarked log), length-map log (λ (e : MarkedEffect). e.effect))

pub values-after : (opening : State) (log : List MarkedEffect) → length (state_after_history opening log).values ≡ length opening.values
values-after opening log = length-values-fold opening (unmarked log)

-- a prefix of a list with one more at its end is the whole, or one of the list before
prefix_push : (xs ys : List MarkedEffect) (y : MarkedEffect) → IsPrefix xs (ys ++ y ∷ []) → IsPrefix xs ys ⊎ (xs ≡ ys ++ y ∷ [])
prefix_push [] ys y p = inl refl
prefix_push (x ∷ []) [] y p = inr (sym p)
prefix_push (x ∷ z ∷ xs) [] y p = absurd (cc p)
prefix_push (x ∷ xs) (z ∷ ys) y p =
    let heads : z ≡ x = cc p in
    let tails : IsPrefix xs (ys ++ y ∷ []) = cc p in
    ⊎_elim (λ (t : IsPrefix xs ys). inl (cc (heads, t))) (λ (t : xs ≡ ys ++ y ∷ []). inr (cc (heads, t))) (prefix_push xs ys y tails)

sound_more : (p : Program) (opening : State) (log : List MarkedEffect) (e : MarkedEffect) → AreSound p opening log → IsSoundState p (state_after_history opening (log ++ e ∷ [])) → AreSound p opening (log ++ e ∷ [])
sound_more p opening log e each last xs begins =
    ⊎_elim (λ (t : IsPrefix xs log). each xs t) (λ (t : xs ≡ log ++ e ∷ []). subst (λ (l : List MarkedEffect). IsSoundState p (state_after_history opening l)) (sym t) last) (prefix_push xs log e begins)

-- a core is sound for its table's program
sound_core : {T : Type 0} {t : _} (p : Program) (c : Core T t) → IsProgramOf t (core_table c) p → IsSoundState p (core_state c)
sound_core p c are = record {
  there = subst (λ (ns : List (List ℕ)). All (λ (name : List ℕ). IsTrue (has_name ns name)) (core_state c).names) (sym are.names) c.known;
  hold = c.sound p.tests are.tests;
}

-- what was decided adds one effect or none
sound_taken : (p : Program) (opening : State) (log : List MarkedEffect) (mark : ℕ) (decision : Result Decision Fault) (a : Attempt) → AreSound p opening log
    → IsSoundState p (state_after_history opening (log ++ marked mark (taken_by decision a))) → AreSound p opening (log ++ marked mark (taken_by decision a))
sound_taken p opening log mark (Ok (Committed number)) a each last = sound_more p opening log (marked_effect mark a.effect) each last
sound_taken p opening log mark _ a each last = subst (AreSound p opening) (sym (append-nil log)) each

drop_more : (xs ys : List Effect) (n k : ℕ) → n + k ≤ length xs → drop (n + k) (xs ++ ys) ≡ drop k (drop n xs) ++ ys
drop_more xs ys n k within = drop-append-le (n + k) xs ys within ∙ ap (λ (l : List Effect). l ++ ys) (sym (drop-drop k n xs))

-- what the core is after it learned how many are durable, and settled an attempt
pub core_settled : {T : Type 0} {t : _} (start : ℕ) (opening : State) (p : Program) (c c' : Core T t) (v v' : CoreRoleView) (mark n : ℕ) (decision : Result Decision Fault) (a : Attempt) → IsCoreOf start opening p c v
    → core_view c' ≡ committing (taken_by decision a) (knowing n (core_view c)) → v.trimmed ≤ n → n ≤ count start v.committed
    → v' ≡ record v { committed = v.committed ++ marked mark (taken_by decision a); trimmed = n } → IsCoreOf start opening p c' v'
core_settled {T = T} {t = t} start opening p c c' v v' mark n decision a was view low high is =
    let es : List Effect = taken_by decision a in
    let log : List MarkedEffect = v.committed ++ marked mark es in
    let plain : unmarked log ≡ unmarked v.committed ++ es = unmarked-append v.committed (marked mark es) ∙ ap (λ (l : List Effect). unmarked v.committed ++ l) (unmarked-marked mark es) in
    let state : core_state c' ≡ state_after_history opening log =
    ap (λ (w : core.CoreView T). w.state) view ∙ (ap (λ (s : State). fold s es) was.state ∙ sym (ap (λ (l : List Effect). fold opening l) plain ∙ fold-append opening (unmarked v.committed) es)) in
    let program : IsProgramOf t (core_table c') p = subst (λ (x : T). IsProgramOf t x p) (sym (ap (λ (w : core.CoreView T). w.table) view)) was.table in
    let late : start ≤ v.trimmed = was.late in
    let long = length-map v.committed (λ (e : MarkedEffect). e.effect) in
    let k : (v.trimmed - start) + (n - v.trimmed) ≡ n - start = omega arith in
    let waits : drop (n - start) (unmarked log) ≡ drop (n - v.trimmed) (drop (v.trimmed - start) (unmarked v.committed)) ++ es =
    ap (λ (l : List Effect). drop (n - start) l) plain
    ∙ (ap (λ (m : ℕ). drop m (unmarked v.committed ++ es)) (sym k) ∙ drop_more (unmarked v.committed) es (v.trimmed - start) (n - v.trimmed) (omega arith)) in
    let limits : IsWithin (core_state c') = record { count = c'.countable; names = c'.registered.few } in
    let stays : StaysWithin opening (unmarked v.committed ++ es) =
    StaysWithin-taken opening (unmarked v.committed) a.effect (answer_of decision a.registers) was.within (subst IsWithin (state ∙ ap (λ (l : List Effect). fold opening l) plain) limits) in
    subst (IsCoreOf start opening p c') (sym is) record {
      state = state;
      starts = was.starts;
      trimmed = ap (λ (w : core.CoreView T). w.durable) view;
      waits = ap (λ (w : core.CoreView T). w.waiting) view ∙ (ap (λ (l : List Effect). drop (n - durable_of c) l ++ es) was.waits
          ∙ (ap (λ (m : ℕ). drop (n - m) (drop (v.trimmed - start) (unmarked v.committed)) ++ es) was.trimmed ∙ sym waits));
      late = omega arith;
      sound = sound_taken p opening v.committed mark decision a was.sound (subst (IsSoundState p) state (sound_core p c' program));
      within = subst (StaysWithin opening) (sym plain) stays;
      table = program;
    }

-- what waits behind the number that is durable now
pub drop_again : (start n d t d' : ℕ) (durable : List MarkedEffect) (waits waited all : List Effect) → d ≡ n → n ≡ count start durable → d' ≡ t → start ≤ t → t ≤ n → waits ≡ drop (n - d') waited → waited ≡ drop (t - start) all
    → drop (n - d) waits ≡ drop (length durable) all
drop_again start n d t d' durable waits waited all now exact was late low here there =
    let none : n - d ≡ 0 = omega arith in
    let k : (t - start) + (n - d') ≡ length durable = omega arith in
    ap (λ (m : ℕ). drop m waits) none ∙ (here ∙ (ap (λ (l : List Effect). drop (n - d') l) there ∙ (drop-drop (n - d') (t - start) all ∙ ap (λ (m : ℕ). drop m all) k)))
