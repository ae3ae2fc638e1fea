-- What was committed by one program is so by one that follows on it.
use Rattle.std.proofs.Common.{◌≡◌, ℕ, ℤ, Bool, ◌||◌, ◌&&◌, not, true, false, bytes_eq, List, [], ◌∷◌, ◌++◌, flat_map, get_or, All, IsTrue, Option, Some, None, refl, sym, ap, ◌∙◌, subst}
use Rattle.std.proofs.lemmas.List.Concat.{flat_map-cons}
use Rattle.std.proofs.lemmas.List.Folds.{list_any-append}
use Rattle.std.specs.Prelude.{if◌then◌else◌}
use Rattle.tmem_effect.specs.Names.{has_name, without_names}
use Rattle.tmem_effect.specs.State.{State, is_empty, apply, fold}
use Rattle.tmem_effect.specs.declared.effect.Effect.{Effect}
use Rattle.tmem_effect.proofs.Laws.{has_name-apply, has_name-without_names}
use Rattle.tmem_tree.specs.Run.{RunResult, Normal, Retried, Aborted, Broken, run, start}
use Rattle.tmem_tree.specs.StepAnswers.{StepMeanings}
use Rattle.tmem_tree.specs.Visited.{asks}
use Rattle.tmem_tree.specs.declared.tx.Tx.{Tx}
use Rattle.tmem_tree.specs.declared.settled.Settled.{Settled}
use Rattle.tmem_tree.specs.declared.settled.Settled.TheVariants.{Committed, Seen}
use Rattle.tmem_invariants.specs.Meanings.{IsSound, values_at, holds}
use Rattle.tmem_invariants.proofs.Laws.{All-at_name, first_false-none, holds_from_none}
use Rattle.tmem_core.specs.Program.{Program}
use Rattle.tmem_core.specs.Verdict.{map_of, first_broken, unless_broken, verdict_on, verdict, effect_on, effect_of, committed, state_after, serial_state, serial_effects, IsCommitted, AreCommitted}
use Rattle.tmem_core.specs.Following.{MeansAs, StaysAs, Follows, names_tested, names_left}
use Rattle.tmem_core.proofs.SameRuns.{AskAlike, first_alike, rest_alike, same_run}
use Rattle.tmem_core.proofs.SerialLaws.{committed_of-one, state_after-committed}

-- what is committed breaks nothing
none_broken : (broken : Option (List ℕ)) (v : Settled) → IsCommitted (unless_broken broken v) → broken ≡ None
none_broken None v is = refl
none_broken (Some name) v is = absurd is

-- the names that these plans register
abbrev names_added : Program → State → List Tx → List (List ℕ)
names_added p s txs = flat_map (λ (e : Effect). e.names) (serial_effects p s txs)

-- a name that is kept or added was there or was added
was_there : (retired there added : Bool) → ((not retired && there) || added) ≡ true → (there || added) ≡ true
was_there retired true added is = refl
was_there true false added is = is
was_there false false added is = is

-- what is among the first is among all of them
among_first : (a b c : Bool) → (a || b) ≡ true → (a || (b || c)) ≡ true
among_first true b c is = refl
among_first false true c is = refl
among_first false false c is = cc

-- what is there behind an effect, or is added later, was there or was added
among_rest : (a b c retired : Bool) → ((b || (not retired && a)) || c) ≡ true → (a || (b || c)) ≡ true
among_rest true b c retired is = refl
among_rest false true c retired is = refl
among_rest false false c true is = is
among_rest false false c false is = is

module _ (p q : Program) where
  -- a name that means the same is true of the same values
  holds_as : (values : List ℤ) (name : List ℕ) → MeansAs p.tests q.tests name → holds q.tests values name ≡ holds p.tests values name
  holds_as values name is = is.test (values_at values (q.tests.footprint name)) ∙ ap (λ f. p.tests.test name (values_at values f)) is.footprint

  -- a sound state stays so
  pub sound_after : (s : State) (txs : List Tx) (values : List ℤ) → Follows p s txs q → IsSound p.tests p.names (serial_state p s txs).names values → IsSound q.tests q.names (serial_state p s txs).names values
  sound_after s txs values follows sound = record {
    there = follows.there;
    hold = λ k d below. holds_as values (get_or (serial_state p s txs).names k d) (follows.same k d below) ∙ sound.hold k d below;
  }

  -- what broke no invariant breaks none
  none_broken_still : (s : State) (e : Effect) → ((name : List ℕ) → (has_name s.names name || has_name e.names name) ≡ true → StaysAs p q name) → first_broken p s e ≡ None → first_broken q s e ≡ None
  none_broken_still s e stays none =
      first_false-none q.tests q.names kept e.names (apply s e).values (λ name there asked.
      let it = stays name (was_there (has_name e.retired name) (has_name s.names name) (has_name e.names name) (ap (λ b. b || has_name e.names name) (sym (has_name-without_names s.names e.retired name)) ∙ asked)) there in
      holds_as (apply s e).values name it.1 ∙ holds_from_none p.tests p.names kept e.names (apply s e).values none name it.0 asked)
    where
      kept : List (List ℕ)
      kept = without_names s.names e.retired

  -- so a run that is committed is so again
  same_on : (s : State) (r : RunResult) → IsCommitted (verdict_on p s r) → ((name : List ℕ) → (has_name s.names name || has_name (effect_on r).names name) ≡ true → StaysAs p q name) → verdict_on q s r ≡ verdict_on p s r
  same_on s (Normal view) is stays =
      let answer : Settled = if is_empty view.effect then Seen s.count view.registers else Committed s.count view.registers in
      let none = none_broken (first_broken p s view.effect) answer is in
      ap (λ b. unless_broken b answer) (none_broken_still s view.effect stays none ∙ sym none)
  same_on s Retried is stays = refl
  same_on s (Aborted code) is stays = refl
  same_on s (Broken name) is stays = refl

  module _ (steps : q.steps ≡ p.steps) where
    -- tests that mean the same make the same run
    same_result : (s : State) (tx : Tx) → AskAlike p.tests q.tests (asks p.steps p.tests tx (start (map_of s))) → run q.steps q.tests tx (start (map_of s)) ≡ run p.steps p.tests tx (start (map_of s))
    same_result s tx alike = ap (λ (m : StepMeanings). run m q.tests tx (start (map_of s))) steps ∙ same_run p.steps p.tests q.tests tx (start (map_of s)) alike

    same_verdict : (s : State) (tx : Tx) → IsCommitted (verdict p tx s) → ((name : List ℕ) → (has_name s.names name || has_name (effect_of p tx s).names name) ≡ true → StaysAs p q name)
        → run q.steps q.tests tx (start (map_of s)) ≡ run p.steps p.tests tx (start (map_of s)) → verdict q tx s ≡ verdict p tx s
    same_verdict s tx is stays same = ap (verdict_on q s) same ∙ same_on s (run p.steps p.tests tx (start (map_of s))) is stays

    -- and the serial order is the same
    order_on : (s : State) (txs : List Tx) → AreCommitted p s txs → ((name : List ℕ) → (has_name s.names name || has_name (names_added p s txs) name) ≡ true → StaysAs p q name) → All (MeansAs p.tests q.tests) (names_tested p s txs)
        → AreCommitted q s txs × (serial_state q s txs ≡ serial_state p s txs)
    order_on s [] are stays alike = (tt, refl)
    order_on s (tx ∷ txs) are stays alike =
        let next = state_after p s tx in
        let e = effect_of p tx s in
        let more = names_added p next txs in
        let is = state_after-committed p s tx are.0 in
        let added : names_added p s (tx ∷ txs) ≡ e.names ++ more = ap (λ (es : List Effect). flat_map (λ (x : Effect). x.names) (es ++ serial_effects p next txs)) (committed_of-one p s tx are.0) ∙ flat_map-cons (λ (x : Effect). x.names) e (serial_effects p next txs) in
        let all : (name : List ℕ) → has_name (names_added p s (tx ∷ txs)) name ≡ (has_name e.names name || has_name more name) =
        (λ name. ap (λ ns. has_name ns name) added ∙ list_any-append (λ n. bytes_eq n name) e.names more) in
        let run_same = same_result s tx (first_alike p.tests q.tests (asks p.steps p.tests tx (start (map_of s))) (names_tested p next txs) alike) in
        let verdicts = same_verdict s tx are.0 (λ name here. stays name (ap (λ b. has_name s.names name || b) (all name) ∙ among_first (has_name s.names name) (has_name e.names name) (has_name more name) here)) run_same in
        let same : state_after q s tx ≡ next =
        ap (λ v. fold s (committed v (effect_of q tx s))) verdicts ∙ ap (λ (r : RunResult). fold s (committed (verdict p tx s) (effect_on r))) run_same in
        let later : (name : List ℕ) → (has_name next.names name || has_name more name) ≡ true → StaysAs p q name =
        (λ name there. stays name (ap (λ b. has_name s.names name || b) (all name) ∙ among_rest (has_name s.names name) (has_name e.names name) (has_name more name) (has_name e.retired name)
        (ap (λ b. b || has_name more name) (sym (has_name-apply s e name) ∙ ap (λ (x : State). has_name x.names name) (sym is)) ∙ there))) in
        let rest = order_on next txs are.1 later (rest_alike p.tests q.tests (asks p.steps p.tests tx (start (map_of s))) (names_tested p next txs) alike) in
        ((subst IsCommitted (sym verdicts) are.0, subst (λ (x : State). AreCommitted q x txs) (sym same) rest.0), ap (λ (x : State). serial_state q x txs) same ∙ rest.1)

  pub same_order : (s : State) (txs : List Tx) → AreCommitted p s txs → All (λ name. IsTrue (has_name p.names name)) (serial_state p s txs).names → Follows p s txs q
      → AreCommitted q s txs × (serial_state q s txs ≡ serial_state p s txs)
  same_order s txs are there follows = order_on follows.steps s txs are (λ name met. by name (has_name last name) refl met) follows.asked
    where
      last : List (List ℕ)
      last = (serial_state p s txs).names

      met_all : List (List ℕ)
      met_all = s.names ++ names_added p s txs

      by : (name : List ℕ) (b : Bool) → has_name last name ≡ b → (has_name s.names name || has_name (names_added p s txs) name) ≡ true → StaysAs p q name
      by name true is met = λ tested. (All-at_name (λ n. IsTrue (has_name p.names n)) last name there is, All-at_name (MeansAs p.tests q.tests) last name follows.same is)
      by name false is met = All-at_name (StaysAs p q) (names_left p s txs) name follows.left
          (has_name-without_names met_all last name ∙ ap (λ b. not b && has_name met_all name) is ∙ list_any-append (λ n. bytes_eq n name) s.names (names_added p s txs) ∙ met)
