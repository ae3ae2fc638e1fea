-- The point of a run after a turn.
use Rattle.std.proofs.Common.{◌≡◌, inl, inr, ℕ, ◌+◌, ℤ, Bool, true, List, [], ◌∷◌, ◌++◌, length, map, length-append, nat_eq, sym, ◌∙◌, ap, subst, Option, Some, None}
use Rattle.std.specs.Prelude.{option_map, slice_get, slice_index_or}
use Rattle.std.proofs.Math.Logic.{∥∥₁_elim}
use Rattle.std.proofs.Props.{props}
use Rattle.indexmap.proofs.CallerLemmas.{insert_entry-new}
use Rattle.tmem_fault.specs.declared.fault.Fault.{Fault}
use Rattle.tmem_effect.specs.State.{State}
use Rattle.tmem_invariants.specs.Meanings.{Meanings}
use Rattle.tmem_fault.specs.Name.{has_name}
use Rattle.tmem_tree.specs.declared.tx.Tx.{Tx}
use Rattle.tmem_tree.specs.declared.signature.Signature.{Signature}
use Rattle.tmem_tree.specs.Plans.{PlanView, FitsSignatures}
use Rattle.tmem_tree.specs.Signatures.{AreMeant, names_of, footprint_in}
use Rattle.tmem_tree.specs.StepAnswers.{StepMeanings}
use Rattle.tmem_tree.specs.Visited.{Ask, visited}
use Rattle.tmem_tree.proofs.Laws.{footprint_in-AreMeant}
use Rattle.tmem_tentative.specs.Cursors.{IsAt, HasEnded, given, answers, attempt_of}
use Rattle.tmem_tentative.specs.Right.{IsOutcome, Agrees, valued}
use Rattle.tmem_tentative.specs.declared.attempt.Outcome.{Outcome}
use Rattle.tmem_tentative.specs.declared.attempt.Outcome.TheVariants as outcome
use Rattle.tmem_tentative.specs.declared.cursor.Cursor.{Cursor}
use Rattle.tmem_core.proofs.Laws.{filled_by}
use Rattle.tmem_core.specs.Program.{Program}
use Rattle.tmem_core.specs.Verdict.{map_of}
use Rattle.tmem_event.specs.declared.event.Reply.{Reply}
use Rattle.tmem_event.specs.declared.event.Reply.TheVariants as reply
use Rattle.tmem_world.specs.declared.attempt.WorldAttempt.{WorldAttempt}
use Rattle.tmem_world.specs.Attempts.{HoldsEnded, ComesTo, TurnsBegun}
use Rattle.tmem_world.specs.WorldModel.{WorldModel, AttemptModel, NoTransaction, Begun, Ended, AllowsTurn, value_or, overridden, goes_on, present, holding, attempt_at}
use Rattle.tmem_world.specs.Represents.{AttemptIs}
use Rattle.tmem_world.proofs.HeldAttempts.{plan_of, is_there}
use Rattle.tmem_world.proofs.Points.{same_attempt}

-- the map overridden by reads agrees with them
overridden-agrees : (reads : List (ℕ × ℤ)) (values : ℕ → ℤ) → Agrees (overridden reads values) reads
overridden-agrees reads values var n is = ap (λ (o : Option ℤ). value_or o (values var)) is

-- What a turn finds of a plan that has not ended: this cursor stands where the plan went on, by what the old one was given and
-- answered.
module _ (stated : StepMeanings → Type 0) (tested : Meanings → Type 0) (held : Option PlanView) (plan had : PlanView) (is : held ≡ Some plan) (also : held ≡ Some had) (signatures : (tests : Meanings) → tested tests → FitsSignatures tests had)
    (old mid : Cursor) where
  one : had ≡ plan
  one = let same : Some had ≡ Some plan = sym also ∙ is in cc

  -- what the evaluation comes to there
  pub comes_to : given mid ≡ given old → answers mid ≡ answers old → (o : Outcome)
      → ((m : StepMeanings) (tests : Meanings) → stated m → FitsSignatures tests had → IsAt m tests had.tree old → IsOutcome m tests had.tree (given mid) (length (answers mid)) o)
      → ComesTo stated tested plan.tree old o
  comes_to same again o right = λ m tests means asked at.
      let so = right m tests means (signatures tests asked) (subst (λ (p : PlanView). IsAt m tests p.tree old) (sym one) at) in
      subst (λ (p : PlanView). IsOutcome m tests p.tree (given old) (length (answers old)) o) one
      (subst (λ (rs : List (ℕ × ℤ)). IsOutcome m tests had.tree rs (length (answers old)) o) same
      (subst (λ (bs : List Bool). IsOutcome m tests had.tree (given mid) (length bs) o) again so))

  -- it stands there where tests gave the answers
  pub stays_at : ((m : StepMeanings) (tests : Meanings) → stated m → FitsSignatures tests had → IsAt m tests had.tree old → IsAt m tests had.tree mid)
      → (m : StepMeanings) (tests : Meanings) → stated m → tested tests → IsAt m tests plan.tree old → IsAt m tests plan.tree mid
  stays_at goes m tests means asked at =
      subst (λ (p : PlanView). IsAt m tests p.tree mid) one (goes m tests means (signatures tests asked) (subst (λ (p : PlanView). IsAt m tests p.tree old) (sym one) at))

-- a test that a plan asks for is one of the table's, with as many values as its footprint has variables there
pub filled_in : (names footprints : List (List ℕ)) (stated : Meanings → Type 0) → ∥ ((m : Meanings) × stated m) ∥₁ → ((m : Meanings) → stated m → map m.footprint names ≡ footprints)
    → (signatures : List Signature) → ((m : Meanings) → stated m → AreMeant m signatures) → (name : List ℕ) (values : List ℤ) → has_name (names_of signatures) name ≡ true → length values ≡ length (footprint_in signatures name)
    → (index : ℕ) → slice_get names index ≡ Some name → length values ≡ length (slice_index_or footprints index [])
filled_in names footprints stated some over signatures meant name values known filled index there = ∥∥₁_elim some (hlevel props) (λ (it : (m : Meanings) × stated m).
    filled_by it.0 names footprints name (length values) (over it.0 it.1) (filled ∙ ap length (footprint_in-AreMeant it.0 signatures name (meant it.0 it.1) known)) index there)

module _ (program : Program) (m : WorldModel) (k : ℕ) (old new : WorldAttempt) (state : State) (now : state ≡ present program m) (stated : StepMeanings → Type 0) (means : stated program.steps)
    (tested : Meanings → Type 0) (asked : tested program.tests) where
  -- the answer to a turn, and the attempt then
  abbrev Turned : AttemptModel → Reply → Type 0
  Turned a r = (after : AttemptModel) × AllowsTurn program a m k r (holding m k after) × AttemptIs program new after

  unchanged : (a : AttemptModel) → attempt_at m k ≡ a → holding m k a ≡ m
  unchanged a here = ap (holding m k) (sym here) ∙ same_attempt m k

  -- what the plan's evaluation comes to, on what the attempt was given
  outcome_here : (plan : Tx) (reads : List (ℕ × ℤ)) (answered : ℕ) → IsAt program.steps program.tests plan old.cursor → given old.cursor ≡ reads → length (answers old.cursor) ≡ answered
      → (o : Outcome) → ComesTo stated tested plan old.cursor o → IsOutcome program.steps program.tests plan reads answered o
  outcome_here plan reads answered was read counted o comes =
      subst (λ (rs : List (ℕ × ℤ)). IsOutcome program.steps program.tests plan rs answered o) read
      (subst (λ (n : ℕ). IsOutcome program.steps program.tests plan (given old.cursor) n o) counted (comes program.steps program.tests means asked was))

  -- a begun plan
  begun_turns : (plan : Tx) (reads : List (ℕ × ℤ)) (answered : ℕ) → attempt_at m k ≡ Begun plan reads answered → IsAt program.steps program.tests plan old.cursor → given old.cursor ≡ reads → length (answers old.cursor) ≡ answered → (¬ HasEnded old.cursor)
      → option_map (λ p. p.tree) new.plan ≡ Some plan → IsAt program.steps program.tests plan new.cursor
      → (r : Reply) → TurnsBegun stated tested state plan old.cursor r new.cursor → Turned (Begun plan reads answered) r
  begun_turns plan reads answered here was read counted going held at (reply.Read var value) it =
      let values = map_of (present program m) in
      let lacks = outcome_here plan reads answered was read counted (outcome.Need var) it.0 (overridden reads values) (overridden-agrees reads values) in
      let is : value ≡ values var = it.2 ∙ ap (λ (s : State). map_of s var) now in (
        Begun plan (reads ++ (var, value) ∷ []) answered,
        inl (ap (λ n. (reply.Read var n, holding m k (Begun plan (reads ++ (var, n) ∷ []) answered))) is ∙ ap (λ (o : Option Ask). goes_on o program m k plan reads answered) (sym lacks)),
        (
          record {
            plan = held;
            at = at;
            given = it.3 ∙ insert_entry-new nat_eq (attempt_of old.cursor).reads var value it.1 ∙ ap (λ (rs : List (ℕ × ℤ)). rs ++ (var, value) ∷ []) read;
          },
          ap length it.4 ∙ counted,
          it.5,
        ),
      )
  begun_turns plan reads answered here was read counted going held at (reply.Probed name holds) it =
      let values = map_of (present program m) in
      let probe = it.0 in
      let asks = outcome_here plan reads answered was read counted (outcome.Probe probe) it.1 (overridden reads values) (overridden-agrees reads values) in (
        Begun plan reads (answered + 1),
        inl
            (ap (λ (n : List ℕ). (reply.Probed n holds, holding m k (Begun plan reads (answered + 1)))) it.2
            ∙ ap (λ (b : Bool). (reply.Probed probe.name b, holding m k (Begun plan reads (answered + 1)))) (it.3 program.tests asked)
            ∙ ap (λ (o : Option Ask). goes_on o program m k plan reads answered) (sym asks)),
        (
          record { plan = held; at = at; given = it.4 ∙ read },
          ap length it.5 ∙ length-append (answers old.cursor) (holds ∷ []) ∙ ap (λ (n : ℕ). n + 1) counted,
          it.6,
        ),
      )
  begun_turns plan reads answered here was read counted going held at reply.Ended it =
      let values = overridden reads (map_of (present program m)) in
      let right = outcome_here plan reads answered was read counted (outcome.Ended (attempt_of new.cursor)) it.0 in
      let so = right.0 values (overridden-agrees reads (map_of (present program m))) in (
        Ended plan (valued values (visited program.steps program.tests plan values)),
        inl (ap (λ (o : Option Ask). goes_on o program m k plan reads answered) (sym so.0)),
        (record { plan = held; at = at; given = so.1 }, it.2),
      )
  begun_turns plan reads answered here was read counted going held at (reply.Fault f) it = (
    Begun plan reads answered,
    inr (ap (λ (x : Fault). reply.Fault x) it.0, unchanged (Begun plan reads answered) here),
    (record { plan = held; at = at; given = it.1.given ∙ read }, ap length it.1.answers ∙ counted, λ ended. going (sym it.1.stage ∙ ended)),
  )
  begun_turns plan reads answered here was read counted going held at _ it = absurd it

  -- any attempt
  pub turns : (a : AttemptModel) (r : Reply) → attempt_at m k ≡ a → AttemptIs program old a
      → (old.plan ≡ None → (r ≡ reply.Idle) × (new ≡ old))
      → (HoldsEnded old → (r ≡ reply.Ended) × (new ≡ old))
      → ((plan : PlanView) → old.plan ≡ Some plan → (¬ HasEnded old.cursor) → TurnsBegun stated tested state plan.tree old.cursor r new.cursor)
      → ((plan : PlanView) → old.plan ≡ Some plan → IsAt program.steps program.tests plan.tree old.cursor → IsAt program.steps program.tests plan.tree new.cursor)
      → new.plan ≡ old.plan
      → Turned a r
  turns NoTransaction r here holds idle ended begun at same =
      let it = idle holds in
      (NoTransaction, (it.0, unchanged NoTransaction here), subst (λ (s : WorldAttempt). AttemptIs program s NoTransaction) (sym it.1) holds)
  turns (Ended plan reads) r here holds idle ended begun at same =
      let it = ended (is_there old.plan plan holds.0.plan, holds.1) in
      (Ended plan reads, (it.0, unchanged (Ended plan reads) here), subst (λ (s : WorldAttempt). AttemptIs program s (Ended plan reads)) (sym it.1) holds)
  turns (Begun tx reads answered) r here holds idle ended begun at same =
      let so = plan_of old.plan tx holds.0.plan in
      let stays = at so.plan so.held (subst (λ (p : Tx). IsAt program.steps program.tests p old.cursor) (sym so.tree) holds.0.at) in
      begun_turns tx reads answered here holds.0.at holds.0.given holds.1 holds.2 (ap (option_map (λ (p : PlanView). p.tree)) same ∙ holds.0.plan) (subst (λ (p : Tx). IsAt program.steps program.tests p new.cursor) so.tree stays) r
      (subst (λ (p : Tx). TurnsBegun stated tested state p old.cursor r new.cursor) so.tree (begun so.plan so.held holds.2))
