-- What is told tells of nothing but what the pass knows by then.
use Rattle.std.proofs.Common.{◌≡◌, ◌≢◌, ◌⊎◌, ⊎_elim, ℕ, zero, suc, ℤ, ◌≤◌, max, Bool, true, false, cond, ◌||◌, nat_le, nat_lt, ◌-◌, ◌==◌, List, [], ◌∷◌, ◌++◌, length, Option, Some, None, Result, Ok, Err, IfOk, refl, ap, sym, subst, arith, length-append}
use Rattle.std.specs.Prelude.{All, IfSome, MatchBool, is_some, if◌then◌else◌}
use Rattle.std.proofs.Props.{props}
use Rattle.std.proofs.Math.Logic.{∥∥₁_elim}
use Rattle.std.proofs.lemmas.Bool.Decides.{nat_tests}
use Rattle.std.proofs.lemmas.List.Elements.{All-nil, All-cons, All-append, All-weaker}
use Rattle.tmem_fault.specs.declared.fault.Cause.{Cause}
use Rattle.tmem_fault.specs.declared.fault.Fault.{Fault}
use Rattle.tmem_fault.specs.declared.fault.Fault.TheVariants as fault
use Rattle.tmem_effect.specs.State.{State, is_empty}
use Rattle.tmem_effect.specs.declared.effect.Effect.{Effect}
use Rattle.tmem_effect.proofs.Laws.{IsPrefix-length}
use Rattle.tmem_spine.specs.declared.view.MarkedEffect.{MarkedEffect}
use Rattle.tmem_spine.specs.History.{count, marked_effect}
use Rattle.tmem_spine.specs.Views.{PassRoleView}
use Rattle.tmem_tree.specs.declared.tx.Tx.{Tx}
use Rattle.tmem_tree.specs.declared.settled.Settled.{Settled}
use Rattle.tmem_tree.specs.declared.settled.Settled.TheVariants.{Committed, Seen, Retry, Aborted, Refused}
use Rattle.tmem_tentative.specs.Right.{IsRight}
use Rattle.tmem_tentative.specs.declared.attempt.Attempt.{Attempt}
use Rattle.tmem_tentative.specs.declared.attempt.Ending.{Ending}
use Rattle.tmem_tentative.specs.declared.attempt.Ending.TheVariants as ended
use Rattle.tmem_core.specs.Program.{Program}
use Rattle.tmem_core.specs.Verdict.{committed, first_broken}
use Rattle.tmem_core.specs.SettleAnswer.{has_changed, sound_answer, unless_refused, ending_answer, settle_answer, committed_by}
use Rattle.tmem_seats.specs.Histories.{state_after_history, marked}
use Rattle.tmem_seats.specs.Settling.{SettlesPass, KnowsMore, SeesMore, IsNumberedWithin}
use Rattle.tmem_answers.specs.declared.answer.Answer.{Answer}
use Rattle.tmem_answers.specs.declared.answer.Answer.TheVariants as answer
use Rattle.tmem_requests.specs.declared.request.RequestBody.{RequestBody}
use Rattle.tmem_requests.specs.declared.request.RequestBody.TheVariants as ask
use Rattle.tmem_desk.specs.Asking.{Store, SettlesTx, IsNoPlan, IsPlanOf, TellsEnding, TellsResult, EndsTold, SeesValues, Tries, AnswersAsk}
use Rattle.tmem_desk.specs.Desks.{DeskView}
use Rattle.tmem_desk.specs.Durable.{IsAmong, TellsAmong}
use Rattle.tmem_desk.specs.Keeping.{kept_under, with_kept}
use Rattle.tmem_desk.specs.Leading.{first_puts}
use Rattle.tmem_desk.specs.Numbering.{with_numbers}
use Rattle.tmem_desk.specs.Serving.{Takes, TakesLine, TakesText, TakesShort, TakesLast, MayWait, HasNoPlan, IsAnsweredAtOnce, Runs, RunsCopy, kept_as, RefusesLine, RefusesLong, Round, TriesNext, TriesFirst, Wakes, Finishes, tells, tried, tried_again, by, one_line_more, waits, without, cancelled, closed, with_closed}
use Rattle.tmem_desk.specs.Steps.{LabelledSteps, Repeats}
use Rattle.tmem_desk.specs.Failing.{TellsBehind}
use Rattle.tmem_desk.specs.Told.{TellsWithin, answer_told, refused, rests_within}
use Rattle.tmem_desk.specs.declared.told.Told.{Told}
use Rattle.tmem_desk.specs.declared.told.Told.TheVariants as told
use Rattle.tmem_desk.proofs.Ends.{within_last}

-- how many transactions a pass knows to be committed or to be durable
abbrev pub reached : Store → PassRoleView → ℕ
reached s p = max (count s.start p.seen) (count s.start p.known)

-- what is told tells of these alone
abbrev pub IsTold : Store → DeskView → Type 0
IsTold s v = All (TellsAmong (reached s v.pass)) v.told

-- ---- a pass that knows more

knows_reach : (s : Store) (old new : PassRoleView) → KnowsMore old new → reached s old ≤ reached s new
knows_reach s old new more = omega (arith, ap (λ (v : PassRoleView). count s.start v.seen) more.same, IsPrefix-length old.known new.known more.begins)

sees_reach : (s : Store) (old new : PassRoleView) → SeesMore old new → reached s old ≤ reached s new
sees_reach s old new more = omega (arith, IsPrefix-length old.seen new.seen more.seen, IsPrefix-length old.known new.known more.known)

settles_reach : (s : Store) (attempt : Attempt) (old : PassRoleView) (answer : Result Settled Fault) (new : PassRoleView) → SettlesPass s.start s.opening s.program attempt old answer new → reached s old ≤ reached s new
settles_reach s attempt old answer new so =
    omega (
      arith,
      ap (λ (v : PassRoleView). count s.start v.seen) so.pass,
      ap (λ (v : PassRoleView). count s.start v.known) so.pass,
      length-append so.before (marked old.mark (committed_by answer attempt.effect)),
      IsPrefix-length old.known so.before so.begins,
    )

-- ---- the number that an answer to an attempt names is the count of the state

abbrev IsNumbered : ℕ → Settled → Type 0
IsNumbered n (Committed number registers) = number ≡ n
IsNumbered n (Seen at registers) = at ≡ n
IsNumbered n _ = Unit {0}

sound_numbered : (s : State) (durable : ℕ) (e : Effect) (registers : List ℤ) → IfOk (sound_answer s durable e registers) (IsNumbered s.count)
sound_numbered s durable e registers = on (is_empty e) (s.count - durable == 256) (s.count == 18446744073709551615) where
  on : (empty full spent : Bool) → IfOk (cond empty (Ok (Seen s.count registers)) (cond full (Err fault.Full) (cond spent (Err fault.Spent) (Ok (Committed s.count registers))))) (IsNumbered s.count)
  on true full spent = refl
  on false true spent = tt
  on false false true = tt
  on false false false = refl

answer_numbered : (p : Program) (shut : Bool) (s : State) (durable : ℕ) (a : Attempt) → IfOk (settle_answer p shut s durable a) (IsNumbered s.count)
answer_numbered p shut s durable a =
    on shut (has_changed s a.reads.entries) (ending_answer p a.ending s durable a.effect a.registers) (by_ending a.ending)
  where
    by_normal : (o : Option (List ℕ)) → IfOk (unless_refused o (sound_answer s durable a.effect a.registers)) (IsNumbered s.count)
    by_normal (Some name) = tt
    by_normal None = sound_numbered s durable a.effect a.registers

    by_ending : (e : Ending) → IfOk (ending_answer p e s durable a.effect a.registers) (IsNumbered s.count)
    by_ending ended.Normal = by_normal (first_broken p s a.effect)
    by_ending ended.Retry = tt
    by_ending (ended.Abort code) = tt
    by_ending (ended.Broken name) = tt

    on : (shut stale : Bool) (answer : Result Settled Fault) → IfOk answer (IsNumbered s.count) → IfOk (cond shut (Err fault.Closed) (cond stale (Err fault.Conflict) answer)) (IsNumbered s.count)
    on true stale answer is = tt
    on false true answer is = tt
    on false false answer is = is

settled_within : (start mark n : ℕ) (settled : Settled) (e : Effect) (before : List MarkedEffect) → IsNumbered n settled → n ≡ count start before
    → IsNumberedWithin (Ok settled) (count start (before ++ marked mark (committed settled e)))
settled_within start mark n (Committed number registers) e before is at = omega (arith, length-append before (marked_effect mark e ∷ []))
settled_within start mark n (Seen number registers) e before is at = omega (arith, length-append {A = MarkedEffect} before [])
settled_within start mark n Retry e before is at = tt
settled_within start mark n (Aborted code) e before is at = tt
settled_within start mark n (Refused name) e before is at = tt

-- ---- more are known

within_more : (settled : Settled) (n m : ℕ) → n ≤ m → IsNumberedWithin (Ok settled) n → IsNumberedWithin (Ok settled) m
within_more (Committed number registers) n m le is = omega arith
within_more (Seen number registers) n m le is = omega arith
within_more Retry n m le is = tt
within_more (Aborted code) n m le is = tt
within_more (Refused name) n m le is = tt

among_more : (given : Answer) (n m : ℕ) → n ≤ m → IsAmong n given → IsAmong m given
among_more (answer.Settled settled) n m le is = within_more settled n m le is
among_more (answer.Values number values) n m le is = omega arith
among_more (answer.State number names values) n m le is = omega arith
among_more (answer.Durable number) n m le is = omega arith
among_more given n m le is = tt

tells_more : (n m : ℕ) → n ≤ m → (t : Told) → TellsAmong n t → TellsAmong m t
tells_more n m le (told.Answer a) is = among_more a.answer n m le is
tells_more n m le (told.NoRequest refusal) is = tt

told_still : (n m : ℕ) (all : List Told) → n ≤ m → All (TellsAmong n) all → All (TellsAmong m) all
told_still n m all le is = All-weaker (TellsAmong n) (TellsAmong m) (tells_more n m le) all is

one_told : (n : ℕ) (id : ℤ) (given : Answer) → IsAmong n given → All (TellsAmong n) (answer_told id given ∷ [])
one_told n id given is = All-cons (TellsAmong n) (answer_told id given) [] is (All-nil (TellsAmong n))

-- what was told before, and more
told_and : (n m : ℕ) (all more : List Told) → n ≤ m → All (TellsAmong n) all → All (TellsAmong m) more → All (TellsAmong m) (all ++ more)
told_and n m all more le is one = All-append (TellsAmong m) all more (told_still n m all le is) one

-- ---- transactions that are settled

settled_reached : (s : Store) (attempt : Attempt) (settled : Settled) (old new : PassRoleView) → SettlesPass s.start s.opening s.program attempt old (Ok settled) new → IsNumberedWithin (Ok settled) (reached s new)
settled_reached s attempt settled old new so =
    let n : ℕ = (state_after_history s.opening so.before).count in
    let known : List MarkedEffect = so.before ++ marked old.mark (committed settled attempt.effect) in
    let numbered : IsNumbered n settled =
    subst (λ (r : Result Settled Fault). IfOk r (IsNumbered n)) (sym so.answered) (answer_numbered s.program so.is_shut (state_after_history s.opening so.before) so.durable attempt) in
    let within = settled_within s.start old.mark n settled attempt.effect so.before numbered so.number in
    let same : count s.start new.known ≡ count s.start known = ap (λ (v : PassRoleView). count s.start v.known) so.pass in
    within_more settled (count s.start known) (reached s new) (omega (arith, same)) within

at_last_reach : (s : Store) (tx : Tx) (settled : Settled) (old new : PassRoleView) → SettlesTx s tx old settled new → reached s old ≤ reached s new
at_last_reach s tx settled old new = ⊎_elim
    (λ (no : (Ok settled ≡ Err fault.Memory) × KnowsMore old new). absurd (cc (no.0)))
    (λ (held : ∥ ((attempt : Attempt) × IsRight s.program.steps s.program.tests tx attempt × SettlesPass s.start s.opening s.program attempt old (Ok settled) new) ∥₁).
    ∥∥₁_elim held (hlevel props) (λ h. settles_reach s h.0 old (Ok settled) new h.2))

at_last_reached : (s : Store) (tx : Tx) (settled : Settled) (old new : PassRoleView) → SettlesTx s tx old settled new → IsNumberedWithin (Ok settled) (reached s new)
at_last_reached s tx (Committed number registers) old new = ⊎_elim
    (λ (no : (Ok (Committed number registers) ≡ Err fault.Memory) × KnowsMore old new). absurd (cc (no.0)))
    (λ (held : ∥ ((attempt : Attempt) × IsRight s.program.steps s.program.tests tx attempt × SettlesPass s.start s.opening s.program attempt old (Ok (Committed number registers)) new) ∥₁).
    ∥∥₁_elim held (hlevel props) (λ h. settled_reached s h.0 (Committed number registers) old new h.2))
at_last_reached s tx (Seen number registers) old new = ⊎_elim
    (λ (no : (Ok (Seen number registers) ≡ Err fault.Memory) × KnowsMore old new). absurd (cc (no.0)))
    (λ (held : ∥ ((attempt : Attempt) × IsRight s.program.steps s.program.tests tx attempt × SettlesPass s.start s.opening s.program attempt old (Ok (Seen number registers)) new) ∥₁).
    ∥∥₁_elim held (hlevel props) (λ h. settled_reached s h.0 (Seen number registers) old new h.2))
at_last_reached s tx Retry old new = λ so. tt
at_last_reached s tx (Aborted code) old new = λ so. tt
at_last_reached s tx (Refused name) old new = λ so. tt

-- what is told of a transaction is among what its numbers are among
ending_among : (n : ℕ) (s : Store) (settled : Settled) (given : Answer) → TellsEnding s settled given → IsNumberedWithin (Ok settled) n → IsAmong n given
ending_among n s settled (answer.Refused name because) tells within = tt
ending_among n s settled given is within = subst (λ (g : Answer). IsAmong n g) (sym is) within

result_among : (n : ℕ) (s : Store) (result : Result Settled Fault) (given : Answer) → TellsResult s result given → IfOk result (λ settled. IsNumberedWithin (Ok settled) n) → IsAmong n given
result_among n s (Ok settled) given tells within = ending_among n s settled given tells within
result_among n s (Err f) given is within = subst (λ (g : Answer). IsAmong n g) (sym is.1) tt

-- a pass goes on, and what is answered is among what it reached
abbrev Goes : Store → PassRoleView → PassRoleView → Type 0
Goes s old new = reached s old ≤ reached s new

ends_told : (s : Store) (tx : Tx) (settled : Settled) (given : Answer) (old new : PassRoleView) → EndsTold s tx old settled given new → Goes s old new × IsAmong (reached s new) given
ends_told s tx settled given old new so =
    let more = knows_reach s so.then new so.knows in
    let first = at_last_reach s tx settled old so.then so.settles in (
      omega arith,
      ending_among (reached s new) s settled given so.tells (within_more settled (reached s so.then) (reached s new) more (at_last_reached s tx settled old so.then so.settles)),
    )

sees_values : (s : Store) (vars : List ℕ) (number : ℕ) (values : List (ℕ × ℤ)) (old new : PassRoleView) → SeesValues s vars old number values new → Goes s old new × (number ≤ reached s new)
sees_values s vars number values old new so = (knows_reach s old new so.knows, omega (arith, so.counts))

tries_told : (s : Store) (asks : RequestBody) (old : PassRoleView) (outcome : Option Answer) (new : PassRoleView) → Tries s asks old outcome new → Goes s old new × IfSome outcome (IsAmong (reached s new))
tries_told s (ask.Do tx) old None new so = (at_last_reach s tx Retry old new so, tt)
tries_told s (ask.Do tx) old (Some given) new so = ends_told s tx so.0 given old new so.2
tries_told s (ask.Changed reads) old None new so = ((sees_values s _ so.0 _ old new so.1).0, tt)
tries_told s (ask.Changed reads) old (Some (answer.Values number values)) new so = sees_values s _ number values.items old new so.0
tries_told s asks old outcome new none = absurd none

-- the result of a proposal
result_reached : (s : Store) (attempt : Attempt) (result : Result Settled Fault) (old mid new : PassRoleView) → SettlesPass s.start s.opening s.program attempt old result mid → reached s mid ≤ reached s new
    → IfOk result (λ settled. IsNumberedWithin (Ok settled) (reached s new))
result_reached s attempt (Ok settled) old mid new so le = within_more settled (reached s mid) (reached s new) le (settled_reached s attempt settled old mid so)
result_reached s attempt (Err f) old mid new so le = tt

answers_told : (s : Store) (asks : RequestBody) (old : PassRoleView) (given : Answer) (new : PassRoleView) → AnswersAsk s asks old given new → Goes s old new × IsAmong (reached s new) given
answers_told s (ask.Try tx) old given new so = ⊎_elim
    (λ (no : (cause : Cause) × (given ≡ answer.Fault (fault.BadPlan cause)) × IsNoPlan s tx cause × (new ≡ old)).
    (omega (arith, ap (λ (p : PassRoleView). reached s p) no.3), subst (λ (g : Answer). IsAmong (reached s new) g) (sym no.1) tt))
    (λ (yes : (settled : Settled) × EndsTold s tx old settled given new). ends_told s tx yes.0 given old new yes.1)
    so
answers_told s (ask.Get vars) old (answer.Values number values) new so = sees_values s vars.items number values.items old new so
answers_told s (ask.Settle proposal) old given new so =
    let more = knows_reach s so.then new so.knows in
    let first = settles_reach s so.attempt old so.result so.then so.settles in (
      omega arith,
      result_among (reached s new) s so.result given so.tells (result_reached s so.attempt so.result old so.then new so.settles more),
    )
answers_told s ask.Look old (answer.Durable number) new so = (sees_reach s old new so.1, omega (arith, so.0))
answers_told s ask.State old (answer.State number names values) new so = (knows_reach s old new so.knows, omega (arith, so.counts))
answers_told s ask.Checkpoint old given new so = (
  omega (arith, ap (λ (p : PassRoleView). reached s p) so.1),
  ⊎_elim
      (λ (is : given ≡ answer.Checkpointed). subst (λ (g : Answer). IsAmong (reached s new) g) (sym is) tt)
      (λ (is : given ≡ answer.Fault fault.Spent). subst (λ (g : Answer). IsAmong (reached s new) g) (sym is) tt)
      so.0,
)
answers_told s asks old given new none = absurd none

-- ---- step by step

tried_told : (s : Store) (id : ℤ) (asks : RequestBody) (outcome : Option Answer) (v : DeskView) (pass : PassRoleView) → IsTold s v → Goes s v.pass pass → IfSome outcome (IsAmong (reached s pass)) → IsTold s (tried id asks outcome (by v pass))
tried_told s id asks (Some given) v pass is le among = told_and (reached s v.pass) (reached s pass) v.told _ le is (one_told (reached s pass) id given among)
tried_told s id asks None v pass is le among = either (nat_lt (length v.waiting) 1024)
  where
    either : (b : Bool) → IsTold s (if b then record (by v pass) { waiting = v.waiting ++ (id, asks) ∷ [] } else tells (by v pass) (answer_told id (answer.Fault fault.Full) ∷ []))
    either true = told_still (reached s v.pass) (reached s pass) v.told le is
    either false = told_and (reached s v.pass) (reached s pass) v.told _ le is (one_told (reached s pass) id (answer.Fault fault.Full) tt)

-- an answer that names no number
plainly : (s : Store) (v : DeskView) (more : List Told) → IsTold s v → All (TellsAmong (reached s v.pass)) more → IsTold s (tells v more)
plainly s v more is one = told_and (reached s v.pass) (reached s v.pass) v.told more (omega arith) is one

may_wait_told : (s : Store) (id : ℤ) (asks : RequestBody) (v w : DeskView) → IsTold s v → MayWait s id asks v w → IsTold s w
may_wait_told s id asks v w is m =
    let so = tries_told s asks v.pass m.outcome w.pass m.tries in
    subst (IsTold s) (sym m.is) (tried_told s id asks m.outcome v w.pass is so.0 so.1)

answered_told : (s : Store) (id : ℤ) (asks : RequestBody) (v w : DeskView) → IsTold s v → IsAnsweredAtOnce s id asks v w → IsTold s w
answered_told s id asks v w is m =
    let so = answers_told s asks v.pass m.given w.pass m.answers in
    subst (IsTold s) (sym m.is) (told_and (reached s v.pass) (reached s w.pass) v.told _ so.0 is (one_told (reached s w.pass) id m.given so.1))

no_plan_told : (s : Store) (id : ℤ) (tx : Tx) (v w : DeskView) → IsTold s v → HasNoPlan s id tx v w → IsTold s w
no_plan_told s id tx v w is n = subst (IsTold s) (sym n.is) (plainly s v _ is (one_told (reached s v.pass) id (answer.Fault (fault.BadPlan n.cause)) tt))

planned_told : (s : Store) (id : ℤ) (tx ran : Tx) (v w : DeskView) → IsTold s v → (HasNoPlan s id tx v w ⊎ MayWait s id (ask.Do ran) v w) → IsTold s w
planned_told s id tx ran v w is t = ⊎_elim (λ (n : HasNoPlan s id tx v w). no_plan_told s id tx v w is n) (λ (m : MayWait s id (ask.Do ran) v w). may_wait_told s id (ask.Do ran) v w is m) t

not_found_told : (s : Store) (id : ℤ) (v w : DeskView) → IsTold s v → w ≡ tells v (answer_told id (answer.Found false) ∷ []) → IsTold s w
not_found_told s id v w is same = subst (IsTold s) (sym same) (plainly s v _ is (one_told (reached s v.pass) id (answer.Found false) tt))

kept_told : (s : Store) (id : ℤ) (word : List ℕ) (tx : Tx) (v : DeskView) → IsTold s v → IsTold s (kept_as id word tx v)
kept_told s id word tx v is = either (is_some (kept_under word v.kept) || nat_lt (length v.kept) 256)
  where
    either : (b : Bool) → IsTold s (if b then tells (record v { kept = with_kept word tx v.kept }) (answer_told id (answer.Kept word) ∷ []) else tells v (answer_told id (answer.Fault fault.Full) ∷ []))
    either true = plainly s v _ is (one_told (reached s v.pass) id (answer.Kept word) tt)
    either false = plainly s v _ is (one_told (reached s v.pass) id (answer.Fault fault.Full) tt)

runs_told : (s : Store) (id : ℤ) (numbers : List ℤ) (found : Option Tx) (v w : DeskView) → IsTold s v → Runs s id numbers found v w → IsTold s w
runs_told s id numbers None v w is same = not_found_told s id v w is same
runs_told s id numbers (Some tx) v w is runs = either (nat_le (length numbers) (first_puts tx)) runs
  where
    either : (b : Bool) → MatchBool b (RunsCopy s id numbers tx v w) (w ≡ tells v (answer_told id (answer.Found false) ∷ [])) → IsTold s w
    either true r = planned_told s id r.copy (with_numbers numbers r.copy) v w is r.takes
    either false same = not_found_told s id v w is same

cancelled_told : (s : Store) (id other : ℤ) (v : DeskView) → IsTold s v → IsTold s (cancelled id other v)
cancelled_told s id other v is = either (waits other v.waiting)
  where
    both : All (TellsAmong (reached s v.pass)) (answer_told other answer.Cancelled ∷ answer_told id (answer.Found true) ∷ [])
    both = All-cons (TellsAmong (reached s v.pass)) (answer_told other answer.Cancelled) (answer_told id (answer.Found true) ∷ []) tt (one_told (reached s v.pass) id (answer.Found true) tt)

    either : (b : Bool) → IsTold s (if b then tells (record v { waiting = without other v.waiting }) (answer_told other answer.Cancelled ∷ answer_told id (answer.Found true) ∷ []) else tells v (answer_told id (answer.Found false) ∷ []))
    either true = plainly s v _ is both
    either false = plainly s v _ is (one_told (reached s v.pass) id (answer.Found false) tt)

takes_told : (s : Store) (id : ℤ) (asks : RequestBody) (v w : DeskView) → IsTold s v → Takes s id asks v w → IsTold s w
takes_told s id (ask.Do tx) v w is t = planned_told s id tx tx v w is t
takes_told s id (ask.Changed reads) v w is t = may_wait_told s id (ask.Changed reads) v w is t
takes_told s id (ask.Cancel other) v w is t = subst (IsTold s) (sym t) (cancelled_told s id other v is)
takes_told s id (ask.Keep word tx) v w is t = ⊎_elim
    (λ (n : HasNoPlan s id tx v w). no_plan_told s id tx v w is n)
    (λ (k : IsPlanOf s tx × (w ≡ kept_as id word tx v)). subst (IsTold s) (sym k.1) (kept_told s id word tx v is))
    t
takes_told s id (ask.Run word numbers) v w is t = runs_told s id numbers.items (kept_under word v.kept) v w is t
takes_told s id ask.Stats v w is t = subst (IsTold s) (sym t.is) (plainly s v _ is (one_told (reached s v.pass) id (answer.Stats t.stats) tt))
takes_told s id (ask.Try tx) v w is t = answered_told s id (ask.Try tx) v w is t
takes_told s id (ask.Get vars) v w is t = answered_told s id (ask.Get vars) v w is t
takes_told s id (ask.Settle proposal) v w is t = answered_told s id (ask.Settle proposal) v w is t
takes_told s id ask.Look v w is t = answered_told s id ask.Look v w is t
takes_told s id ask.State v w is t = answered_told s id ask.State v w is t
takes_told s id ask.Checkpoint v w is t = answered_told s id ask.Checkpoint v w is t

refused_told : (s : Store) (v : DeskView) (t : Told) → TellsAmong (reached s v.pass) t → IsTold s v → IsTold s (tells (one_line_more v) (t ∷ []))
refused_told s v t among is = told_and (reached s v.pass) (reached s v.pass) v.told (t ∷ []) (omega arith) is (All-cons (TellsAmong (reached s v.pass)) t [] among (All-nil (TellsAmong (reached s v.pass))))

short_told : (s : Store) (text : List ℕ) (v w : DeskView) → IsTold s v → TakesShort s text v w → IsTold s w
short_told s text v w is = ⊎_elim
    (λ (t : TakesLine s text v w). takes_told s t.id t.ask (one_line_more v) w is t.takes)
    (λ (r : RefusesLine s text v w). subst (IsTold s) (sym r.is) (refused_told s v (refused (one_line_more v).lines r.refusal) tt is))

text_told : (s : Store) (text : List ℕ) (v w : DeskView) → IsTold s v → TakesText s text v w → IsTold s w
text_told s text v w is t = either (nat_lt 65536 (length text)) t
  where
    either : (b : Bool) → MatchBool b (RefusesLong v w) (TakesShort s text v w) → IsTold s w
    either true r = subst (IsTold s) (sym r.is) (refused_told s v (refused (one_line_more v).lines r.refusal) tt is)
    either false t = short_told s text v w is t

pub texts_told : (s : Store) (texts : List (List ℕ)) (v w : DeskView) → IsTold s v → LabelledSteps (TakesText s) texts v w → IsTold s w
texts_told s [] v w is same = subst (IsTold s) (sym same) is
texts_told s (text ∷ texts) v w is steps = texts_told s texts steps.0 w (text_told s text v steps.0 is steps.1) steps.2

first_told : (s : Store) (v w : DeskView) → IsTold s v → TriesFirst s v w → IsTold s w
first_told s v w is t =
    let so = tries_told s t.ask v.pass t.outcome w.pass t.tries in
    subst (IsTold s) (sym t.is) (moved t.outcome so.0 so.1)
  where
    moved : (outcome : Option Answer) → Goes s v.pass w.pass → IfSome outcome (IsAmong (reached s w.pass)) → IsTold s (tried_again t.id t.ask outcome t.rest (by v w.pass))
    moved (Some given) le among = told_and (reached s v.pass) (reached s w.pass) v.told _ le is (one_told (reached s w.pass) t.id given among)
    moved None le among = told_still (reached s v.pass) (reached s w.pass) v.told le is

next_told : (s : Store) (v w : DeskView) → IsTold s v → TriesNext s v w → IsTold s w
next_told s v w is = ⊎_elim (λ (none : (v.waiting ≡ []) × (w ≡ v)). subst (IsTold s) (sym none.1) is) (λ (t : TriesFirst s v w). first_told s v w is t)

round_told : (s : Store) (n : ℕ) (v w : DeskView) → IsTold s v → Repeats (TriesNext s) n v w → IsTold s w
round_told s zero v w is same = subst (IsTold s) (sym same) is
round_told s (suc n) v w is steps = round_told s n steps.0 w (next_told s v steps.0 is steps.1) steps.2

rounds_told : (s : Store) (n : ℕ) (v w : DeskView) → IsTold s v → Repeats (Round s) n v w → IsTold s w
rounds_told s zero v w is same = subst (IsTold s) (sym same) is
rounds_told s (suc n) v w is steps = rounds_told s n steps.0 w (round_told s (length v.waiting) v steps.0 is steps.1) steps.2

woken_told : (s : Store) (v w : DeskView) → IsTold s v → Wakes s v w → IsTold s w
woken_told s v w is t = round_told s (length t.met.waiting) t.met w (rounds_told s t.rounds v t.met is t.before) t.last

-- what is told once all is finished is durable
pub finished_told : (s : Store) (v w : DeskView) → IsTold s v → Finishes s v w → All (TellsAmong (count s.start w.pass.seen)) w.told
finished_told s v w is f =
    let woken = woken_told s v f.woken is f.wakes in
    let told : w.told ≡ f.woken.told = ap (λ (x : DeskView). x.told) f.is in
    let more = sees_reach s f.woken.pass w.pass f.sees in
    let whole = ap (count s.start) f.all in
    subst (All (TellsAmong (count s.start w.pass.seen))) (sym told) (told_still (reached s f.woken.pass) (count s.start w.pass.seen) f.woken.told (omega arith) woken)

-- what nothing was told of yet
pub nothing_told : (s : Store) (v : DeskView) → v.told ≡ [] → IsTold s v
nothing_told s v none = subst (All (TellsAmong (reached s v.pass))) (sym none) (All-nil (TellsAmong (reached s v.pass)))

pub last_taken_told : (s : Store) (text : List ℕ) (v w : DeskView) → IsTold s v → TakesLast s text v w → IsTold s w
last_taken_told s text v w is = ⊎_elim (λ (none : (text ≡ []) × (w ≡ v)). subst (IsTold s) (sym none.1) is) (λ (t : (text ≢ []) × TakesText s text v w). text_told s text v w is t.1)

closed_among : (n : ℕ) (all : List (ℤ × RequestBody)) → All (TellsAmong n) (closed all)
closed_among n [] = All-nil (TellsAmong n)
closed_among n (one ∷ all) = All-cons (TellsAmong n) (answer_told one.0 (answer.Fault fault.Closed)) (closed all) tt (closed_among n all)

-- so is what those are told that still wait at the end
pub closed_told : (n : ℕ) (v : DeskView) → All (TellsAmong n) v.told → All (TellsAmong n) (with_closed v).told
closed_told n v is = All-append (TellsAmong n) v.told (closed v.waiting) is (closed_among n v.waiting)

-- ---- where serving ends early

rests_among : (n : ℕ) (given : Answer) → rests_within n given ≡ true → IsAmong n given
rests_among n (answer.Settled (Committed number registers)) is = grind (arith, nat_tests)
rests_among n (answer.Settled (Seen at registers)) is = grind (arith, nat_tests)
rests_among n (answer.Values number values) is = grind (arith, nat_tests)
rests_among n (answer.State number names values) is = grind (arith, nat_tests)
rests_among n (answer.Durable number) is = grind (arith, nat_tests)
rests_among n given is = tt

within_among : (n : ℕ) (f : Fault) (t : Told) → TellsWithin n f t → TellsAmong n t
within_among n f (told.Answer a) = ⊎_elim (λ (same : a.answer ≡ answer.Fault f). subst (IsAmong n) (sym same) tt) (rests_among n a.answer)
within_among n f (told.NoRequest refusal) = λ is. tt

-- what is told then is durable
pub stopped_told : (s : Store) (texts : List (List ℕ)) (mid w : DeskView) (f : Fault) (prints : List ℕ → Type 0) (t : TellsBehind s texts mid f w prints) → All (TellsAmong (count s.start w.pass.seen)) t.all
stopped_told s texts mid w f prints t =
    let n : ℕ = count s.start w.pass.seen in
    All-weaker (TellsWithin n f) (TellsAmong n) (within_among n f) t.all
    (subst (All (TellsWithin n f)) (sym t.told) (within_last (Some n) n f (with_closed t.over).told refl))
