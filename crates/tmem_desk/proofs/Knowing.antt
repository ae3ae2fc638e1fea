-- What a pass knows it knows from then on, and once all is finished it saw all of that durable.
use Rattle.std.proofs.Common.{◌≡◌, ◌⊎◌, ⊎_elim, ℕ, zero, suc, ℤ, Bool, true, false, ◌||◌, nat_le, nat_lt, List, [], ◌∷◌, ◌++◌, length, Option, Some, None, Result, Ok, Err, refl, ap, sym, ◌∙◌, subst}
use Rattle.std.specs.Prelude.{MatchBool, is_some, if◌then◌else◌}
use Rattle.std.proofs.Props.{props}
use Rattle.std.proofs.Math.Logic.{∥∥₁_elim}
use Rattle.tmem_fault.specs.declared.fault.Cause.{Cause}
use Rattle.tmem_fault.specs.declared.fault.Fault.{Fault}
use Rattle.tmem_fault.specs.declared.fault.Fault.TheVariants as fault
use Rattle.tmem_effect.specs.Prefix.{IsPrefix}
use Rattle.tmem_effect.proofs.Laws.{IsPrefix-append, IsPrefix-self, IsPrefix-trans}
use Rattle.tmem_core.specs.SettleAnswer.{committed_by}
use Rattle.tmem_spine.specs.declared.view.MarkedEffect.{MarkedEffect}
use Rattle.tmem_spine.specs.Views.{PassRoleView}
use Rattle.tmem_seats.specs.Histories.{marked}
use Rattle.tmem_tree.specs.declared.tx.Tx.{Tx}
use Rattle.tmem_tree.specs.declared.settled.Settled.{Settled}
use Rattle.tmem_tree.specs.declared.settled.Settled.TheVariants.{Retry}
use Rattle.tmem_tentative.specs.Right.{IsRight}
use Rattle.tmem_tentative.specs.declared.attempt.Attempt.{Attempt}
use Rattle.tmem_seats.specs.Settling.{SettlesPass, KnowsMore}
use Rattle.tmem_answers.specs.declared.answer.Answer.{Answer}
use Rattle.tmem_answers.specs.declared.answer.Answer.TheVariants as answer
use Rattle.tmem_requests.specs.declared.request.RequestBody.{RequestBody}
use Rattle.tmem_requests.specs.declared.request.RequestBody.TheVariants as ask
use Rattle.tmem_desk.specs.Asking.{Store, SettlesTx, IsNoPlan, IsPlanOf, EndsTold, Tries, AnswersAsk}
use Rattle.tmem_desk.specs.Desks.{DeskView}
use Rattle.tmem_desk.specs.Keeping.{kept_under, with_kept}
use Rattle.tmem_desk.specs.Leading.{first_puts}
use Rattle.tmem_desk.specs.Numbering.{with_numbers}
use Rattle.tmem_desk.specs.Serving.{Takes, TakesLine, TakesText, TakesShort, MayWait, HasNoPlan, IsAnsweredAtOnce, Runs, RunsCopy, kept_as, RefusesLine, RefusesLong, Round, TriesNext, TriesFirst, Wakes, Finishes, tells, one_line_more, waits, without, cancelled}
use Rattle.tmem_desk.specs.Steps.{Repeats}
use Rattle.tmem_desk.specs.Told.{answer_told}

-- the one knows all that the other does
abbrev pub Keeps : PassRoleView → PassRoleView → Type 0
Keeps old new = IsPrefix old.known new.known

-- the pass of the one knows all that that of the other does
abbrev pub KeepsOn : DeskView → DeskView → Type 0
KeepsOn v w = Keeps v.pass w.pass

same_keeps : (old new : PassRoleView) → new ≡ old → Keeps old new
same_keeps old new same = subst (λ (p : PassRoleView). Keeps old p) (sym same) (IsPrefix-self old.known)

-- ---- what is settled

settles_keeps : (s : Store) (attempt : Attempt) (old : PassRoleView) (result : Result Settled Fault) (new : PassRoleView) → SettlesPass s.start s.opening s.program attempt old result new → Keeps old new
settles_keeps s attempt old result new so =
    subst (λ (l : List MarkedEffect). IsPrefix old.known l) (sym (ap (λ (p : PassRoleView). p.known) so.pass))
    (IsPrefix-trans old.known so.before (so.before ++ marked old.mark (committed_by result attempt.effect)) so.begins (IsPrefix-append so.before (marked old.mark (committed_by result attempt.effect))))

tx_keeps : (s : Store) (tx : Tx) (settled : Settled) (old new : PassRoleView) → SettlesTx s tx old settled new → Keeps old new
tx_keeps s tx settled old new = ⊎_elim
    (λ (no : (Ok settled ≡ Err fault.Memory) × KnowsMore old new). no.1.begins)
    (λ (held : ∥ ((attempt : Attempt) × IsRight s.program.steps s.program.tests tx attempt × SettlesPass s.start s.opening s.program attempt old (Ok settled) new) ∥₁).
    ∥∥₁_elim held (hlevel props) (λ h. settles_keeps s h.0 old (Ok settled) new h.2))

ends_keeps : (s : Store) (tx : Tx) (settled : Settled) (given : Answer) (old new : PassRoleView) → EndsTold s tx old settled given new → Keeps old new
ends_keeps s tx settled given old new so = IsPrefix-trans old.known so.then.known new.known (tx_keeps s tx settled old so.then so.settles) so.knows.begins

-- ---- what is asked

tries_keeps : (s : Store) (asks : RequestBody) (old : PassRoleView) (outcome : Option Answer) (new : PassRoleView) → Tries s asks old outcome new → Keeps old new
tries_keeps s (ask.Do tx) old None new so = tx_keeps s tx Retry old new so
tries_keeps s (ask.Do tx) old (Some given) new so = ends_keeps s tx so.0 given old new so.2
tries_keeps s (ask.Changed reads) old None new so = so.1.knows.begins
tries_keeps s (ask.Changed reads) old (Some (answer.Values number values)) new so = so.0.knows.begins
tries_keeps s asks old outcome new none = absurd none

answers_keeps : (s : Store) (asks : RequestBody) (old : PassRoleView) (given : Answer) (new : PassRoleView) → AnswersAsk s asks old given new → Keeps old new
answers_keeps s (ask.Try tx) old given new so = ⊎_elim
    (λ (no : (cause : Cause) × (given ≡ answer.Fault (fault.BadPlan cause)) × IsNoPlan s tx cause × (new ≡ old)). same_keeps old new no.3)
    (λ (yes : (settled : Settled) × EndsTold s tx old settled given new). ends_keeps s tx yes.0 given old new yes.1)
    so
answers_keeps s (ask.Get vars) old (answer.Values number values) new so = so.knows.begins
answers_keeps s (ask.Settle proposal) old given new so = IsPrefix-trans old.known so.then.known new.known (settles_keeps s so.attempt old so.result so.then so.settles) so.knows.begins
answers_keeps s ask.Look old (answer.Durable number) new so = so.1.known
answers_keeps s ask.State old (answer.State number names values) new so = so.knows.begins
answers_keeps s ask.Checkpoint old given new so = same_keeps old new so.1
answers_keeps s asks old given new none = absurd none

-- ---- step by step

still_keeps : (v w x : DeskView) → w ≡ x → x.pass ≡ v.pass → KeepsOn v w
still_keeps v w x is same = same_keeps v.pass w.pass (ap (λ (d : DeskView). d.pass) is ∙ same)

may_wait_keeps : (s : Store) (id : ℤ) (asks : RequestBody) (v w : DeskView) → MayWait s id asks v w → KeepsOn v w
may_wait_keeps s id asks v w m = tries_keeps s asks v.pass m.outcome w.pass m.tries

planned_keeps : (s : Store) (id : ℤ) (tx ran : Tx) (v w : DeskView) → (HasNoPlan s id tx v w ⊎ MayWait s id (ask.Do ran) v w) → KeepsOn v w
planned_keeps s id tx ran v w = ⊎_elim
    (λ (n : HasNoPlan s id tx v w). still_keeps v w (tells v (answer_told id (answer.Fault (fault.BadPlan n.cause)) ∷ [])) n.is refl)
    (λ (m : MayWait s id (ask.Do ran) v w). may_wait_keeps s id (ask.Do ran) v w m)

kept_pass : (id : ℤ) (word : List ℕ) (tx : Tx) (v : DeskView) → (kept_as id word tx v).pass ≡ v.pass
kept_pass id word tx v = either (is_some (kept_under word v.kept) || nat_lt (length v.kept) 256)
  where
    either : (b : Bool) → (if b then tells (record v { kept = with_kept word tx v.kept }) (answer_told id (answer.Kept word) ∷ []) else tells v (answer_told id (answer.Fault fault.Full) ∷ [])).pass ≡ v.pass
    either true = refl
    either false = refl

cancelled_pass : (id other : ℤ) (v : DeskView) → (cancelled id other v).pass ≡ v.pass
cancelled_pass id other v = either (waits other v.waiting)
  where
    either : (b : Bool) → (if b then tells (record v { waiting = without other v.waiting }) (answer_told other answer.Cancelled ∷ answer_told id (answer.Found true) ∷ []) else tells v (answer_told id (answer.Found false) ∷ [])).pass ≡ v.pass
    either true = refl
    either false = refl

runs_keeps : (s : Store) (id : ℤ) (numbers : List ℤ) (found : Option Tx) (v w : DeskView) → Runs s id numbers found v w → KeepsOn v w
runs_keeps s id numbers None v w is = still_keeps v w (tells v (answer_told id (answer.Found false) ∷ [])) is refl
runs_keeps s id numbers (Some tx) v w runs = either (nat_le (length numbers) (first_puts tx)) runs
  where
    either : (b : Bool) → MatchBool b (RunsCopy s id numbers tx v w) (w ≡ tells v (answer_told id (answer.Found false) ∷ [])) → KeepsOn v w
    either true r = planned_keeps s id r.copy (with_numbers numbers r.copy) v w r.takes
    either false is = still_keeps v w (tells v (answer_told id (answer.Found false) ∷ [])) is refl

answered_keeps : (s : Store) (id : ℤ) (asks : RequestBody) (v w : DeskView) → IsAnsweredAtOnce s id asks v w → KeepsOn v w
answered_keeps s id asks v w m = answers_keeps s asks v.pass m.given w.pass m.answers

takes_keeps : (s : Store) (id : ℤ) (asks : RequestBody) (v w : DeskView) → Takes s id asks v w → KeepsOn v w
takes_keeps s id (ask.Do tx) v w t = planned_keeps s id tx tx v w t
takes_keeps s id (ask.Changed reads) v w t = may_wait_keeps s id (ask.Changed reads) v w t
takes_keeps s id (ask.Cancel other) v w t = still_keeps v w (cancelled id other v) t (cancelled_pass id other v)
takes_keeps s id (ask.Keep word tx) v w t = ⊎_elim
    (λ (n : HasNoPlan s id tx v w). still_keeps v w (tells v (answer_told id (answer.Fault (fault.BadPlan n.cause)) ∷ [])) n.is refl)
    (λ (k : IsPlanOf s tx × (w ≡ kept_as id word tx v)). still_keeps v w (kept_as id word tx v) k.1 (kept_pass id word tx v))
    t
takes_keeps s id (ask.Run word numbers) v w t = runs_keeps s id numbers.items (kept_under word v.kept) v w t
takes_keeps s id ask.Stats v w t = still_keeps v w (tells v (answer_told id (answer.Stats t.stats) ∷ [])) t.is refl
takes_keeps s id (ask.Try tx) v w t = answered_keeps s id (ask.Try tx) v w t
takes_keeps s id (ask.Get vars) v w t = answered_keeps s id (ask.Get vars) v w t
takes_keeps s id (ask.Settle proposal) v w t = answered_keeps s id (ask.Settle proposal) v w t
takes_keeps s id ask.Look v w t = answered_keeps s id ask.Look v w t
takes_keeps s id ask.State v w t = answered_keeps s id ask.State v w t
takes_keeps s id ask.Checkpoint v w t = answered_keeps s id ask.Checkpoint v w t

short_keeps : (s : Store) (text : List ℕ) (v w : DeskView) → TakesShort s text v w → KeepsOn v w
short_keeps s text v w = ⊎_elim
    (λ (t : TakesLine s text v w). takes_keeps s t.id t.ask (one_line_more v) w t.takes)
    (λ (r : RefusesLine s text v w). still_keeps v w _ r.is refl)

-- a line that is taken
pub text_keeps : (s : Store) (text : List ℕ) (v w : DeskView) → TakesText s text v w → KeepsOn v w
text_keeps s text v w t = either (nat_lt 65536 (length text)) t
  where
    either : (b : Bool) → MatchBool b (RefusesLong v w) (TakesShort s text v w) → KeepsOn v w
    either true r = still_keeps v w _ r.is refl
    either false t = short_keeps s text v w t

-- one that waits and is tried again
pub next_keeps : (s : Store) (v w : DeskView) → TriesNext s v w → KeepsOn v w
next_keeps s v w = ⊎_elim
    (λ (none : (v.waiting ≡ []) × (w ≡ v)). still_keeps v w v none.1 refl)
    (λ (t : TriesFirst s v w). tries_keeps s t.ask v.pass t.outcome w.pass t.tries)

repeats_keeps : (step : DeskView → DeskView → Type 0) → ((v w : DeskView) → step v w → KeepsOn v w) → (n : ℕ) (v w : DeskView) → Repeats step n v w → KeepsOn v w
repeats_keeps step each zero v w same = still_keeps v w v same refl
repeats_keeps step each (suc n) v w steps =
    IsPrefix-trans v.pass.known steps.0.pass.known w.pass.known (each v steps.0 steps.1) (repeats_keeps step each n steps.0 w steps.2)

round_keeps : (s : Store) (v w : DeskView) → Round s v w → KeepsOn v w
round_keeps s v w round = repeats_keeps (TriesNext s) (next_keeps s) (length v.waiting) v w round

wakes_keeps : (s : Store) (v w : DeskView) → Wakes s v w → KeepsOn v w
wakes_keeps s v w t =
    IsPrefix-trans v.pass.known t.met.pass.known w.pass.known (repeats_keeps (Round s) (round_keeps s) t.rounds v t.met t.before) (round_keeps s t.met w t.last)

-- what is finished
pub finished_keeps : (s : Store) (v w : DeskView) → Finishes s v w → IsPrefix v.pass.known w.pass.seen
finished_keeps s v w f =
    subst (λ (l : List MarkedEffect). IsPrefix v.pass.known l) (sym f.all)
    (IsPrefix-trans v.pass.known f.woken.pass.known w.pass.known (wakes_keeps s v f.woken f.wakes) f.sees.known)
