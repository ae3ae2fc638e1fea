-- What leads from one view of a desk to the next.
use Rattle.std.proofs.Common.{◌≡◌, inl, inr, ℕ, ℤ, Bool, true, false, nat_lt, List, [], ◌∷◌, ◌++◌, length, Option, Some, None, Result, Ok, Err, IfOk, IfErr, refl, ap, sym, ◌∙◌, subst}
use Rattle.std.specs.Prelude.{if◌then◌else◌, OnOk, IsErr}
use Rattle.std.proofs.lemmas.Bool.{false≢true}
use Rattle.tmem_fault.specs.declared.fault.Fault.{Fault}
use Rattle.tmem_fault.specs.declared.fault.Fault.TheVariants as fault
use Rattle.tmem_effect.specs.Prefix.{IsPrefix}
use Rattle.tmem_seats.specs.Settling.{SeesMore}
use Rattle.tmem_spine.specs.declared.view.MarkedEffect.{MarkedEffect}
use Rattle.tmem_spine.specs.History.{count, longer}
use Rattle.tmem_spine.specs.Views.{PassRoleView}
use Rattle.tmem_answers.specs.declared.answer.Answer.{Answer}
use Rattle.tmem_answers.specs.declared.answer.Answer.TheVariants as answer
use Rattle.tmem_requests.specs.declared.request.RequestBody.{RequestBody}
use Rattle.tmem_requests.specs.declared.request.RequestBody.TheVariants as ask
use Rattle.tmem_desk.specs.Asking.{Store, Tries, AnswersAsk}
use Rattle.tmem_desk.specs.Desks.{DeskView}
use Rattle.tmem_desk.specs.Failing.{LearnsOnly, OrMemory}
use Rattle.tmem_desk.specs.Serving.{IsAnsweredAtOnce, MayWait, Takes, TriesNext, tells, tried, tried_again, by}
use Rattle.tmem_desk.specs.Told.{answer_told}

-- a request that is answered at once
pub is_answered : (s : Store) (id : ℤ) (asks : RequestBody) (v w : DeskView) (pass : PassRoleView) (given : Answer) → AnswersAsk s asks v.pass given pass → w ≡ tells (by v pass) (answer_told id given ∷ []) → IsAnsweredAtOnce s id asks v w
is_answered s id asks v w pass given answers is =
    let at : pass ≡ w.pass = sym (ap (λ (x : DeskView). x.pass) is) in
    record {
      given = given;
      answers = subst (λ (p : PassRoleView). AnswersAsk s asks v.pass given p) at answers;
      is = subst (λ (p : PassRoleView). w ≡ tells (by v p) (answer_told id given ∷ [])) at is;
    }

tried_pass : (id : ℤ) (asks : RequestBody) (outcome : Option Answer) (v : DeskView) → (tried id asks outcome v).pass ≡ v.pass
tried_pass id asks (Some given) v = refl
tried_pass id asks None v = either (nat_lt (length v.waiting) 1024)
  where
    either : (b : Bool) → (if b then record v { waiting = v.waiting ++ (id, asks) ∷ [] } else tells v (answer_told id (answer.Fault fault.Full) ∷ [])).pass ≡ v.pass
    either true = refl
    either false = refl

-- a request that is taken, where its id is read back from what is passed and what is asked was matched
pub takes_as : (s : Store) (id id' : ℤ) (asks matched : RequestBody) (v w : DeskView) → id' ≡ id → matched ≡ asks → Takes s id' asks v w → Takes s id matched v w
takes_as s id id' asks matched v w same is taken = subst (λ (a : RequestBody). Takes s id a v w) (sym is) (subst (λ (i : ℤ). Takes s i asks v w) same taken)

-- one that may wait
pub may_wait : (s : Store) (id : ℤ) (asks : RequestBody) (v w : DeskView) (pass : PassRoleView) (outcome : Option Answer) → Tries s asks v.pass outcome pass → w ≡ tried id asks outcome (by v pass) → MayWait s id asks v w
may_wait s id asks v w pass outcome tries is =
    let at : pass ≡ w.pass = sym (ap (λ (x : DeskView). x.pass) is ∙ tried_pass id asks outcome (by v pass)) in
    record {
      outcome = outcome;
      tries = subst (λ (p : PassRoleView). Tries s asks v.pass outcome p) at tries;
      is = subst (λ (p : PassRoleView). w ≡ tried id asks outcome (by v p)) at is;
    }

again_pass : (id : ℤ) (asks : RequestBody) (outcome : Option Answer) (rest : List (ℤ × RequestBody)) (v : DeskView) → (tried_again id asks outcome rest v).pass ≡ v.pass
again_pass id asks (Some given) rest v = refl
again_pass id asks None rest v = refl

-- the first that waits
pub tries_first : (s : Store) (id : ℤ) (asks : RequestBody) (rest : List (ℤ × RequestBody)) (v w : DeskView) (pass : PassRoleView) (outcome : Option Answer) → v.waiting ≡ (id, asks) ∷ rest
    → Tries s asks v.pass outcome pass → w ≡ tried_again id asks outcome rest (by v pass) → TriesNext s v w
tries_first s id asks rest v w pass outcome first tries is =
    let at : pass ≡ w.pass = sym (ap (λ (x : DeskView). x.pass) is ∙ again_pass id asks outcome rest (by v pass)) in
    inr (record {
      id = id;
      ask = asks;
      rest = rest;
      first = first;
      outcome = outcome;
      tries = subst (λ (p : PassRoleView). Tries s asks v.pass outcome p) at tries;
      is = subst (λ (p : PassRoleView). w ≡ tried_again id asks outcome rest (by v p)) at is;
    })

-- a look at how many are durable
pub looked : (s : Store) (old new : PassRoleView) (number : ℕ) → new ≡ record old { seen = new.seen; known = longer old.known new.seen } → number ≡ count s.start new.seen
    → IsPrefix old.seen new.seen → IsPrefix old.known new.known → AnswersAsk s ask.Look old (answer.Durable number) new
looked s old new number is counts seen known = (
  counts,
  record {
    pass = is ∙ ap (λ (l : List MarkedEffect). record old { seen = new.seen; known = l }) (sym (ap (λ (p : PassRoleView). p.known) is));
    seen = seen;
    known = known;
  },
)

-- a call of the store whose answer is told, where there is one
pub told_if_any : {T : Type 0} {P : Answer → Type 0} {Q : Answer → Type 0} (R : Type 0) (answered : Result Answer Fault) (result : Result T Fault) → ((given : Answer) → P given → Q given → R) → IfOk answered P → IfOk answered (λ given. OnOk result (Q given)) → IfErr answered (λ _. IsErr result)
    → OnOk result R
told_if_any R (Ok given) (Ok x) both one other never = both given one other
told_if_any R (Ok given) (Err f) both one other never = tt
told_if_any R (Err g) (Ok x) both one other never = absurd (false≢true never)
told_if_any R (Err g) (Err f) both one other never = tt

-- or the fault is handed on
pub failed_if_none : {T : Type 0} (v w : DeskView) (pass : PassRoleView) (answered : Result Answer Fault) (result : Result T Fault) → IfErr answered (λ _. SeesMore v.pass pass)
    → IfErr result (λ f. OrMemory f (IsErr answered × (w ≡ by v pass))) → IfErr result (λ f. OrMemory f (LearnsOnly v w))
failed_if_none v w pass answered (Ok x) sees so = tt
failed_if_none v w pass answered (Err f) sees (inl is) = inl is
failed_if_none v w pass (Ok given) (Err f) sees (inr (never, same)) = absurd (false≢true never)
failed_if_none v w pass (Err g) (Err f) sees (inr (never, same)) =
    let at : w.pass ≡ pass = ap (λ (x : DeskView). x.pass) same in
    inr (record { is = subst (λ (p : PassRoleView). w ≡ by v p) (sym at) same; sees = subst (λ (p : PassRoleView). SeesMore v.pass p) (sym at) sees })
