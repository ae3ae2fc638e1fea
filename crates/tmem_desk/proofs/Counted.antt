-- How often requests are due, step by step: those of some ids, and lines that are none where they count too.
use Rattle.std.proofs.Common.{◌≡◌, ◌⊎◌, ℕ, zero, suc, ℤ, ◌+◌, Bool, true, false, ◌||◌, cond, List, [], ◌∷◌, ◌++◌, length, map, nat_le, nat_lt, Option, Some, None, ⊎_elim, refl, ap, sym, ◌∙◌, arith}
use Rattle.std.specs.Prelude.{count_by, is_some, if◌then◌else◌, MatchBool}
use Rattle.std.specs.Ordering.{int_eq}
use Rattle.std.proofs.lemmas.Bool.Decides.{Decides-int_eq}
use Rattle.std.proofs.lemmas.List.Sums.{sum_by-append}
use Rattle.tmem_fault.specs.declared.fault.Fault.{Fault}
use Rattle.tmem_fault.specs.declared.fault.Fault.TheVariants as fault
use Rattle.tmem_tree.specs.declared.tx.Tx.{Tx}
use Rattle.tmem_answers.specs.declared.answer.Answer.{Answer}
use Rattle.tmem_answers.specs.declared.answer.Answer.TheVariants as answer
use Rattle.tmem_requests.specs.declared.refusal.NoRequest.{NoRequest}
use Rattle.tmem_requests.specs.declared.request.RequestBody.{RequestBody}
use Rattle.tmem_requests.specs.declared.request.RequestBody.TheVariants as ask
use Rattle.tmem_desk.specs.Asking.{Store, IsPlanOf}
use Rattle.tmem_desk.specs.Desks.{DeskView}
use Rattle.tmem_desk.specs.Due.{answers_any_of, due_of, waits_of}
use Rattle.tmem_desk.specs.Keeping.{kept_under, with_kept}
use Rattle.tmem_desk.specs.Leading.{first_puts}
use Rattle.tmem_desk.specs.Numbering.{with_numbers}
use Rattle.tmem_desk.specs.Serving.{Takes, MayWait, HasNoPlan, Runs, RunsCopy, kept_as, RefusesLine, RefusesLong, Round, TriesNext, TriesFirst, Wakes, Finishes, tells, tried, tried_again, by, one_line_more, waits, without, cancelled, closed, with_closed}
use Rattle.tmem_desk.specs.Steps.{Repeats}
use Rattle.tmem_desk.specs.Told.{answer_told, refused, told_last}
use Rattle.tmem_desk.specs.declared.told.Told.{Told}
use Rattle.tmem_desk.specs.declared.told.Told.TheVariants as told

count_append : {X : Type 0} (p : X → Bool) (xs ys : List X) → count_by p (xs ++ ys) ≡ count_by p xs + count_by p ys
count_append {X} p xs ys = sum_by-append (λ (x : X). cond (p x) 1 0) xs ys

module _ (among : ℤ → Bool) (others : Bool) where
  -- one where it counts
  abbrev one : ℤ → ℕ
  one id = cond (among id) 1 0

  -- what is told more is due more
  tells_more : (v : DeskView) (more : List Told) → due_of among others (tells v more) ≡ due_of among others v + count_by (answers_any_of among others) more
  tells_more v more = omega (arith, sum_by-append (λ (t : Told). cond (answers_any_of among others t) 1 0) v.told more)

  pub tells_one : (id : ℤ) (given : Answer) (v : DeskView) → due_of among others (tells v (answer_told id given ∷ [])) ≡ due_of among others v + cond (among id) 1 0
  tells_one id given v =
      let it : count_by (answers_any_of among others) (answer_told id given ∷ []) ≡ 0 + cond (among id) 1 0 = refl in
      omega (arith, tells_more v (answer_told id given ∷ []))

  -- one more that waits
  waits_more : (id : ℤ) (asks : RequestBody) (v : DeskView) → due_of among others (record v { waiting = v.waiting ++ (id, asks) ∷ [] }) ≡ due_of among others v + one id
  waits_more id asks v =
      let it : count_by (waits_of among) ((id, asks) ∷ []) ≡ 0 + cond (among id) 1 0 = refl in
      omega (arith, count_append (waits_of among) v.waiting ((id, asks) ∷ []))

  tried_due : (id : ℤ) (asks : RequestBody) (outcome : Option Answer) (v : DeskView) → due_of among others (tried id asks outcome v) ≡ due_of among others v + one id
  tried_due id asks (Some given) v = tells_one id given v
  tried_due id asks None v = either (nat_lt (length v.waiting) 1024)
    where
      either : (b : Bool) → due_of among others (if b then record v { waiting = v.waiting ++ (id, asks) ∷ [] } else tells v (answer_told id (answer.Fault fault.Full) ∷ [])) ≡ due_of among others v + one id
      either true = waits_more id asks v
      either false = tells_one id (answer.Fault fault.Full) v

  may_wait_due : (s : Store) (id : ℤ) (asks : RequestBody) (v w : DeskView) → MayWait s id asks v w → due_of among others w ≡ due_of among others v + one id
  may_wait_due s id asks v w m = ap (due_of among others) m.is ∙ tried_due id asks m.outcome (by v w.pass)

  -- one that waits is taken out
  without_one : (id : ℤ) (ws : List (ℤ × RequestBody)) → waits id ws ≡ true → count_by (waits_of among) (without id ws) + one id ≡ count_by (waits_of among) ws
  without_one id [] none = absurd (cc none)
  without_one id (w ∷ ws) some = either (int_eq w.0 id) refl some (without_one id ws)
    where
      first : count_by (waits_of among) (w ∷ []) ≡ 0 + one w.0
      first = refl

      either : (b : Bool) → int_eq w.0 id ≡ b → (b || waits id ws) ≡ true → (waits id ws ≡ true → count_by (waits_of among) (without id ws) + one id ≡ count_by (waits_of among) ws)
          → count_by (waits_of among) (if b then ws else w ∷ without id ws) + one id ≡ count_by (waits_of among) (w ∷ ws)
      either true is some later =
          let same : one w.0 ≡ one id = ap one ((Decides-int_eq w.0 id).0 is) in
          let all : count_by (waits_of among) (w ∷ ws) ≡ count_by (waits_of among) (w ∷ []) + count_by (waits_of among) ws = count_append (waits_of among) (w ∷ []) ws in
          omega (arith, first, same, all)
      either false is some later =
          let all : count_by (waits_of among) (w ∷ ws) ≡ count_by (waits_of among) (w ∷ []) + count_by (waits_of among) ws = count_append (waits_of among) (w ∷ []) ws in
          let rest : count_by (waits_of among) (if false then ws else w ∷ without id ws) ≡ count_by (waits_of among) (w ∷ []) + count_by (waits_of among) (without id ws) =
          count_append (waits_of among) (w ∷ []) (without id ws) in
          omega (arith, later some)

  cancelled_due : (id who : ℤ) (v : DeskView) → due_of among others (cancelled id who v) ≡ due_of among others v + one id
  cancelled_due id who v = either (waits who v.waiting) refl
    where
      both : count_by (answers_any_of among others) (answer_told who answer.Cancelled ∷ answer_told id (answer.Found true) ∷ []) ≡ 0 + cond (among who) 1 0 + cond (among id) 1 0
      both = refl

      either : (b : Bool) → waits who v.waiting ≡ b
          → due_of among others (if b then tells (record v { waiting = without who v.waiting }) (answer_told who answer.Cancelled ∷ answer_told id (answer.Found true) ∷ []) else tells v (answer_told id (answer.Found false) ∷ []))
          ≡ due_of among others v + one id
      either true is = omega (arith, both, without_one who v.waiting is, count_append (answers_any_of among others) v.told (answer_told who answer.Cancelled ∷ answer_told id (answer.Found true) ∷ []))
      either false is = tells_one id (answer.Found false) v

  -- one that has no plan, or may wait
  planned_due : (s : Store) (id : ℤ) (tx ran : Tx) (v w : DeskView) → (HasNoPlan s id tx v w ⊎ MayWait s id (ask.Do ran) v w) → due_of among others w ≡ due_of among others v + one id
  planned_due s id tx ran v w t =
      ⊎_elim
      (λ (n : HasNoPlan s id tx v w). ap (due_of among others) n.is ∙ tells_one id (answer.Fault (fault.BadPlan n.cause)) v)
      (λ (m : MayWait s id (ask.Do ran) v w). may_wait_due s id (ask.Do ran) v w m)
      t

  -- one that keeps a transaction
  kept_due : (id : ℤ) (word : List ℕ) (tx : Tx) (v : DeskView) → due_of among others (kept_as id word tx v) ≡ due_of among others v + one id
  kept_due id word tx v = either (is_some (kept_under word v.kept) || nat_lt (length v.kept) 256)
    where
      either : (b : Bool) → due_of among others (if b then tells (record v { kept = with_kept word tx v.kept }) (answer_told id (answer.Kept word) ∷ []) else tells v (answer_told id (answer.Fault fault.Full) ∷ [])) ≡ due_of among others v + one id
      either true = tells_one id (answer.Kept word) (record v { kept = with_kept word tx v.kept })
      either false = tells_one id (answer.Fault fault.Full) v

  -- one that runs what is kept
  runs_due : (s : Store) (id : ℤ) (numbers : List ℤ) (found : Option Tx) (v w : DeskView) → Runs s id numbers found v w → due_of among others w ≡ due_of among others v + one id
  runs_due s id numbers None v w is = ap (due_of among others) is ∙ tells_one id (answer.Found false) v
  runs_due s id numbers (Some tx) v w runs = either (nat_le (length numbers) (first_puts tx)) runs
    where
      either : (b : Bool) → MatchBool b (RunsCopy s id numbers tx v w) (w ≡ tells v (answer_told id (answer.Found false) ∷ [])) → due_of among others w ≡ due_of among others v + one id
      either true r = planned_due s id r.copy (with_numbers numbers r.copy) v w r.takes
      either false is = ap (due_of among others) is ∙ tells_one id (answer.Found false) v

  -- a request that is taken is due once more
  pub taken_due : (s : Store) (id : ℤ) (asks : RequestBody) (v w : DeskView) → Takes s id asks v w → due_of among others w ≡ due_of among others v + cond (among id) 1 0
  taken_due s id (ask.Do tx) v w t = planned_due s id tx tx v w t
  taken_due s id (ask.Changed reads) v w t = may_wait_due s id (ask.Changed reads) v w t
  taken_due s id (ask.Cancel who) v w t = ap (due_of among others) t ∙ cancelled_due id who v
  taken_due s id (ask.Keep word tx) v w t =
      ⊎_elim
      (λ (n : HasNoPlan s id tx v w). ap (due_of among others) n.is ∙ tells_one id (answer.Fault (fault.BadPlan n.cause)) v)
      (λ (k : IsPlanOf s tx × (w ≡ kept_as id word tx v)). ap (due_of among others) k.1 ∙ kept_due id word tx v)
      t
  taken_due s id (ask.Run word numbers) v w t = runs_due s id numbers.items (kept_under word v.kept) v w t
  taken_due s id ask.Stats v w t = ap (due_of among others) t.is ∙ tells_one id (answer.Stats t.stats) v
  taken_due s id (ask.Try tx) v w t = ap (due_of among others) t.is ∙ tells_one id t.given (by v w.pass)
  taken_due s id (ask.Get vars) v w t = ap (due_of among others) t.is ∙ tells_one id t.given (by v w.pass)
  taken_due s id (ask.Settle proposal) v w t = ap (due_of among others) t.is ∙ tells_one id t.given (by v w.pass)
  taken_due s id ask.Look v w t = ap (due_of among others) t.is ∙ tells_one id t.given (by v w.pass)
  taken_due s id ask.State v w t = ap (due_of among others) t.is ∙ tells_one id t.given (by v w.pass)
  taken_due s id ask.Checkpoint v w t = ap (due_of among others) t.is ∙ tells_one id t.given (by v w.pass)

  -- one that is tried again is due as before
  answered_again : (id : ℤ) (asks : RequestBody) (given : Answer) (rest : List (ℤ × RequestBody)) (all : List Told)
      → count_by (waits_of among) rest + count_by (answers_any_of among others) (all ++ answer_told id given ∷ []) ≡ count_by (waits_of among) ((id, asks) ∷ rest) + count_by (answers_any_of among others) all
  answered_again id asks given rest all =
      let it : count_by (answers_any_of among others) (answer_told id given ∷ []) ≡ 0 + cond (among id) 1 0 = refl in
      let wait : count_by (waits_of among) ((id, asks) ∷ []) ≡ 0 + cond (among id) 1 0 = refl in
      let first : count_by (waits_of among) ((id, asks) ∷ rest) ≡ count_by (waits_of among) ((id, asks) ∷ []) + count_by (waits_of among) rest = count_append (waits_of among) ((id, asks) ∷ []) rest in
      omega (arith, count_append (answers_any_of among others) all (answer_told id given ∷ []))

  pub waits_again : (id : ℤ) (asks : RequestBody) (rest : List (ℤ × RequestBody)) (more : ℕ) → count_by (waits_of among) (rest ++ (id, asks) ∷ []) + more ≡ count_by (waits_of among) ((id, asks) ∷ rest) + more
  waits_again id asks rest more =
      let first : count_by (waits_of among) ((id, asks) ∷ rest) ≡ count_by (waits_of among) ((id, asks) ∷ []) + count_by (waits_of among) rest = count_append (waits_of among) ((id, asks) ∷ []) rest in
      omega (arith, count_append (waits_of among) rest ((id, asks) ∷ []))

  moved_due : (id : ℤ) (asks : RequestBody) (outcome : Option Answer) (rest : List (ℤ × RequestBody)) (v : DeskView)
      → due_of among others (tried_again id asks outcome rest v) ≡ count_by (waits_of among) ((id, asks) ∷ rest) + count_by (answers_any_of among others) v.told
  moved_due id asks (Some given) rest v = answered_again id asks given rest v.told
  moved_due id asks None rest v = waits_again id asks rest (count_by (answers_any_of among others) v.told)

  first_due : (s : Store) (v w : DeskView) → TriesFirst s v w → due_of among others w ≡ due_of among others v
  first_due s v w t =
      ap (due_of among others) t.is
      ∙ (moved_due t.id t.ask t.outcome t.rest (by v w.pass) ∙ ap (λ (ws : List (ℤ × RequestBody)). count_by (waits_of among) ws + count_by (answers_any_of among others) v.told) (sym t.first))

  next_due : (s : Store) (v w : DeskView) → TriesNext s v w → due_of among others w ≡ due_of among others v
  next_due s v w t = ⊎_elim (λ (none : (v.waiting ≡ []) × (w ≡ v)). ap (due_of among others) none.1) (first_due s v w) t

  pub repeated_due : (s : Store) (n : ℕ) (v w : DeskView) → Repeats (TriesNext s) n v w → due_of among others w ≡ due_of among others v
  repeated_due s zero v w same = ap (due_of among others) same
  repeated_due s (suc n) v w steps = repeated_due s n steps.0 w steps.2 ∙ next_due s v steps.0 steps.1

  pub round_due : (s : Store) (v w : DeskView) → Round s v w → due_of among others w ≡ due_of among others v
  round_due s v w round = repeated_due s (length v.waiting) v w round

  -- a line that is no request leaves each as it was
  tells_none : (v : DeskView) (number : ℕ) (refusal : NoRequest) → due_of among others (tells v (refused number refusal ∷ [])) ≡ due_of among others v + cond others 1 0
  tells_none v number refusal =
      let it : count_by (answers_any_of among others) (refused number refusal ∷ []) ≡ 0 + cond others 1 0 = refl in
      omega (arith, tells_more v (refused number refusal ∷ []))

  pub refused_due : (s : Store) (text : List ℕ) (v w : DeskView) → RefusesLine s text v w → due_of among others w ≡ due_of among others v + cond others 1 0
  refused_due s text v w r = ap (due_of among others) r.is ∙ tells_none (one_line_more v) (one_line_more v).lines r.refusal

  pub long_due : (v w : DeskView) → RefusesLong v w → due_of among others w ≡ due_of among others v + cond others 1 0
  long_due v w r = ap (due_of among others) r.is ∙ tells_none (one_line_more v) (one_line_more v).lines r.refusal

  -- ---- at the end

  pub rounds_due : (s : Store) (n : ℕ) (v w : DeskView) → Repeats (Round s) n v w → due_of among others w ≡ due_of among others v
  rounds_due s zero v w same = ap (due_of among others) same
  rounds_due s (suc n) v w steps = rounds_due s n steps.0 w steps.2 ∙ round_due s v steps.0 steps.1

  pub woken_due : (s : Store) (v w : DeskView) → Wakes s v w → due_of among others w ≡ due_of among others v
  woken_due s v w t = round_due s t.met w t.last ∙ rounds_due s t.rounds v t.met t.before

  pub finished_due : (s : Store) (v w : DeskView) → Finishes s v w → due_of among others w ≡ due_of among others v
  finished_due s v w f = ap (due_of among others) f.is ∙ woken_due s v f.woken f.wakes

  -- each that waits is answered
  closed_count : (ws : List (ℤ × RequestBody)) → count_by (answers_any_of among others) (closed ws) ≡ count_by (waits_of among) ws
  closed_count [] = refl
  closed_count (w ∷ ws) =
      let it : count_by (answers_any_of among others) (answer_told w.0 (answer.Fault fault.Closed) ∷ []) ≡ 0 + cond (among w.0) 1 0 = refl in
      let wait : count_by (waits_of among) (w ∷ []) ≡ 0 + cond (among w.0) 1 0 = refl in
      let all : count_by (answers_any_of among others) (closed (w ∷ ws)) ≡ count_by (answers_any_of among others) (answer_told w.0 (answer.Fault fault.Closed) ∷ []) + count_by (answers_any_of among others) (closed ws) =
      count_append (answers_any_of among others) (answer_told w.0 (answer.Fault fault.Closed) ∷ []) (closed ws) in
      omega (arith, closed_count ws, count_append (waits_of among) (w ∷ []) ws)

  -- so that all that is due is told
  pub closed_due : (v : DeskView) → count_by (answers_any_of among others) (with_closed v).told ≡ due_of among others v
  closed_due v = omega (arith, count_append (answers_any_of among others) v.told (closed v.waiting), closed_count v.waiting)

  -- as many are told at last
  last_one : (d : Option ℕ) (f : Fault) (t : Told) → count_by (answers_any_of among others) (told_last d f t ∷ []) ≡ count_by (answers_any_of among others) (t ∷ [])
  last_one d f (told.Answer a) = refl
  last_one d f (told.NoRequest n) = refl

  pub last_count : (d : Option ℕ) (f : Fault) (ts : List Told) → count_by (answers_any_of among others) (map (told_last d f) ts) ≡ count_by (answers_any_of among others) ts
  last_count d f [] = refl
  last_count d f (t ∷ ts) =
      let all : count_by (answers_any_of among others) (map (told_last d f) (t ∷ ts)) ≡ count_by (answers_any_of among others) (told_last d f t ∷ []) + count_by (answers_any_of among others) (map (told_last d f) ts) =
      count_append (answers_any_of among others) (told_last d f t ∷ []) (map (told_last d f) ts) in
      omega (arith, last_one d f t, last_count d f ts, count_append (answers_any_of among others) (t ∷ []) ts)
