-- Runs of the leaves of a tree.
use Rattle.std.proofs.Common.{◌≡◌, ℕ, ℤ, Bool, true, false, List, [], ◌∷◌, ◌++◌, Option, Some, None, nat_eq, option_to_list, cond, refl, sym, ap, ◌∙◌, subst}
use Rattle.std.proofs.lemmas.Bool.{eqb-true}
use Rattle.indexmap.specs.IndexMap.{insert_entry}
use Rattle.tmem_effect.specs.Writes.{value_in}
use Rattle.tmem_tree.specs.declared.tx.Tx.{Tx}
use Rattle.tmem_tree.specs.declared.tx.Tx.TheVariants.{Read, Check}
use Rattle.tmem_tree.specs.StepAnswers.{StepMeanings}
use Rattle.tmem_tree.specs.Visited.{Ask, Visit, Probe}
use Rattle.tmem_tentative.specs.declared.attempt.Attempt.{Attempt}
use Rattle.tmem_tentative.specs.declared.attempt.Probe.{Probe as Asked}
use Rattle.tmem_tentative.specs.declared.flow.Flow as code
use Rattle.tmem_tentative.specs.declared.flow.Flow.TheVariants.{Normal, Need, Test, Retry, Leave}
use Rattle.tmem_tentative.specs.declared.save.Save.{Save}
use Rattle.tmem_tentative.specs.Eval.{RunState, Taken, Goes, Stops, FootprintSeen, Lacks, Found, eval, eval_put, saw, read, seen_of, noted_of, before, see_first, footprint_seen, eval_checked, tested}
use Rattle.tmem_tentative.specs.Logs.{Out, Went, Stopped, Gave_way, flow_at, out_of, taken_of, run_state_of}
use Rattle.tmem_tentative.specs.Places.{Covers, Place, LeadsTo, place_of, behind, read_behind, read_seen}
use Rattle.tmem_tentative.proofs.EvalSeen.{value_in-saw}
use Rattle.tmem_tentative.proofs.ReadEntries.{value_in-insert}

-- what is there is inserted once more
insert-same : (es : List (ℕ × ℤ)) (k : ℕ) (n : ℤ) → value_in es k ≡ Some n → insert_entry nat_eq es k n ≡ es
insert-same [] k n h = cc
insert-same (e ∷ es) k n h = on (nat_eq k e.0) (insert-same es k n) h where
  on : (b : Bool) → (value_in es k ≡ Some n → insert_entry nat_eq es k n ≡ es) → cond b (Some e.1) (value_in es k) ≡ Some n → cond b ((e.0, n) ∷ es) (e ∷ insert_entry nat_eq es k n) ≡ e ∷ es
  on true ih h = let is : e.1 ≡ n = cc in ap (λ x. (e.0, x) ∷ es) (sym is)
  on false ih h = ap (λ l. e ∷ l) (ih h)

saw-same : (s : RunState) (k : ℕ) (n : ℤ) → value_in s.seen.reads k ≡ Some n → saw s k n ≡ s
saw-same s k n h =
    ap (λ es. record { registers = s.registers; effect = s.effect; seen = record { reads = es; left = s.seen.left } }) (insert-same s.seen.reads k n h)

-- a run that goes on has not been left
pub normal_stays : (P : Type 0) → Normal ≡ Leave → P
normal_stays P is = let no : ⊥ = cc in absurd no

-- how a run has come out that asks for a variable, or for a test
pub out_is_went : (f : code.Flow) (log : Attempt) (probe : Asked) → out_of f log probe ≡ Went → f ≡ Normal
out_is_went Normal log probe e = refl
out_is_went f log probe e = cc

pub out_is_gave_way : (f : code.Flow) (log : Attempt) (probe : Asked) → out_of f log probe ≡ Gave_way → f ≡ Retry
out_is_gave_way Retry log probe e = refl
out_is_gave_way f log probe e = cc

pub out_is_stopped : (f : code.Flow) (log : Attempt) (probe : Asked) (ask : Ask) → out_of f log probe ≡ Stopped ask → ((n : ℕ) → f ≡ Need n → ⊥) → f ≡ Test
out_is_stopped (Need n) log probe ask e none = absurd (none n refl)
out_is_stopped Test log probe ask e none = refl
out_is_stopped f log probe ask e none = cc

module _ (m : StepMeanings) (footprint : List ℕ → List ℕ) where
  -- a run that has ended stands there
  ended_behind : (reads : List (ℕ × ℤ)) (tx : Tx) (out : Out) (p : Place) (seen : Taken) → ((ask : Ask) → out ≡ Stopped ask → ⊥)
      → flow_at out (record { registers = p.registers; effect = p.effect; seen = seen }) ≡ behind m footprint reads tx out p seen
  ended_behind reads tx (Stopped ask) p seen none = absurd (none ask refl)
  ended_behind reads tx out p seen none = refl

  read_behind_ended : (out : Out) (seen : List (ℕ × ℤ)) (n : ℤ) → ((ask : Ask) → out ≡ Stopped ask → ⊥) → read_behind out seen n ≡ seen
  read_behind_ended (Stopped ask) seen n none = absurd (none ask refl)
  read_behind_ended out seen n none = refl

  -- a leaf that ends, and uses no answer
  pub leaf_leads : (tx : Tx) (log log' : Attempt) (saves : List Save) (left : List Bool) (out : Out) → ((ask : Ask) → out ≡ Stopped ask → ⊥) → log'.reads ≡ log.reads
      → ((reads : List (ℕ × ℤ)) (left : List Bool) → Covers reads log.reads.entries → eval m footprint reads tx (run_state_of log left) ≡ flow_at out (run_state_of log' left))
      → LeadsTo m footprint (taken_of log left) tx (place_of log [] saves) out (place_of log' [] saves) left
  leaf_leads tx log log' saves left out ends same runs = record {
    asks = λ ask is. absurd (ends ask is);
    spent = λ name values is. absurd (ends _ is);
    goes_on = λ reads n more c d.
        runs reads (left ++ more) c
        ∙ ended_behind reads tx out (place_of log' [] saves) (taken_of log' (left ++ more)) ends
        ∙ ap (λ es. behind m footprint reads tx out (place_of log' [] saves) (record { reads = es; left = left ++ more })) (ap (λ rs. rs.entries) same ∙ sym (read_behind_ended out log.reads.entries n ends));
  }

  -- a Read
  module _ (var reg : ℕ) (log : Attempt) (saves : List Save) (left : List Bool) where
    read_wants : value_in log.effect.writes var ≡ None → value_in log.reads.entries var ≡ None → LeadsTo m footprint (taken_of log left) (Read var reg) (place_of log [] saves) (Stopped (Visit var)) (place_of log [] saves) left
    read_wants h k = record {
      asks = λ ask is. let s = run_state_of log (left ++ []) in ap (λ o. read o (value_in log.reads.entries var) s var reg) h ∙ ap (λ p. read None p s var reg) k ∙ cc;
      spent = λ name values is. cc;
      goes_on = λ reads n more c d.
          let there : value_in reads var ≡ Some n = d.at var n (value_in-saw log.reads.entries var n) in
          let s = run_state_of log (left ++ more) in
          let r = saw s var n in
          ap (λ o. read o (value_in reads var) s var reg) h ∙ ap (λ p. read None p s var reg) there
          ∙ ap (λ x. Goes (eval_put x reg n)) (sym (saw-same r var n (value_in-saw log.reads.entries var n)))
          ∙ sym (ap (λ o. read o (value_in reads var) r var reg) h ∙ ap (λ p. read None p r var reg) there);
    }

    pub read_leads : (out : Out) (log' : Attempt) → log'.reads ≡ log.reads → ((ask : Ask) → out ≡ Stopped ask → log' ≡ log)
        → ((left : List Bool) → flow_at out (run_state_of log' left) ≡ read_seen (value_in log.effect.writes var) (value_in log.reads.entries var) (run_state_of log left) var reg)
        → LeadsTo m footprint (taken_of log left) (Read var reg) (place_of log [] saves) out (place_of log' [] saves) left
    read_leads out log' same stays flow = on (value_in log.effect.writes var) (value_in log.reads.entries var) refl refl flow where
      ends : (n : ℤ) → flow_at out (run_state_of log' []) ≡ Goes (eval_put (run_state_of log []) reg n) → (ask : Ask) → out ≡ Stopped ask → ⊥
      ends n e ask is = let no : Stops ask ≡ Goes (eval_put (run_state_of log []) reg n) = sym (ap (λ o. flow_at o (run_state_of log' [])) is) ∙ e in cc

      on : (o p : Option ℤ) → value_in log.effect.writes var ≡ o → value_in log.reads.entries var ≡ p → ((left : List Bool) → flow_at out (run_state_of log' left) ≡ read_seen o p (run_state_of log left) var reg)
          → LeadsTo m footprint (taken_of log left) (Read var reg) (place_of log [] saves) out (place_of log' [] saves) left
      on (Some n) p h k flow =
          leaf_leads (Read var reg) log log' saves left out (ends n (flow [])) same (λ reads left c. ap (λ o. read o (value_in reads var) (run_state_of log left) var reg) h ∙ sym (flow left))
      on None (Some n) h k flow =
          leaf_leads (Read var reg) log log' saves left out (ends n (flow [])) same (λ reads left c.
          ap (λ o. read o (value_in reads var) (run_state_of log left) var reg) h ∙ ap (λ p. read None p (run_state_of log left) var reg) (c.at var n k)
          ∙ ap (λ x. Goes (eval_put x reg n)) (saw-same (run_state_of log left) var n k) ∙ sym (flow left))
      on None None h k flow = stopped out (flow []) stays where
        stopped : (out : Out) → flow_at out (run_state_of log' []) ≡ Stops (Visit var) → ((ask : Ask) → out ≡ Stopped ask → log' ≡ log) → LeadsTo m footprint (taken_of log left) (Read var reg) (place_of log [] saves) out (place_of log' [] saves) left
        stopped (Stopped ask) e stays =
            let is : Visit var ≡ ask = cc in
            subst (λ a. LeadsTo m footprint (taken_of log left) (Read var reg) (place_of log [] saves) (Stopped a) (place_of log' [] saves) left) is
            (subst (λ l. LeadsTo m footprint (taken_of log left) (Read var reg) (place_of log [] saves) (Stopped (Visit var)) (place_of l [] saves) left) (sym (stays ask refl)) (read_wants h k))
        stopped out e stays = cc

-- What is seen of a footprint in the reads so far is seen in all reads that have those.
module _ (reads : List (ℕ × ℤ)) (s : RunState) (covers : Covers reads s.seen.reads) where
  found_over : (vars : List ℕ) → ((var : ℕ) → footprint_seen s.seen.reads vars s ≡ Lacks var → ⊥) → footprint_seen reads vars s ≡ footprint_seen s.seen.reads vars s
  found_over [] none = refl
  found_over (v ∷ vars) none = on (value_in s.effect.writes v) (value_in s.seen.reads v) refl (found_over vars) none where
    on : (o p : Option ℤ) → value_in s.seen.reads v ≡ p → (((var : ℕ) → footprint_seen s.seen.reads vars s ≡ Lacks var → ⊥) → footprint_seen reads vars s ≡ footprint_seen s.seen.reads vars s)
        → ((var : ℕ) → see_first o p s v (footprint_seen s.seen.reads vars) ≡ Lacks var → ⊥) → see_first o (value_in reads v) s v (footprint_seen reads vars) ≡ see_first o p s v (footprint_seen s.seen.reads vars)
    on (Some n) p k rest none = ap (before n) (rest (λ var e. none var (ap (before n) e)))
    on None (Some n) k rest none =
        ap (λ p. see_first None p s v (footprint_seen reads vars)) (covers.at v n k) ∙ ap (λ r. before n (footprint_seen reads vars r)) (saw-same s v n k)
        ∙ ap (before n) (rest (λ var e. none var (ap (λ r. before n (footprint_seen s.seen.reads vars r)) (saw-same s v n k) ∙ ap (before n) e)))
        ∙ ap (λ r. before n (footprint_seen s.seen.reads vars r)) (sym (saw-same s v n k))
    on None None k rest none = absurd (none v refl)

  before_lacks : (n : ℤ) (l : FootprintSeen) (var : ℕ) → before n l ≡ Lacks var → l ≡ Lacks var
  before_lacks n (Lacks v) var e = e
  before_lacks n (Found values r) var e = cc

  -- the first variable that it lacks may as well be read before
  lacks_over : (vars : List ℕ) (var : ℕ) (n : ℤ) → footprint_seen s.seen.reads vars s ≡ Lacks var → value_in reads var ≡ Some n → footprint_seen reads vars s ≡ footprint_seen reads vars (saw s var n)
  lacks_over [] var n e there = cc
  lacks_over (v ∷ vars) var n e there = on (value_in s.effect.writes v) (value_in s.seen.reads v) refl (λ e. lacks_over vars var n e there) e where
    seen_still : (x : ℤ) → value_in s.seen.reads v ≡ Some x → value_in (saw s var n).seen.reads v ≡ Some x
    seen_still x k = value_in-insert s.seen.reads var n v ∙ by (nat_eq v var) refl where
      by : (b : Bool) → nat_eq v var ≡ b → cond b (Some n) (value_in s.seen.reads v) ≡ Some x
      by true is = sym there ∙ sym (ap (value_in reads) (eqb-true v var is)) ∙ covers.at v x k
      by false is = k

    on : (o p : Option ℤ) → value_in s.seen.reads v ≡ p → (footprint_seen s.seen.reads vars s ≡ Lacks var → footprint_seen reads vars s ≡ footprint_seen reads vars (saw s var n)) → see_first o p s v (footprint_seen s.seen.reads vars) ≡ Lacks var
        → see_first o (value_in reads v) s v (footprint_seen reads vars) ≡ see_first o (value_in reads v) (saw s var n) v (footprint_seen reads vars)
    on (Some x) p k rest e = ap (before x) (rest (before_lacks x _ var e))
    on None (Some x) k rest e =
        let here = ap (λ p. see_first None p s v (footprint_seen reads vars)) (covers.at v x k) ∙ ap (λ r. before x (footprint_seen reads vars r)) (saw-same s v x k) in
        let later = ap (λ p. see_first None p (saw s var n) v (footprint_seen reads vars)) (covers.at v x k) ∙ ap (λ r. before x (footprint_seen reads vars r)) (saw-same (saw s var n) v x (seen_still x k)) in
        here ∙ ap (before x) (rest (ap (footprint_seen s.seen.reads vars) (sym (saw-same s v x k)) ∙ before_lacks x _ var e)) ∙ sym later
    on None None k rest e =
        let is : v ≡ var = cc in
        let value : value_in reads v ≡ Some n = ap (value_in reads) is ∙ there in
        ap (λ p. see_first None p s v (footprint_seen reads vars)) value ∙ ap (λ w. before n (footprint_seen reads vars (saw s w n))) is
        ∙ sym (ap (λ p. see_first None p (saw s var n) v (footprint_seen reads vars)) value ∙ ap (λ r. before n (footprint_seen reads vars r)) (saw-same (saw s var n) v n (ap (value_in (saw s var n).seen.reads) is ∙ value_in-saw s.seen.reads var n)))

-- A Check, whose footprint is this.
module _ (m : StepMeanings) (footprint : List ℕ → List ℕ) (name vars : List ℕ) (meant : footprint name ≡ vars) (log : Attempt) (saves : List Save) where
  eval_check : (reads : List (ℕ × ℤ)) (s : RunState) → eval m footprint reads (Check name) s ≡ eval_checked (footprint_seen reads vars s) name
  eval_check reads s = ap (λ vs. eval_checked (footprint_seen reads vs s) name) meant

  -- that lacks a variable
  pub lacks_leads : (var : ℕ) (left : List Bool) → ((left : List Bool) → footprint_seen log.reads.entries vars (run_state_of log left) ≡ Lacks var) → LeadsTo m footprint (taken_of log left) (Check name) (place_of log [] saves) (Stopped (Visit var)) (place_of log [] saves) left
  lacks_leads var left lacks = record {
    asks = λ ask is. eval_check log.reads.entries (run_state_of log (left ++ [])) ∙ ap (λ l. eval_checked l name) (lacks (left ++ [])) ∙ cc;
    spent = λ name values is. cc;
    goes_on = λ reads n more c d.
        let s = run_state_of log (left ++ more) in
        eval_check reads s ∙ ap (λ l. eval_checked l name) (lacks_over reads s c vars var n (lacks (left ++ more)) (d.at var n (value_in-saw log.reads.entries var n)))
        ∙ sym (eval_check reads (saw s var n));
  }

  module _ (values : List ℤ) (log' : Attempt) (out : Out) (found : (left : List Bool) → footprint_seen log.reads.entries vars (run_state_of log left) ≡ Found values (run_state_of log left)) (same : log'.reads ≡ log.reads) where
    tests : (reads : List (ℕ × ℤ)) (left : List Bool) → Covers reads log.reads.entries → eval m footprint reads (Check name) (run_state_of log left) ≡ tested left name values (run_state_of log left)
    tests reads left c =
        eval_check reads (run_state_of log left)
        ∙ ap (λ l. eval_checked l name) (found_over reads (run_state_of log left) c vars (λ var e. let no : Found values (run_state_of log left) ≡ Lacks var = sym (found left) ∙ e in cc) ∙ found left)

    -- that has an answer
    answered_leads : (held : Bool) → ((left : List Bool) → flow_at out (run_state_of log' left) ≡ tested (held ∷ left) name values (run_state_of log (held ∷ left)))
        → LeadsTo m footprint (taken_of log (held ∷ [])) (Check name) (place_of log [] saves) out (place_of log' [] saves) []
    answered_leads held flow = record {
      asks = λ ask is. absurd (ends held (flow []) ask is);
      spent = λ name values is. refl;
      goes_on = λ reads n more c d.
          tests reads (held ∷ more) c ∙ sym (flow more)
          ∙ ended_behind m footprint reads (Check name) out (place_of log' [] saves) (taken_of log' more) (ends held (flow []))
          ∙ ap (λ es. behind m footprint reads (Check name) out (place_of log' [] saves) (record { reads = es; left = more })) (ap (λ rs. rs.entries) same ∙ sym (read_behind_ended m footprint out log.reads.entries n (ends held (flow []))));
    } where
      ends : (held : Bool) → flow_at out (run_state_of log' []) ≡ tested (held ∷ []) name values (run_state_of log (held ∷ [])) → (ask : Ask) → out ≡ Stopped ask → ⊥
      ends true e ask is = let no : Stops ask ≡ tested (true ∷ []) name values (run_state_of log (true ∷ [])) = sym (ap (λ o. flow_at o (run_state_of log' [])) is) ∙ e in cc
      ends false e ask is = let no : Stops ask ≡ tested (false ∷ []) name values (run_state_of log (false ∷ [])) = sym (ap (λ o. flow_at o (run_state_of log' [])) is) ∙ e in cc

    -- that has none
    open_leads : ((ask : Ask) → out ≡ Stopped ask → log' ≡ log) → flow_at out (run_state_of log' []) ≡ Stops (Probe name values)
        → LeadsTo m footprint (taken_of log []) (Check name) (place_of log [] saves) out (place_of log' [] saves) []
    open_leads stays flow =
        subst (λ o. LeadsTo m footprint (taken_of log []) (Check name) (place_of log [] saves) o (place_of log' [] saves) []) (sym is)
        (subst (λ l. LeadsTo m footprint (taken_of log []) (Check name) (place_of log [] saves) (Stopped (Probe name values)) (place_of l [] saves) []) (sym (stays _ is)) (record {
          asks = λ ask e. tests log.reads.entries [] (record { at = λ v n h. h }) ∙ cc;
          spent = λ name values is. refl;
          goes_on = λ reads n more c d. refl;
        })) where
          probes : (out : Out) → flow_at out (run_state_of log' []) ≡ Stops (Probe name values) → out ≡ Stopped (Probe name values)
          probes (Stopped ask) e = cc
          probes out e = cc

          is : out ≡ Stopped (Probe name values)
          is = probes out flow

    pub check_leads : (held held' : Option Bool) → held' ≡ None → ((ask : Ask) → out ≡ Stopped ask → log' ≡ log)
        → ((left : List Bool) → (held ≡ None → left ≡ []) → flow_at out (run_state_of log' left) ≡ tested (option_to_list held ++ left) name values (run_state_of log (option_to_list held ++ left)))
        → LeadsTo m footprint (taken_of log (option_to_list held)) (Check name) (place_of log [] saves) out (place_of log' [] saves) (option_to_list held')
    check_leads held held' used stays flow =
        subst (λ h. LeadsTo m footprint (taken_of log (option_to_list held)) (Check name) (place_of log [] saves) out (place_of log' [] saves) (option_to_list h)) (sym used) (on held flow) where
          on : (held : Option Bool) → ((left : List Bool) → (held ≡ None → left ≡ []) → flow_at out (run_state_of log' left) ≡ tested (option_to_list held ++ left) name values (run_state_of log (option_to_list held ++ left)))
              → LeadsTo m footprint (taken_of log (option_to_list held)) (Check name) (place_of log [] saves) out (place_of log' [] saves) []
          on None flow = open_leads stays (flow [] (λ e. refl))
          on (Some b) flow = answered_leads b (λ left. flow left (λ e. cc))

-- what is seen was noted before
pub noted-same : (s : RunState) (var : ℕ) → s ≡ noted_of (value_in s.effect.writes var) (value_in s.seen.reads var) s var
noted-same s var = on (value_in s.effect.writes var) (value_in s.seen.reads var) refl where
  on : (o p : Option ℤ) → value_in s.seen.reads var ≡ p → s ≡ noted_of o p s var
  on (Some n) p k = refl
  on None (Some n) k = sym (saw-same s var n k)
  on None None k = refl

pub footprint_none : (s : RunState) (var : ℕ) (vars : List ℕ) → seen_of (value_in s.effect.writes var) (value_in s.seen.reads var) ≡ None → footprint_seen s.seen.reads (var ∷ vars) s ≡ Lacks var
footprint_none s var vars h = on (value_in s.effect.writes var) (value_in s.seen.reads var) h where
  on : (o p : Option ℤ) → seen_of o p ≡ None → see_first o p s var (footprint_seen s.seen.reads vars) ≡ Lacks var
  on (Some x) p h = cc
  on None (Some x) h = cc
  on None None h = refl
