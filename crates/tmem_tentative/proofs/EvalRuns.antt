-- On each map that agrees with the reads, and where the tests gave the answers, an evaluation tells how the run ends and what it
-- asks for.
use Rattle.std.proofs.Common.{◌≡◌, ℕ, zero, suc, ℤ, Bool, true, false, List, [], ◌∷◌, ◌++◌, map, length, Option, Some, None, unwrap_or, nat_eq, cond, refl, sym, ap, ◌∙◌, subst, append-nil}
use mathlib.Core.Path.{fun_ext}
use Rattle.indexmap.specs.IndexMap.{insert_entry}
use Rattle.tmem_invariants.specs.Meanings.{Meanings}
use Rattle.tmem_tree.specs.declared.tx.Tx.{Tx, Row_of-Tx, end_of-Tx, more_of-Tx}
use Rattle.tmem_tree.specs.declared.tx.Tx.TheVariants.{Seq', Read, Write, Step, When', OrElse', Check}
use Rattle.tmem_tree.specs.declared.step.StepAnswer.{StepAnswer}
use Rattle.tmem_tree.specs.declared.step.StepAnswer.TheVariants as answer
use Rattle.tmem_tree.specs.StepAnswers.{StepMeanings}
use Rattle.tmem_effect.specs.Writes.{value_in, with_write}
use Rattle.tmem_tree.specs.Run as run
use Rattle.tmem_tree.specs.Run.{View, RunResult, Normal, Retried, Aborted, Broken, run, run_all, updated, register, is_zero, then_run, or_else}
use Rattle.tmem_tree.specs.Visited.{Ask, Visit, Probe, asks, asks_all, read_of, unwritten, then_ask, else_ask, visits_in}
use Rattle.tmem_tentative.specs.Eval.{RunState, Taken, Leaving, Gives_up, Breaks, Flow, Goes, Stops, Retries, Leaves, FootprintSeen, Lacks, Found, eval, eval_all, then_eval, else_eval, read, eval_answered, saw, before, see_first, footprint_seen, tested, eval_checked}
use Rattle.tmem_tentative.specs.Right.{Agrees, Gave, if_there, first_open}
use Rattle.tmem_tentative.proofs.ReadEntries.{write_is_insert, value_in-insert, note, note-append}

-- a map under some writes
abbrev pub overlay : (ℕ → ℤ) → List (ℕ × ℤ) → ℕ → ℤ
overlay values ws v = unwrap_or (value_in ws v) (values v)

-- the view of a state on a map
abbrev pub view_of : (ℕ → ℤ) → RunState → View
view_of values s = record { values = overlay values s.effect.writes; registers = s.registers; effect = s.effect }

pub overlay-write : (values : ℕ → ℤ) (ws : List (ℕ × ℤ)) (x : ℕ) (n : ℤ) → overlay values (with_write ws x n) ≡ updated (overlay values ws) x n
overlay-write values ws x n = fun_ext (λ v. ap (λ es. unwrap_or (value_in es v) (values v)) (write_is_insert ws x n) ∙ ap (λ o. unwrap_or o (values v)) (value_in-insert ws x n v) ∙ on v (nat_eq v x)) where
  on : (v : ℕ) (b : Bool) → unwrap_or (cond b (Some n) (value_in ws v)) (values v) ≡ cond b n (overlay values ws v)
  on v true = refl
  on v false = refl

-- those of the answers that are left behind the tests of these
abbrev pub left_behind : List Bool → List Ask → List Bool
left_behind left [] = left
left_behind left (Visit var ∷ more) = left_behind left more
left_behind [] (Probe name values ∷ more) = []
left_behind (answer ∷ left) (Probe name values ∷ more) = left_behind left more

visits-append : (xs ys : List Ask) → visits_in (xs ++ ys) ≡ visits_in xs ++ visits_in ys
visits-append [] ys = refl
visits-append (Visit var ∷ xs) ys = ap (λ l. var ∷ l) (visits-append xs ys)
visits-append (Probe name values ∷ xs) ys = visits-append xs ys

left_behind-none : (xs : List Ask) → left_behind [] xs ≡ []
left_behind-none [] = refl
left_behind-none (Visit var ∷ xs) = left_behind-none xs
left_behind-none (Probe name values ∷ xs) = refl

left_behind-append : (left : List Bool) (xs ys : List Ask) → left_behind left (xs ++ ys) ≡ left_behind (left_behind left xs) ys
left_behind-append left [] ys = refl
left_behind-append left (Visit var ∷ xs) ys = left_behind-append left xs ys
left_behind-append [] (Probe name values ∷ xs) ys = sym (left_behind-none ys)
left_behind-append (answer ∷ left) (Probe name values ∷ xs) ys = left_behind-append left xs ys

module _ (tests : Meanings) where
  gave_none : (xs : List Ask) → Gave tests [] xs
  gave_none [] = tt
  gave_none (Visit var ∷ xs) = gave_none xs
  gave_none (Probe name values ∷ xs) = tt

  -- the answers to the first of these, and to the others
  gave_first : (left : List Bool) (xs ys : List Ask) → Gave tests left (xs ++ ys) → Gave tests left xs
  gave_first left [] ys g = tt
  gave_first left (Visit var ∷ xs) ys g = gave_first left xs ys g
  gave_first [] (Probe name values ∷ xs) ys g = tt
  gave_first (answer ∷ left) (Probe name values ∷ xs) ys g = (g.0, gave_first left xs ys g.1)

  gave_rest : (left : List Bool) (xs ys : List Ask) → Gave tests left (xs ++ ys) → Gave tests (left_behind left xs) ys
  gave_rest left [] ys g = g
  gave_rest left (Visit var ∷ xs) ys g = gave_rest left xs ys g
  gave_rest [] (Probe name values ∷ xs) ys g = gave_none ys
  gave_rest (answer ∷ left) (Probe name values ∷ xs) ys g = gave_rest left xs ys g.1

module _ (reads : List (ℕ × ℤ)) where
  open_behind : (left : List Bool) (xs ys : List Ask) → first_open reads (length left) xs ≡ None → first_open reads (length left) (xs ++ ys) ≡ first_open reads (length (left_behind left xs)) ys
  open_behind left [] ys h = refl
  open_behind left (Visit var ∷ xs) ys h = on (value_in reads var) (open_behind left xs ys) h where
    on : (o : Option ℤ) → (first_open reads (length left) xs ≡ None → first_open reads (length left) (xs ++ ys) ≡ first_open reads (length (left_behind left xs)) ys) → if_there o (Visit var) (first_open reads (length left) xs) ≡ None → if_there o (Visit var) (first_open reads (length left) (xs ++ ys)) ≡ first_open reads (length (left_behind left xs)) ys
    on (Some n) k h = k h
    on None k h = cc
  open_behind [] (Probe name values ∷ xs) ys h = cc
  open_behind (answer ∷ left) (Probe name values ∷ xs) ys h = open_behind left xs ys h

  open_early : (n : ℕ) (xs ys : List Ask) (ask : Ask) → first_open reads n xs ≡ Some ask → first_open reads n (xs ++ ys) ≡ Some ask
  open_early n [] ys ask h = cc
  open_early n (Visit var ∷ xs) ys ask h = on (value_in reads var) (open_early n xs ys ask) h where
    on : (o : Option ℤ) → (first_open reads n xs ≡ Some ask → first_open reads n (xs ++ ys) ≡ Some ask) → if_there o (Visit var) (first_open reads n xs) ≡ Some ask → if_there o (Visit var) (first_open reads n (xs ++ ys)) ≡ Some ask
    on (Some n) k h = k h
    on None k h = h
  open_early zero (Probe name values ∷ xs) ys ask h = h
  open_early (suc n) (Probe name values ∷ xs) ys ask h = open_early n xs ys ask h

-- how a run ends that is left for good
abbrev pub result_of : Leaving → RunResult
result_of (Gives_up code) = Aborted code
result_of (Breaks name) = Broken name

module _ (reads : List (ℕ × ℤ)) (values : ℕ → ℤ) where
  -- what a run took that asked for these
  abbrev pub took : Taken → List Ask → Taken
  took seen xs = record { reads = note values seen.reads (visits_in xs); left = left_behind seen.left xs }

  took-append : (seen : Taken) (xs ys : List Ask) → took (took seen xs) ys ≡ took seen (xs ++ ys)
  took-append seen xs ys =
      ap (λ l. record { reads = l; left = left_behind (left_behind seen.left xs) ys }) (sym (note-append values seen.reads (visits_in xs) (visits_in ys)) ∙ ap (note values seen.reads) (sym (visits-append xs ys)))
      ∙ ap (λ l. record { reads = note values seen.reads (visits_in (xs ++ ys)); left = l }) (sym (left_behind-append seen.left xs ys))

  -- behind what was taken, a run on the map with this ending, which asks for these, and an evaluation over the reads
  abbrev pub Tells : Taken → RunResult → List Ask → Flow → Type 0
  Tells seen ending xs (Goes s) = (ending ≡ Normal (view_of values s)) × (first_open reads (length seen.left) xs ≡ None) × (s.seen ≡ took seen xs)
  Tells seen ending xs (Stops ask) = first_open reads (length seen.left) xs ≡ Some ask
  Tells seen ending xs (Retries seen') = (ending ≡ Retried) × (first_open reads (length seen.left) xs ≡ None) × (seen' ≡ took seen xs)
  Tells seen ending xs (Leaves how seen') = (ending ≡ result_of how) × (first_open reads (length seen.left) xs ≡ None) × (seen' ≡ took seen xs)

  -- behind others that are not open
  module _ (seen seen' : Taken) (xs ys : List Ask) (none : first_open reads (length seen.left) xs ≡ None) (is : seen' ≡ took seen xs) where
    opens : first_open reads (length seen.left) (xs ++ ys) ≡ first_open reads (length seen'.left) ys
    opens = open_behind reads seen.left xs ys none ∙ ap (λ (t : Taken). first_open reads (length t.left) ys) (sym is)

    takes : took seen' ys ≡ took seen (xs ++ ys)
    takes = ap (λ t. took t ys) is ∙ took-append seen xs ys

    after : (e : RunResult) (f : Flow) → Tells seen' e ys f → Tells seen e (xs ++ ys) f
    after e (Goes s) t = (t.0, opens ∙ t.1, t.2 ∙ takes)
    after e (Stops ask) t = opens ∙ t
    after e (Retries s) t = (t.0, opens ∙ t.1, t.2 ∙ takes)
    after e (Leaves how s) t = (t.0, opens ∙ t.1, t.2 ∙ takes)

  -- and nothing more
  no_more : (seen : Taken) (xs : List Ask) (e : RunResult) (f : Flow) → Tells seen e xs f → Tells seen e (xs ++ []) f
  no_more seen xs e f t = subst (λ l. Tells seen e l f) (sym (append-nil xs)) t

  module _ (tests : Meanings) where
    then_tells : (seen : Taken) (xs : List Ask) (e : RunResult) (f : Flow) (go : View → RunResult) (ask : View → List Ask) (on : RunState → Flow) → Gave tests seen.left (xs ++ then_ask e ask) → Tells seen e xs f
        → ((s : RunState) → Gave tests s.seen.left (ask (view_of values s)) → Tells s.seen (go (view_of values s)) (ask (view_of values s)) (on s))
        → Tells seen (then_run e go) (xs ++ then_ask e ask) (then_eval f on)
    then_tells seen xs e (Goes s) go ask on g t k =
        let rest = gave_rest tests seen.left xs (ask (view_of values s)) (subst (λ e'. Gave tests seen.left (xs ++ then_ask e' ask)) t.0 g) in
        subst (λ e'. Tells seen (then_run e' go) (xs ++ then_ask e' ask) (on s)) (sym t.0)
        (after seen s.seen xs (ask (view_of values s)) t.1 t.2 (go (view_of values s)) (on s) (k s (subst (λ (x : Taken). Gave tests x.left (ask (view_of values s))) (sym t.2) rest)))
    then_tells seen xs e (Stops what) go ask on g t k = open_early reads (length seen.left) xs (then_ask e ask) what t
    then_tells seen xs e (Retries s) go ask on g t k =
        subst (λ e'. Tells seen (then_run e' go) (xs ++ then_ask e' ask) (Retries s)) (sym t.0) (no_more seen xs Retried (Retries s) (refl, t.1, t.2))
    then_tells seen xs e (Leaves (Gives_up code) s) go ask on g t k =
        subst (λ e'. Tells seen (then_run e' go) (xs ++ then_ask e' ask) (Leaves (Gives_up code) s)) (sym t.0) (no_more seen xs (Aborted code) (Leaves (Gives_up code) s) (refl, t.1, t.2))
    then_tells seen xs e (Leaves (Breaks name) s) go ask on g t k =
        subst (λ e'. Tells seen (then_run e' go) (xs ++ then_ask e' ask) (Leaves (Breaks name) s)) (sym t.0) (no_more seen xs (Broken name) (Leaves (Breaks name) s) (refl, t.1, t.2))

    else_tells : (seen : Taken) (xs ys : List Ask) (e e' : RunResult) (f : Flow) (on : Taken → Flow) → Gave tests seen.left (xs ++ else_ask e ys) → Tells seen e xs f
        → ((seen' : Taken) → Gave tests seen'.left ys → Tells seen' e' ys (on seen'))
        → Tells seen (or_else e e') (xs ++ else_ask e ys) (else_eval f on)
    else_tells seen xs ys e e' (Goes s) on g t k =
        subst (λ d. Tells seen (or_else d e') (xs ++ else_ask d ys) (Goes s)) (sym t.0) (no_more seen xs (Normal (view_of values s)) (Goes s) (refl, t.1, t.2))
    else_tells seen xs ys e e' (Stops what) on g t k = open_early reads (length seen.left) xs (else_ask e ys) what t
    else_tells seen xs ys e e' (Retries s) on g t k =
        let rest = gave_rest tests seen.left xs ys (subst (λ d. Gave tests seen.left (xs ++ else_ask d ys)) t.0 g) in
        subst (λ d. Tells seen (or_else d e') (xs ++ else_ask d ys) (on s)) (sym t.0)
        (after seen s xs ys t.1 t.2 e' (on s) (k s (subst (λ (x : Taken). Gave tests x.left ys) (sym t.2) rest)))
    else_tells seen xs ys e e' (Leaves (Gives_up code) s) on g t k =
        subst (λ d. Tells seen (or_else d e') (xs ++ else_ask d ys) (Leaves (Gives_up code) s)) (sym t.0) (no_more seen xs (Aborted code) (Leaves (Gives_up code) s) (refl, t.1, t.2))
    else_tells seen xs ys e e' (Leaves (Breaks name) s) on g t k =
        subst (λ d. Tells seen (or_else d e') (xs ++ else_ask d ys) (Leaves (Breaks name) s)) (sym t.0) (no_more seen xs (Broken name) (Leaves (Breaks name) s) (refl, t.1, t.2))

    -- the next answer is what the test gave
    tested_tells : (left : List Bool) (name : List ℕ) (vs : List ℤ) (s : RunState) → Gave tests left (Probe name vs ∷ []) → Tells (record { reads = s.seen.reads; left = left }) (run.checked (tests.test name vs) (view_of values s) name) (Probe name vs ∷ []) (tested left name vs s)
    tested_tells [] name vs s g = refl
    tested_tells (true ∷ left) name vs s g =
        (ap (λ b. run.checked b (view_of values s) name) (sym g.0), refl, refl)
    tested_tells (false ∷ left) name vs s g =
        (ap (λ b. run.checked b (view_of values s) name) (sym g.0), refl, refl)

  read_tells : Agrees values reads → (s : RunState) (var reg : ℕ) (o p : Option ℤ) → value_in s.effect.writes var ≡ o → value_in reads var ≡ p → Tells s.seen (Normal (run.put (view_of values s) reg (overlay values s.effect.writes var))) (read_of o var) (read o p s var reg)
  read_tells agrees s var reg (Some n) p h k = (ap (λ m. Normal (run.put (view_of values s) reg m)) (ap (λ o. unwrap_or o (values var)) h), refl, refl)
  read_tells agrees s var reg None (Some n) h k =
      (ap (λ m. Normal (run.put (view_of values s) reg m)) (ap (λ o. unwrap_or o (values var)) h ∙ agrees var n k), ap (λ o. if_there o (Visit var) None) k, ap (λ m. record { reads = insert_entry nat_eq s.seen.reads var m; left = s.seen.left }) (sym (agrees var n k)))
  read_tells agrees s var reg None None h k = ap (λ o. if_there o (Visit var) None) k

  -- behind what a state took, these values and these visits of a footprint, and a look at it over the reads
  abbrev LookTells : RunState → List ℤ → List Ask → FootprintSeen → Type 0
  LookTells s vs xs (Lacks var) = first_open reads (length s.seen.left) xs ≡ Some (Visit var)
  LookTells s vs xs (Found more s') = (more ≡ vs) × (first_open reads (length s.seen.left) xs ≡ None) × (s' ≡ record s { seen = took s.seen xs })

  own_tells : (s : RunState) (n : ℤ) (vs : List ℤ) (xs : List Ask) (l : FootprintSeen) → LookTells s vs xs l → LookTells s (n ∷ vs) xs (before n l)
  own_tells s n vs xs (Lacks var) t = t
  own_tells s n vs xs (Found more s') t = (ap (λ l. n ∷ l) t.0, t.1, t.2)

  saw_tells : Agrees values reads → (s : RunState) (var : ℕ) (n : ℤ) → value_in reads var ≡ Some n → (vs : List ℤ) (xs : List Ask) (l : FootprintSeen) → LookTells (saw s var n) vs xs l → LookTells s (values var ∷ vs) (Visit var ∷ xs) (before n l)
  saw_tells agrees s var n is vs xs (Lacks v) t =
      ap (λ o. if_there o (Visit var) (first_open reads (length s.seen.left) xs)) is ∙ t
  saw_tells agrees s var n is vs xs (Found more s') t = (
    ap (λ l. n ∷ l) t.0 ∙ ap (λ m. m ∷ vs) (sym (agrees var n is)),
    ap (λ o. if_there o (Visit var) (first_open reads (length s.seen.left) xs)) is ∙ t.1,
    t.2 ∙ ap (λ m. record s { seen = took (record { reads = insert_entry nat_eq s.seen.reads var m; left = s.seen.left }) xs }) (sym (agrees var n is)),
  )

  value_tells : Agrees values reads → (s : RunState) (var : ℕ) (o p : Option ℤ) → value_in reads var ≡ p → (vs : List ℤ) (xs : List Ask) (on : RunState → FootprintSeen) → ((s' : RunState) → s'.effect ≡ s.effect → LookTells s' vs xs (on s'))
      → LookTells s (unwrap_or o (values var) ∷ vs) (read_of o var ++ xs) (see_first o p s var on)
  value_tells agrees s var (Some n) p is vs xs on k = own_tells s n vs xs (on s) (k s refl)
  value_tells agrees s var None (Some n) is vs xs on k = saw_tells agrees s var n is vs xs (on (saw s var n)) (k (saw s var n) refl)
  value_tells agrees s var None None is vs xs on k = ap (λ o. if_there o (Visit var) (first_open reads (length s.seen.left) xs)) is

  -- the visits of a footprint, seen in order
  footprint_tells : Agrees values reads → (vars : List ℕ) (s : RunState) → LookTells s (map (overlay values s.effect.writes) vars) (unwritten s.effect.writes vars) (footprint_seen reads vars s)
  footprint_tells agrees [] s = (refl, refl, refl)
  footprint_tells agrees (var ∷ vars) s =
      value_tells agrees s var (value_in s.effect.writes var) (value_in reads var) refl (map (overlay values s.effect.writes) vars) (unwritten s.effect.writes vars) (footprint_seen reads vars)
      (λ s' same. subst (λ e. LookTells s' (map (overlay values e.writes) vars) (unwritten e.writes vars) (footprint_seen reads vars s')) same (footprint_tells agrees vars s'))

  -- and then the test
  checked_tells : (tests : Meanings) (s : RunState) (name : List ℕ) (vs : List ℤ) (xs : List Ask) (l : FootprintSeen) → LookTells s vs xs l → Gave tests s.seen.left (xs ++ Probe name vs ∷ [])
      → Tells s.seen (run.checked (tests.test name vs) (view_of values s) name) (xs ++ Probe name vs ∷ []) (eval_checked l name)
  checked_tells tests s name vs xs (Lacks var) t g = open_early reads (length s.seen.left) xs (Probe name vs ∷ []) (Visit var) t
  checked_tells tests s name vs xs (Found more s') t g =
      let e = run.checked (tests.test name vs) (view_of values s) name in
      let f = λ (x : RunState). tested x.seen.left name vs x in
      let here : Tells (took s.seen xs) e (Probe name vs ∷ []) (f (record s { seen = took s.seen xs })) =
      tested_tells tests (left_behind s.seen.left xs) name vs (record s { seen = took s.seen xs }) (gave_rest tests s.seen.left xs (Probe name vs ∷ []) g) in
      subst (λ l. Tells s.seen e (xs ++ Probe name vs ∷ []) (tested s'.seen.left name l s')) (sym t.0)
      (subst (λ (x : RunState). Tells s.seen e (xs ++ Probe name vs ∷ []) (f x)) (sym t.2)
      (after s.seen (took s.seen xs) xs (Probe name vs ∷ []) t.1 refl e (f (record s { seen = took s.seen xs })) here))

  answered_tells : (a : StepAnswer) (s : RunState) (out : ℕ) → Tells s.seen (run.answered a (view_of values s) out) [] (eval_answered a s out)
  answered_tells (answer.Value n) s out = (refl, refl, refl)
  answered_tells answer.Retry s out = (refl, refl, refl)
  answered_tells (answer.Abort code) s out = (refl, refl, refl)

  cond_tells : (tests : Meanings) (b : Bool) (seen : Taken) (e e' : RunResult) (xs ys : List Ask) (f f' : Flow) → Gave tests seen.left (cond b xs ys) → (Gave tests seen.left xs → Tells seen e xs f) → (Gave tests seen.left ys → Tells seen e' ys f') → Tells seen (cond b e e') (cond b xs ys) (cond b f f')
  cond_tells tests true seen e e' xs ys f f' g t t' = t g
  cond_tells tests false seen e e' xs ys f f' g t t' = t' g

  module _ (steps : StepMeanings) (tests : Meanings) (agrees : Agrees values reads) where
    mutual
      pub tells : (tx : Tx) (s : RunState) → Gave tests s.seen.left (asks steps tests tx (view_of values s)) → Tells s.seen (run steps tests tx (view_of values s)) (asks steps tests tx (view_of values s)) (eval steps tests.footprint reads tx s)
      tells (Seq' shape txs) s g = tells_all txs s g
      tells (Read var reg) s g = read_tells agrees s var reg (value_in s.effect.writes var) (value_in reads var) refl refl
      tells (Write var reg) s g = (ap (λ m. Normal (record { values = m; registers = s.registers; effect = record { writes = with_write s.effect.writes var (register s.registers reg); names = s.effect.names; retired = s.effect.retired } })) (sym (overlay-write values s.effect.writes var (register s.registers reg))), refl, refl)
      tells (Step index args out) s g = answered_tells (steps index (map (register s.registers) args.items)) s out
      tells (When' reg p a q b) s g = cond_tells tests (is_zero (register s.registers reg)) s.seen _ _ _ _ _ _ g (tells b s) (tells a s)
      tells (OrElse' p a q b) s g =
          let view = view_of values s in
          let first = gave_first tests s.seen.left (asks steps tests a view) (else_ask (run steps tests a view) (asks steps tests b view)) g in
          else_tells tests s.seen _ _ _ _ _ (λ seen. eval steps tests.footprint reads b (record s { seen = seen })) g (tells a s first) (λ seen h. tells b (record s { seen = seen }) h)
      tells (Check name) s g = checked_tells tests s name _ _ _ (footprint_tells agrees (tests.footprint name) s) g
      tells tx s g = (refl, refl, refl)

      pub tells_all : {m : _} (txs : Row_of-Tx m) (s : RunState) → Gave tests s.seen.left (asks_all steps tests txs (view_of values s)) → Tells s.seen (run_all steps tests txs (view_of values s)) (asks_all steps tests txs (view_of values s)) (eval_all steps tests.footprint reads txs s)
      tells_all end_of-Tx s g = (refl, refl, refl)
      tells_all (more_of-Tx tx txs) s g =
          let view = view_of values s in
          let first = gave_first tests s.seen.left (asks steps tests tx view) (then_ask (run steps tests tx view) (asks_all steps tests txs)) g in
          then_tells tests s.seen _ _ _ (run_all steps tests txs) (asks_all steps tests txs) (eval_all steps tests.footprint reads txs) g (tells tx s first) (λ s' h. tells_all txs s' h)
