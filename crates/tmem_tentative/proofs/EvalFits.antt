-- How far the reads, the writes and the names of an evaluation may go.
use Rattle.std.proofs.Common.{◌≡◌, ℕ, ℤ, ◌+◌, ◌<◌, ◌≤◌, Bool, true, false, List, [], ◌∷◌, ◌++◌, map, length, length-append, Option, Some, None, nat_eq, nat_le, not, ◌||◌, cond, All, refl, sym, subst, arith}
use Rattle.std.proofs.lemmas.Bool.Decides.{nat_tests}
use Rattle.std.proofs.lemmas.List.Elements.{All-push, All-head, All-tail}
use Rattle.std.proofs.lemmas.Map.Keys.{IsDistinct-push}
use Rattle.std.specs.Cmp.{nat_eq_equiv}
use Rattle.std.specs.List.{IsDistinct, list_any}
use Rattle.std.specs.Prelude.{⊤}
use Rattle.std.specs.Map.{keys_of}
use Rattle.indexmap.specs.IndexMap.{insert_entry}
use Rattle.indexmap.proofs.SetLemmas.{keys_insert_entry}
use Rattle.tmem_tree.specs.declared.tx.Tx.{Tx, Row_of-Tx, end_of-Tx, more_of-Tx}
use Rattle.tmem_tree.specs.declared.tx.Tx.TheVariants.{Seq', Read, Write, Step, When', OrElse', Retry, Abort, Check, Retire}
use Rattle.tmem_tree.specs.declared.step.StepAnswer.{StepAnswer}
use Rattle.tmem_tree.specs.declared.step.StepAnswer.TheVariants as answer
use Rattle.tmem_tree.specs.StepAnswers.{StepMeanings}
use Rattle.tmem_tree.specs.Visited.{Ask, Visit, Probe}
use Rattle.tmem_invariants.specs.TableNames.{AreBelow}
use Rattle.tmem_effect.specs.declared.effect.Effect.{Effect}
use Rattle.tmem_effect.specs.Names.{has_name, with_name, without_name, AreApart}
use Rattle.tmem_effect.specs.Writes.{value_in, with_write}
use Rattle.tmem_effect.proofs.Laws.{AreApart-check, AreApart-retire, All-with_name, All-without_names, length-without_name-le}
use Rattle.tmem_tree.specs.Limits.{one_if, count, count_all, is_write, is_check, is_retire, has_bad_variable, has_unknown_name, lacks_signature}
use Rattle.tmem_tree.specs.Run.{register, is_zero}
use Rattle.tmem_tentative.proofs.ReadEntries.{write_is_insert}
use Rattle.tmem_tentative.specs.Eval.{RunState, Taken, Leaving, Gives_up, Breaks, Flow, Goes, Stops, Retries, Leaves, FootprintSeen, Lacks, Found, eval, eval_all, then_eval, else_eval, read, eval_answered, saw, eval_check, before, see_first, footprint_seen, tested, eval_checked}

-- each of these variables is one of so many
abbrev pub Below : ℕ → List (ℕ × ℤ) → Type 0
Below vars es = All (λ var. var < vars) (keys_of es)

-- a list that one joins unless it is there
length-joined : {X : Type 0} (b : Bool) (xs : List X) (x : X) → length (cond b xs (xs ++ x ∷ [])) ≤ length xs + 1
length-joined true xs x = omega arith
length-joined false xs x = omega (arith, length-append xs (x ∷ []))

all-joined : {X : Type 0} (P : X → Type 0) (b : Bool) (xs : List X) (x : X) → P x → All P xs → All P (cond b xs (xs ++ x ∷ []))
all-joined P true xs x p all = all
all-joined P false xs x p all = All-push P xs x all p

below_insert : (vars : ℕ) (es : List (ℕ × ℤ)) (k : ℕ) (n : ℤ) → k < vars → Below vars es → Below vars (insert_entry nat_eq es k n)
below_insert vars es k n h b =
    subst (All (λ var. var < vars)) (sym (keys_insert_entry nat_eq es k n)) (all-joined (λ var. var < vars) (list_any (nat_eq k) (keys_of es)) (keys_of es) k h b)

once_insert : (es : List (ℕ × ℤ)) (k : ℕ) (n : ℤ) → IsDistinct nat_eq (keys_of es) → IsDistinct nat_eq (keys_of (insert_entry nat_eq es k n))
once_insert es k n d = subst (IsDistinct nat_eq) (sym (keys_insert_entry nat_eq es k n)) (on (list_any (nat_eq k) (keys_of es)) refl) where
  on : (b : Bool) → list_any (nat_eq k) (keys_of es) ≡ b → IsDistinct nat_eq (cond b (keys_of es) (keys_of es ++ k ∷ []))
  on true is = d
  on false is = IsDistinct-push nat_eq_equiv (keys_of es) k d is

-- what stays as it was is within any room more
pub same_within : (n more : ℕ) → n ≤ n + more
same_within n more = omega arith

pub length-write : (es : List (ℕ × ℤ)) (k : ℕ) (n : ℤ) → length (with_write es k n) ≤ length es + 1
length-write [] k n = omega arith
length-write (e ∷ es) k n = on (nat_eq k e.0) (length-write es k n) where
  on : (c : Bool) → length (with_write es k n) ≤ length es + 1 → length (cond c ((k, n) ∷ es) (e ∷ with_write es k n)) ≤ length (e ∷ es) + 1
  on true rest = omega arith
  on false rest = omega arith

pub once_nil : IsDistinct nat_eq (keys_of {X = ℤ} [])
unfolding IsDistinct
once_nil = tt

none_is : (b : Bool) → one_if b ≡ 0 → b ≡ false
none_is true h = cc
none_is false h = refl

pub below_if : (vars var : ℕ) → one_if (nat_le vars var) ≡ 0 → var < vars
below_if vars var h = let no : nat_le vars var ≡ false = none_is _ h in grind (arith, nat_tests)

left_none : (a b : Bool) → one_if (a || b) ≡ 0 → one_if a ≡ 0
left_none true b h = h
left_none false b h = refl

pub below_either : (vars var : ℕ) (b : Bool) → one_if (nat_le vars var || b) ≡ 0 → var < vars
below_either vars var b h = below_if vars var (left_none (nat_le vars var) b h)

pub is_known : (b : Bool) → one_if (not b) ≡ 0 → b ≡ true
is_known true h = refl
is_known false h = cc

-- with a bound on the variables where Q holds, with these names for the checks where R does, and for the retirements where U does
module _ (Q R U : Type 0) (vars : ℕ) (names : List (List ℕ)) where
  -- what a run does that has so many writes, checks and retirements at most
  pub record IsGood (writes checks retires : ℕ) (effect : Effect) : Type 0 where
    pub within : Q → Below vars effect.writes
    pub once : IsDistinct nat_eq (keys_of effect.writes)
    pub few : length effect.writes ≤ writes
    pub few_names : length effect.names ≤ checks
    pub few_retired : length effect.retired ≤ retires
    pub known : R → All (λ name. has_name names name ≡ true) effect.names
    pub known_too : U → All (λ name. has_name names name ≡ true) effect.retired
    pub apart : AreApart effect.names effect.retired

  more : {w c r w' c' r' : ℕ} {effect : Effect} → w ≤ w' → c ≤ c' → r ≤ r' → IsGood w c r effect → IsGood w' c' r' effect
  more v d e g = record {
    within = g.within;
    once = g.once;
    few = omega (arith, g.few);
    few_names = omega (arith, g.few_names);
    few_retired = omega (arith, g.few_retired);
    known = g.known;
    known_too = g.known_too;
    apart = g.apart;
  }

  module _ (steps : StepMeanings) (footprint : List ℕ → List ℕ) (reads : List (ℕ × ℤ)) where
    -- a variable that the reads lack, or a test with as many values as its footprint has variables
    abbrev pub IsGoodAsk : Ask → Type 0
    IsGoodAsk (Visit var) = (Q → var < vars) × (value_in reads var ≡ None)
    IsGoodAsk (Probe name values) = (R → has_name names name ≡ true) × (length values ≡ length (footprint name))

    -- an invariant that was false has one of these names
    abbrev pub IsGoodLeaving : Leaving → Type 0
    IsGoodLeaving (Gives_up code) = ⊤
    IsGoodLeaving (Breaks name) = R → has_name names name ≡ true

    abbrev pub IsGoodFlow : ℕ → ℕ → ℕ → Flow → Type 0
    IsGoodFlow w c r (Goes s) = (Q → Below vars s.seen.reads) × IsGood w c r s.effect
    IsGoodFlow w c r (Stops ask) = IsGoodAsk ask
    IsGoodFlow w c r (Retries seen) = Q → Below vars seen.reads
    IsGoodFlow w c r (Leaves how seen) = (Q → Below vars seen.reads) × IsGoodLeaving how

    then_good : (w c r w' c' r' : ℕ) (f : Flow) (on : RunState → Flow) → IsGoodFlow w c r f → ((s : RunState) → (Q → Below vars s.seen.reads) → IsGood w c r s.effect → IsGoodFlow w' c' r' (on s)) → IsGoodFlow w' c' r' (then_eval f on)
    then_good w c r w' c' r' (Goes s) on g k = k s g.0 g.1
    then_good w c r w' c' r' (Stops ask) on g k = g
    then_good w c r w' c' r' (Retries seen) on g k = g
    then_good w c r w' c' r' (Leaves how seen) on g k = g

    else_good : (w c r : ℕ) (f : Flow) (on : Taken → Flow) → IsGoodFlow w c r f → ((seen : Taken) → (Q → Below vars seen.reads) → IsGoodFlow w c r (on seen)) → IsGoodFlow w c r (else_eval f on)
    else_good w c r (Goes s) on g k = g
    else_good w c r (Stops ask) on g k = g
    else_good w c r (Retries seen) on g k = k seen g
    else_good w c r (Leaves how seen) on g k = g

    read_good : (w c r : ℕ) (s : RunState) (var reg : ℕ) (o p : Option ℤ) → value_in reads var ≡ p → (Q → var < vars) → (Q → Below vars s.seen.reads) → IsGood w c r s.effect → IsGoodFlow w c r (read o p s var reg)
    read_good w c r s var reg (Some x) p e h b g = (b, g)
    read_good w c r s var reg None (Some x) e h b g = ((λ q. below_insert vars s.seen.reads var x (h q) (b q)), g)
    read_good w c r s var reg None None e h b g = (h, e)

    answered_good : (w c r : ℕ) (a : StepAnswer) (s : RunState) (out : ℕ) → (Q → Below vars s.seen.reads) → IsGood w c r s.effect → IsGoodFlow w c r (eval_answered a s out)
    answered_good w c r (answer.Value x) s out b g = (b, g)
    answered_good w c r answer.Retry s out b g = b
    answered_good w c r (answer.Abort code) s out b g = (b, tt)

    cond_good : (t : Bool) (w c r : ℕ) (e f : Flow) → IsGoodFlow w c r e → IsGoodFlow w c r f → IsGoodFlow w c r (cond t e f)
    cond_good true w c r e f g h = g
    cond_good false w c r e f g h = h

    -- a look at so many variables, from a state of this effect
    abbrev IsGoodLook : ℕ → Effect → FootprintSeen → Type 0
    IsGoodLook n effect (Lacks var) = IsGoodAsk (Visit var)
    IsGoodLook n effect (Found values s) = (length values ≡ n) × (s.effect ≡ effect) × (Q → Below vars s.seen.reads)

    before_good : (var : ℕ) (vs : List ℕ) (effect : Effect) (x : ℤ) (l : FootprintSeen) → IsGoodLook (length vs) effect l → IsGoodLook (length (var ∷ vs)) effect (before x l)
    before_good var vs effect x (Lacks v) g = g
    before_good var vs effect x (Found values s) g = (omega (arith, g.0), g.1, g.2)

    value_good : (s : RunState) (var : ℕ) (vs : List ℕ) (o p : Option ℤ) → value_in reads var ≡ p → (Q → var < vars) → (Q → Below vars s.seen.reads) → ((s' : RunState) → s'.effect ≡ s.effect → (Q → Below vars s'.seen.reads) → IsGoodLook (length vs) s.effect (footprint_seen reads vs s'))
        → IsGoodLook (length (var ∷ vs)) s.effect (see_first o p s var (footprint_seen reads vs))
    value_good s var vs (Some x) p e h b k = before_good var vs s.effect x (footprint_seen reads vs s) (k s refl b)
    value_good s var vs None (Some x) e h b k =
        before_good var vs s.effect x (footprint_seen reads vs (saw s var x)) (k (saw s var x) refl (λ q. below_insert vars s.seen.reads var x (h q) (b q)))
    value_good s var vs None None e h b k = (h, e)

    footprint_good : (vs : List ℕ) (s : RunState) → (Q → AreBelow vars vs) → (Q → Below vars s.seen.reads) → IsGoodLook (length vs) s.effect (footprint_seen reads vs s)
    footprint_good [] s h b = (refl, refl, b)
    footprint_good (var ∷ vs) s h b =
        value_good s var vs (value_in s.effect.writes var) (value_in reads var) refl (λ q. All-head (λ v. v < vars) var vs (h q)) b
        (λ s' same b'. subst (λ e. IsGoodLook (length vs) e (footprint_seen reads vs s')) same (footprint_good vs s' (λ q. All-tail (λ v. v < vars) var vs (h q)) b'))

    -- an effect that takes a name, and one that retires it
    abbrev named : Effect → List ℕ → Effect
    named e name = record { writes = e.writes; names = with_name e.names name; retired = without_name e.retired name }

    abbrev retired : Effect → List ℕ → Effect
    retired e name = record { writes = e.writes; names = without_name e.names name; retired = with_name e.retired name }

    named_good : (w c r w' c' r' : ℕ) (effect : Effect) (name : List ℕ) → w ≤ w' → c + 1 ≤ c' → r ≤ r' → (R → has_name names name ≡ true) → IsGood w c r effect → IsGood w' c' r' (named effect name)
    named_good w c r w' c' r' effect name v d e known g = record {
      within = g.within;
      once = g.once;
      few = omega (arith, g.few);
      few_names = omega (arith, d, g.few_names, length-joined (has_name effect.names name) effect.names name);
      few_retired = omega (arith, e, g.few_retired, length-without_name-le effect.retired name);
      known = λ x. All-with_name (λ m. has_name names m ≡ true) effect.names name (g.known x) (known x);
      known_too = λ x. All-without_names (λ m. has_name names m ≡ true) effect.retired (name ∷ []) (g.known_too x);
      apart = AreApart-check effect.names effect.retired name g.apart;
    }

    retired_good : (w c r w' c' r' : ℕ) (effect : Effect) (name : List ℕ) → w ≤ w' → c ≤ c' → r + 1 ≤ r' → (U → has_name names name ≡ true) → IsGood w c r effect → IsGood w' c' r' (retired effect name)
    retired_good w c r w' c' r' effect name v d e known g = record {
      within = g.within;
      once = g.once;
      few = omega (arith, g.few);
      few_names = omega (arith, d, g.few_names, length-without_name-le effect.names name);
      few_retired = omega (arith, e, g.few_retired, length-joined (has_name effect.retired name) effect.retired name);
      known = λ x. All-without_names (λ m. has_name names m ≡ true) effect.names (name ∷ []) (g.known x);
      known_too = λ x. All-with_name (λ m. has_name names m ≡ true) effect.retired name (g.known_too x) (known x);
      apart = AreApart-retire effect.names effect.retired name g.apart;
    }

    tested_good : (w c r : ℕ) (left : List Bool) (name : List ℕ) (values : List ℤ) (s : RunState) → IsGoodAsk (Probe name values) → (Q → Below vars s.seen.reads) → IsGood w c r (eval_check s name).effect → IsGoodFlow w c r (tested left name values s)
    tested_good w c r [] name values s a b g = a
    tested_good w c r (true ∷ left) name values s a b g = (b, g)
    tested_good w c r (false ∷ left) name values s a b g = (b, a.0)

    checked_good : (w c r : ℕ) (name : List ℕ) (effect : Effect) (l : FootprintSeen) → IsGoodLook (length (footprint name)) effect l → (R → has_name names name ≡ true) → IsGood w c r (named effect name) → IsGoodFlow w c r (eval_checked l name)
    checked_good w c r name effect (Lacks var) l known g = l
    checked_good w c r name effect (Found values s) l known g =
        tested_good w c r s.seen.left name values s (known, l.0) l.2 (subst (λ e. IsGood w c r (named e name)) (sym l.1) g)

    mutual
      pub good : (Q → (name : List ℕ) → AreBelow vars (footprint name)) → (tx : Tx) (w c r w' c' r' : ℕ) (s : RunState) → w + count is_write tx ≤ w' → c + count is_check tx ≤ c' → r + count is_retire tx ≤ r'
          → (Q → count (has_bad_variable vars) tx ≡ 0) → (R → count (lacks_signature names) tx ≡ 0) → (U → count (has_unknown_name names) tx ≡ 0)
          → (Q → Below vars s.seen.reads) → IsGood w c r s.effect → IsGoodFlow w' c' r' (eval steps footprint reads tx s)
      good low (Seq' shape txs) w c r w' c' r' s v d e h k u b g =
          good_all low txs w c r w' c' r' s (omega arith) (omega arith) (omega arith) (λ q. omega (arith, h q)) (λ x. omega (arith, k x)) (λ x. omega (arith, u x)) b g
      good low (Read var reg) w c r w' c' r' s v d e h k u b g = read_good w' c' r' s var reg (value_in s.effect.writes var) (value_in reads var) refl (λ q. below_if vars var (h q)) b (more (omega arith) (omega arith) (omega arith) g)
      good low (Write var reg) w c r w' c' r' s v d e h k u b g =
          let n = register s.registers reg in (
            b,
            record {
              within = λ q. subst (Below vars) (sym (write_is_insert s.effect.writes var n)) (below_insert vars s.effect.writes var n (below_if vars var (h q)) (g.within q));
              once = subst (λ es. IsDistinct nat_eq (keys_of es)) (sym (write_is_insert s.effect.writes var n)) (once_insert s.effect.writes var n g.once);
              few = omega (arith, g.few, length-write s.effect.writes var n);
              few_names = omega (arith, g.few_names);
              few_retired = omega (arith, g.few_retired);
              known = g.known;
              known_too = g.known_too;
              apart = g.apart;
            },
          )
      good low (Step index args out) w c r w' c' r' s v d e h k u b g = answered_good w' c' r' (steps index (map (register s.registers) args.items)) s out b (more (omega arith) (omega arith) (omega arith) g)
      good low (When' reg p x q y) w c r w' c' r' s v d e h k u b g =
          cond_good (is_zero (register s.registers reg)) w' c' r' _ _
          (good low y w c r w' c' r' s (omega arith) (omega arith) (omega arith) (λ q. omega (arith, h q)) (λ x. omega (arith, k x)) (λ x. omega (arith, u x)) b g)
          (good low x w c r w' c' r' s (omega arith) (omega arith) (omega arith) (λ q. omega (arith, h q)) (λ x. omega (arith, k x)) (λ x. omega (arith, u x)) b g)
      good low (OrElse' p x q y) w c r w' c' r' s v d e h k u b g =
          else_good w' c' r' (eval steps footprint reads x s) (λ seen. eval steps footprint reads y (record s { seen = seen }))
          (good low x w c r w' c' r' s (omega arith) (omega arith) (omega arith) (λ q. omega (arith, h q)) (λ x. omega (arith, k x)) (λ x. omega (arith, u x)) b g)
          (λ seen l. good low y w c r w' c' r' (record s { seen = seen }) (omega arith) (omega arith) (omega arith) (λ q. omega (arith, h q)) (λ x. omega (arith, k x)) (λ x. omega (arith, u x)) l g)
      good low Retry w c r w' c' r' s v d e h k u b g = b
      good low (Abort code) w c r w' c' r' s v d e h k u b g = (b, tt)
      good low (Check name) w c r w' c' r' s v d e h k u b g =
          let known : R → has_name names name ≡ true = λ x. is_known _ (k x) in
          checked_good w' c' r' name s.effect (footprint_seen reads (footprint name) s) (footprint_good (footprint name) s (λ q. low q name) b) known (named_good w c r w' c' r' s.effect name (omega arith) d (omega arith) known g)
      good low (Retire name) w c r w' c' r' s v d e h k u b g = (b, retired_good w c r w' c' r' s.effect name (omega arith) (omega arith) e (λ x. is_known _ (u x)) g)
      good low tx w c r w' c' r' s v d e h k u b g = (b, more (omega arith) (omega arith) (omega arith) g)

      pub good_all : (Q → (name : List ℕ) → AreBelow vars (footprint name)) → {m : _} (txs : Row_of-Tx m) (w c r w' c' r' : ℕ) (s : RunState) → w + count_all is_write txs ≤ w' → c + count_all is_check txs ≤ c' → r + count_all is_retire txs ≤ r'
          → (Q → count_all (has_bad_variable vars) txs ≡ 0) → (R → count_all (lacks_signature names) txs ≡ 0) → (U → count_all (has_unknown_name names) txs ≡ 0)
          → (Q → Below vars s.seen.reads) → IsGood w c r s.effect → IsGoodFlow w' c' r' (eval_all steps footprint reads txs s)
      good_all low end_of-Tx w c r w' c' r' s v d e h k u b g = (b, more (omega arith) (omega arith) (omega arith) g)
      good_all low (more_of-Tx tx txs) w c r w' c' r' s v d e h k u b g =
          then_good (w + count is_write tx) (c + count is_check tx) (r + count is_retire tx) w' c' r' (eval steps footprint reads tx s) (eval_all steps footprint reads txs)
          (good low tx w c r _ _ _ s (omega arith) (omega arith) (omega arith) (λ q. omega (arith, h q)) (λ x. omega (arith, k x)) (λ x. omega (arith, u x)) b g)
          (λ s' b' g'. good_all low txs _ _ _ w' c' r' s' (omega arith) (omega arith) (omega arith) (λ q. omega (arith, h q)) (λ x. omega (arith, k x)) (λ x. omega (arith, u x)) b' g')
