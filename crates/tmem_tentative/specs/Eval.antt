-- A run over a partial map and the answers to its first tests, with a log, as far as both go.
use Rattle.std.specs.Prelude.{ℕ, ℤ, Bool, true, false, List, [], ◌∷◌, map, Option, Some, None, nat_eq, slice_set, if◌then◌else◌}
use Rattle.indexmap.specs.IndexMap.{insert_entry}
use Rattle.tmem_tree.specs.declared.tx.Tx.{Tx, Row_of-Tx, end_of-Tx, more_of-Tx}
use Rattle.tmem_tree.specs.declared.tx.Tx.TheVariants.{Skip, Seq', Put, Read, Write, Step, When', OrElse', Retry, Abort, Check, Retire}
use Rattle.tmem_tree.specs.declared.step.StepAnswer.{StepAnswer}
use Rattle.tmem_tree.specs.declared.step.StepAnswer.TheVariants as answer
use Rattle.tmem_tree.specs.StepAnswers.{StepMeanings}
use Rattle.tmem_effect.specs.Names.{with_name, without_name}
use Rattle.tmem_effect.specs.Writes.{value_in, with_write}
use Rattle.tmem_effect.specs.declared.effect.Effect.{Effect}
use Rattle.tmem_tree.specs.Run.{is_zero, register}
use Rattle.tmem_tree.specs.Visited.{Ask, Visit, Probe}

-- what a run took from outside: what it read of the map, and of the answers to its tests those that it has not used yet, the next
-- one first. A choice gives none of it back.
pub record Taken : Type 0 where
  pub reads : List (ℕ × ℤ)
  pub left : List Bool

-- what a run has done so far: its registers, its effect, and what it took
pub record RunState : Type 0 where
  pub registers : List ℤ
  pub effect : Effect
  pub seen : Taken

-- why a run is left for good
pub data Leaving : Type 0 where
  Gives_up : (code : ℕ) → Leaving
  Breaks : (name : List ℕ) → Leaving

-- where a run stands: it goes on, it asks, it retries, or it is left for good
pub data Flow : Type 0 where
  Goes : (s : RunState) → Flow
  Stops : (ask : Ask) → Flow
  Retries : (seen : Taken) → Flow
  Leaves : (how : Leaving) (seen : Taken) → Flow

abbrev pub eval_put : RunState → ℕ → ℤ → RunState
eval_put s reg n = record s { registers = slice_set s.registers reg n }

abbrev pub eval_write : RunState → ℕ → ℤ → RunState
eval_write s var n = record s { effect = record { writes = with_write s.effect.writes var n; names = s.effect.names; retired = s.effect.retired } }

abbrev pub eval_check : RunState → List ℕ → RunState
eval_check s name = record s {
  effect = record {
    writes = s.effect.writes;
    names = with_name s.effect.names name;
    retired = without_name s.effect.retired name;
  };
}

abbrev pub eval_retire : RunState → List ℕ → RunState
eval_retire s name = record s {
  effect = record {
    writes = s.effect.writes;
    names = without_name s.effect.names name;
    retired = with_name s.effect.retired name;
  };
}

abbrev pub saw : RunState → ℕ → ℤ → RunState
saw s var n = record s { seen = record { reads = insert_entry nat_eq s.seen.reads var n; left = s.seen.left } }

-- the same, with other answers left
abbrev pub used : RunState → List Bool → RunState
used s left = record s { seen = record { reads = s.seen.reads; left = left } }

-- what a run sees of a variable: its own write, or else the value of the map
abbrev pub seen_of : Option ℤ → Option ℤ → Option ℤ
seen_of (Some n) value = Some n
seen_of None value = value

-- the state once it has seen that, where a value of the map is noted
abbrev pub noted_of : Option ℤ → Option ℤ → RunState → ℕ → RunState
noted_of None (Some n) s var = saw s var n
noted_of _ _ s var = s

-- its own write, or else the value of the map
abbrev pub read : Option ℤ → Option ℤ → RunState → ℕ → ℕ → Flow
read (Some n) value s var reg = Goes (eval_put s reg n)
read None (Some n) s var reg = Goes (eval_put (saw s var n) reg n)
read None None s var reg = Stops (Visit var)

abbrev pub eval_answered : StepAnswer → RunState → ℕ → Flow
eval_answered (answer.Value n) s out = Goes (eval_put s out n)
eval_answered answer.Retry s out = Retries s.seen
eval_answered (answer.Abort code) s out = Leaves (Gives_up code) s.seen

-- the values of a footprint, and the state that saw those of them that it did not write; or the first variable that the map lacks
pub data FootprintSeen : Type 0 where
  Lacks : (var : ℕ) → FootprintSeen
  Found : (values : List ℤ) (s : RunState) → FootprintSeen

-- with one value more before the others
abbrev pub before : ℤ → FootprintSeen → FootprintSeen
before n (Lacks var) = Lacks var
before n (Found values s) = Found (n ∷ values) s

abbrev pub see_first : Option ℤ → Option ℤ → RunState → ℕ → (RunState → FootprintSeen) → FootprintSeen
see_first (Some n) value s var rest = before n (rest s)
see_first None (Some n) s var rest = before n (rest (saw s var n))
see_first None None s var rest = Lacks var

abbrev pub footprint_seen : List (ℕ × ℤ) → List ℕ → RunState → FootprintSeen
footprint_seen reads [] s = Found [] s
footprint_seen reads (var ∷ vars) s = see_first (value_in s.effect.writes var) (value_in reads var) s var (footprint_seen reads vars)

-- an invariant on these values: the next answer says whether it holds, and is used; with none left the run asks
abbrev pub tested : List Bool → List ℕ → List ℤ → RunState → Flow
tested [] name values s = Stops (Probe name values)
tested (true ∷ left) name values s = Goes (eval_check (used s left) name)
tested (false ∷ left) name values s = Leaves (Breaks name) (used s left).seen

abbrev pub eval_checked : FootprintSeen → List ℕ → Flow
eval_checked (Lacks var) name = Stops (Visit var)
eval_checked (Found values s) name = tested s.seen.left name values s

abbrev pub then_eval : Flow → (RunState → Flow) → Flow
then_eval (Goes s) next = next s
then_eval (Stops ask) next = Stops ask
then_eval (Retries seen) next = Retries seen
then_eval (Leaves how seen) next = Leaves how seen

abbrev pub else_eval : Flow → (Taken → Flow) → Flow
else_eval (Goes s) second = Goes s
else_eval (Stops ask) second = Stops ask
else_eval (Retries seen) second = second seen
else_eval (Leaves how seen) second = Leaves how seen

-- with these meanings of the steps and these footprints of the invariants
module _ (steps : StepMeanings) (footprint : List ℕ → List ℕ) (reads : List (ℕ × ℤ)) where
  abbrev mutual
    pub eval : Tx → RunState → Flow
    eval Skip s = Goes s
    eval (Seq' shape txs) s = eval_all txs s
    eval (Put reg number) s = Goes (eval_put s reg number)
    eval (Read var reg) s = read (value_in s.effect.writes var) (value_in reads var) s var reg
    eval (Write var reg) s = Goes (eval_write s var (register s.registers reg))
    eval (Step index args out) s = eval_answered (steps index (map (register s.registers) args.items)) s out
    eval (When' reg p a q b) s = if is_zero (register s.registers reg) then eval b s else eval a s
    -- what the first branch took stays, and nothing else of it
    eval (OrElse' p a q b) s = else_eval (eval a s) (λ seen. eval b (record s { seen = seen }))
    eval Retry s = Retries s.seen
    eval (Abort code) s = Leaves (Gives_up code) s.seen
    eval (Check name) s = eval_checked (footprint_seen reads (footprint name) s) name
    eval (Retire name) s = Goes (eval_retire s name)

    pub eval_all : {m : _} → Row_of-Tx m → RunState → Flow
    eval_all end_of-Tx s = Goes s
    eval_all (more_of-Tx tx txs) s = then_eval (eval tx s) (eval_all txs)
