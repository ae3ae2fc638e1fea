-- A place inside an evaluation, and the rest of the evaluation from there.
use Rattle.std.specs.Prelude.{◌≡◌, ⊤, ℕ, zero, suc, ℤ, ◌+◌, ◌<◌, ◌≤◌, Bool, true, false, List, [], ◌∷◌, ◌++◌, length, Option, Some, None, nat_eq, option_to_list, slice_set}
use Rattle.indexmap.specs.IndexMap.{insert_entry}
use Rattle.tmem_tree.specs.declared.tx.Tx.{Tx, Row_of-Tx, end_of-Tx, more_of-Tx}
use Rattle.tmem_tree.specs.declared.tx.Tx.TheVariants.{Seq', When', OrElse'}
use Rattle.tmem_tree.specs.StepAnswers.{StepMeanings}
use Rattle.tmem_effect.specs.Writes.{value_in}
use Rattle.tmem_effect.specs.declared.effect.Effect.{Effect}
use Rattle.tmem_tree.specs.Limits.{depth, choices, count, count_all, is_write, is_check, is_retire, has_bad_register}
use Rattle.tmem_tree.specs.Plans.{FitsSteps, HasSignatures}
use Rattle.tmem_tree.specs.Visited.{Ask, Visit, Probe}
use Rattle.tmem_tree.specs.declared.signature.Signature.{Signature}
use Rattle.tmem_tentative.specs.declared.attempt.Attempt.{Attempt}
use Rattle.tmem_tentative.specs.declared.course.Course.{Course}
use Rattle.tmem_tentative.specs.declared.flow.Flow as code
use Rattle.tmem_tentative.specs.declared.save.Save.{Save}
use Rattle.tmem_tentative.specs.Eval.{RunState, Taken, Flow, Stops, Goes, eval_put, eval, eval_all, then_eval, else_eval}
use Rattle.tmem_tentative.specs.Logs.{AreOf, Out, Went, Stopped, flow_at, out_of, taken_of}

-- The path of a place has the child that is entered at each node, from the root on: of a Seq by its index, of a When and
-- of a choice 0 for the first and 1 for the second. An empty path is the start of the tree. Each choice that stands in
-- its first branch has a save, the outermost first.
module _ (steps : StepMeanings) (footprint : List ℕ → List ℕ) (reads : List (ℕ × ℤ)) where
  abbrev mutual
    -- the rest of an evaluation
    pub eval_on : List ℕ → Tx → List Save → RunState → Flow
    eval_on [] tx saves s = eval steps footprint reads tx s
    eval_on (i ∷ path) (Seq' shape txs) saves s = eval_all_on i path txs saves s
    eval_on (zero ∷ path) (When' reg p a q b) saves s = eval_on path a saves s
    eval_on (suc i ∷ path) (When' reg p a q b) saves s = eval_on path b saves s
    eval_on (zero ∷ path) (OrElse' p a q b) [] s = eval_on path a [] s
    eval_on (zero ∷ path) (OrElse' p a q b) (save ∷ saves) s =
        else_eval (eval_on path a saves s) (λ seen. eval steps footprint reads b (record { registers = save.registers; effect = save.effect; seen = seen }))
    eval_on (suc i ∷ path) (OrElse' p a q b) saves s = eval_on path b saves s
    eval_on (i ∷ path) tx saves s = eval steps footprint reads tx s

    pub eval_all_on : {m : _} → ℕ → List ℕ → Row_of-Tx m → List Save → RunState → Flow
    eval_all_on i path end_of-Tx saves s = Goes s
    eval_all_on zero path (more_of-Tx tx txs) saves s = then_eval (eval_on path tx saves s) (eval_all steps footprint reads txs)
    eval_all_on (suc i) path (more_of-Tx tx txs) saves s = eval_all_on i path txs saves s

-- for the nodes that pass a test, of which an effect may have so many, and how many it has
module _ (test : Tx → Bool) (limit : ℕ) (size : Effect → ℕ) where
  abbrev mutual
    -- there is such a place, and from there on, with so many behind the tree, an effect that has n stays within the limit
    pub HasRoom : ℕ → List ℕ → Tx → List Save → ℕ → Type 0
    HasRoom rest [] tx saves n = n + count test tx + rest ≤ limit
    HasRoom rest (i ∷ path) (Seq' shape txs) saves n = AllHaveRoom rest i path txs saves n
    HasRoom rest (zero ∷ path) (When' reg p a q b) saves n = HasRoom rest path a saves n
    HasRoom rest (suc i ∷ path) (When' reg p a q b) saves n = HasRoom rest path b saves n
    HasRoom rest (zero ∷ path) (OrElse' p a q b) [] n = ⊥
    HasRoom rest (zero ∷ path) (OrElse' p a q b) (save ∷ saves) n =
        HasRoom rest path a saves n × (size save.effect + count test b + rest ≤ limit)
    HasRoom rest (suc i ∷ path) (OrElse' p a q b) saves n = HasRoom rest path b saves n
    HasRoom rest (i ∷ path) tx saves n = ⊥

    pub AllHaveRoom : {m : _} → ℕ → ℕ → List ℕ → Row_of-Tx m → List Save → ℕ → Type 0
    AllHaveRoom rest i path end_of-Tx saves n = ⊥
    AllHaveRoom rest zero path (more_of-Tx tx txs) saves n = HasRoom (count_all test txs + rest) path tx saves n
    AllHaveRoom rest (suc i) path (more_of-Tx tx txs) saves n = AllHaveRoom rest i path txs saves n

-- no more than 64 writes
abbrev pub WritesFit : ℕ → List ℕ → Tx → List Save → Effect → Type 0
WritesFit rest path tx saves effect =
    HasRoom is_write 64 (λ e. length e.writes) rest path tx saves (length effect.writes)

-- no more than 8 names
abbrev pub NamesFit : ℕ → List ℕ → Tx → List Save → Effect → Type 0
NamesFit rest path tx saves effect =
    HasRoom is_check 8 (λ e. length e.names) rest path tx saves (length effect.names)

-- no more than 8 retired names
abbrev pub RetiresFit : ℕ → List ℕ → Tx → List Save → Effect → Type 0
RetiresFit rest path tx saves effect =
    HasRoom is_retire 8 (λ e. length e.retired) rest path tx saves (length effect.retired)

-- the reads have all that was seen
pub record Covers (reads seen : List (ℕ × ℤ)) : Type 0 where
  pub at : (v : ℕ) (n : ℤ) → value_in seen v ≡ Some n → value_in reads v ≡ Some n

-- where a run stands in a tree, what it saw aside
pub record Place : Type 0 where
  pub path : List ℕ
  pub saves : List Save
  pub registers : List ℤ
  pub effect : Effect

abbrev pub place_of : Attempt → List ℕ → List Save → Place
place_of log path saves = record { path = path; saves = saves; registers = log.registers; effect = log.effect }

-- where a course stands, what it took so far, and how its run has come out
abbrev pub place_at : Course → List Save → Place
place_at course saves = place_of course.attempt course.path saves

abbrev pub taken_at : Course → Taken
taken_at course = taken_of course.attempt (option_to_list course.pending)

abbrev pub out_at : code.Flow → Course → Out
out_at flow course = out_of flow course.attempt course.probe

-- with these answers more
abbrev pub with_more : Taken → List Bool → Taken
with_more seen more = record { reads = seen.reads; left = seen.left ++ more }

-- the rest of an evaluation from a place, where so much was taken
abbrev pub eval_from : StepMeanings → (List ℕ → List ℕ) → List (ℕ × ℤ) → Tx → Place → Taken → Flow
eval_from steps footprint reads tx p seen =
    eval_on steps footprint reads p.path tx p.saves (record { registers = p.registers; effect = p.effect; seen = seen })

-- what is read behind a run: a value joins where one is needed
abbrev pub read_behind : Out → List (ℕ × ℤ) → ℤ → List (ℕ × ℤ)
read_behind (Stopped (Visit var)) seen n = insert_entry nat_eq seen var n
read_behind _ seen n = seen

-- what is still to come behind a run, where so much was taken
abbrev pub behind : StepMeanings → (List ℕ → List ℕ) → List (ℕ × ℤ) → Tx → Out → Place → Taken → Flow
behind steps footprint reads tx (Stopped ask) p seen = eval_from steps footprint reads tx p seen
behind steps footprint reads tx out p seen = flow_at out (record { registers = p.registers; effect = p.effect; seen = seen })

-- A run from one place to another, which leaves these of the answers that it had: none where it stops at a test. On all reads that
-- have what was read, and the value that it needs, and with any answers behind those, the evaluation from the one place is that from
-- the other, or has ended as the run has.
pub record LeadsTo (steps : StepMeanings) (footprint : List ℕ → List ℕ) (seen : Taken) (tx : Tx) (before : Place) (out : Out) (after : Place) (left : List Bool) : Type 0 where
  pub asks : (ask : Ask) → out ≡ Stopped ask → eval_from steps footprint seen.reads tx before (with_more seen []) ≡ Stops ask
  pub spent : (name : List ℕ) (values : List ℤ) → out ≡ Stopped (Probe name values) → left ≡ []
  pub goes_on : (reads : List (ℕ × ℤ)) (n : ℤ) (more : List Bool) → Covers reads seen.reads → Covers reads (read_behind out seen.reads n)
      → eval_from steps footprint reads tx before (with_more seen more) ≡ behind steps footprint reads tx out after (record { reads = read_behind out seen.reads n; left = left ++ more })

-- the path behind a run: one that has ended leaves none, else it is no longer than the tree is deep
abbrev pub IsPathBehind : Out → ℕ → List ℕ → Type 0
IsPathBehind (Stopped ask) depth path = length path < depth
IsPathBehind _ depth path = path ≡ []

-- the room behind a run, for the nodes that pass a test
abbrev pub LeavesRoom : (Tx → Bool) → ℕ → (Effect → ℕ) → ℕ → Out → List ℕ → Tx → List Save → Effect → Type 0
LeavesRoom test limit size rest Went path tx saves effect = size effect + rest ≤ limit
LeavesRoom test limit size rest (Stopped ask) path tx saves effect = HasRoom test limit size rest path tx saves (size effect)
LeavesRoom test limit size rest _ path tx saves effect = ⊤

-- A run of this tree may go on from here, for steps that take so many arguments and signatures of these names: it is no deeper than a
-- plan, there is a save for each of its choices, and with so many behind it there is room for what it writes, checks and retires.
pub record MayRunFrom (arities : List ℕ) (invariants : List (List ℕ)) (tx : Tx) (p : Place) : Type 0 where
  pub registers : count has_bad_register tx ≡ 0
  pub steps : FitsSteps arities tx
  pub known : HasSignatures invariants tx
  pub deep : depth tx ≤ 32
  pub enough : choices tx ≤ length p.saves
  pub writes : (rest : ℕ) × WritesFit rest p.path tx p.saves p.effect
  pub names : (rest : ℕ) × NamesFit rest p.path tx p.saves p.effect
  pub retires : (rest : ℕ) × RetiresFit rest p.path tx p.saves p.effect

-- a run from one place to another, where so much was taken: the path and the room behind it, and what it leads to under each
-- meaning that is stated of the steps, with the footprints of these signatures
pub record RunsTo (IsStated : StepMeanings → Type 0) (signatures : List Signature) (seen : Taken) (tx : Tx) (before : Place) (out : Out) (after : Place) (left : List Bool) : Type 0 where
  pub path : IsPathBehind out (depth tx) after.path
  pub writes : (rest : ℕ) → WritesFit rest before.path tx before.saves before.effect → LeavesRoom is_write 64 (λ e. length e.writes) rest out after.path tx after.saves after.effect
  pub names : (rest : ℕ) → NamesFit rest before.path tx before.saves before.effect → LeavesRoom is_check 8 (λ e. length e.names) rest out after.path tx after.saves after.effect
  pub retires : (rest : ℕ) → RetiresFit rest before.path tx before.saves before.effect → LeavesRoom is_retire 8 (λ e. length e.retired) rest out after.path tx after.saves after.effect
  pub leads : (m : StepMeanings) (footprint : List ℕ → List ℕ) → IsStated m → AreOf signatures footprint → LeadsTo m footprint seen tx before out after left

-- the path with the child that leads to the place, where the run goes on
abbrev pub with_child : Out → ℕ → List ℕ → List ℕ
with_child (Stopped ask) child path = child ∷ path
with_child _ child path = path

-- the child that is entered: the first of the path, or at the start of the tree this one
abbrev pub Enters : List ℕ → ℕ → ℕ → List ℕ → Type 0
Enters [] start child rest = (child ≡ start) × (rest ≡ [])
Enters (i ∷ path) start child rest = (child ≡ i) × (rest ≡ path)

-- whether a choice is entered by its first branch; at the start of the tree a save is made
abbrev pub EntersChoice : List ℕ → Save → List Save → Bool → List ℕ → List Save → Type 0
EntersChoice [] save saves first rest saves' = (first ≡ true) × (rest ≡ []) × (saves' ≡ slice_set saves 0 save)
EntersChoice (zero ∷ path) save saves first rest saves' = (first ≡ true) × (rest ≡ path) × (saves' ≡ saves)
EntersChoice (suc i ∷ path) save saves first rest saves' = (first ≡ false) × (rest ≡ path) × (saves' ≡ saves)

-- it has no tree in it
abbrev pub IsLeaf : Tx → Type 0
IsLeaf (Seq' shape txs) = ⊥
IsLeaf (When' reg p a q b) = ⊥
IsLeaf (OrElse' p a q b) = ⊥
IsLeaf _ = ⊤

-- a Read of its own write, or else of what was given
abbrev pub read_seen : Option ℤ → Option ℤ → RunState → ℕ → ℕ → Flow
read_seen (Some n) value s var reg = Goes (eval_put s reg n)
read_seen None (Some n) s var reg = Goes (eval_put s reg n)
read_seen None None s var reg = Stops (Visit var)
