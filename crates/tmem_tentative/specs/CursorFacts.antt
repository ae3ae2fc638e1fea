-- That where a cursor stands has one proof at most.
use Rattle.std.specs.Prelude.{◌≡◌, ℕ, zero, suc, Bool, List, [], ◌∷◌, length}
use Rattle.std.specs.Coded.{codes, Coded, Coded-set, ×_prop, le_prop}
use Rattle.std.proofs.Props.{props}
use mathlib.Core.Bool.{Bool-set}
use Rattle.tmem_invariants.specs.Meanings.{Meanings}
use Rattle.tmem_effect.specs.declared.effect.Effect.{Effect}
use Rattle.tmem_tree.specs.declared.tx.Tx.{Tx, Row_of-Tx, end_of-Tx, more_of-Tx}
use Rattle.tmem_tree.specs.declared.tx.Tx.TheVariants.{Seq', When', OrElse'}
use Rattle.tmem_tree.specs.Limits.{is_write, is_check, is_retire}
use Rattle.tmem_tree.specs.Plans.{PlanView}
use Rattle.tmem_tree.specs.Signatures.{footprint_in}
use Rattle.tmem_tree.specs.StepAnswers.{StepMeanings}
use Rattle.tmem_tree.specs.Visited.{Ask, Visit, Probe}
use Rattle.tmem_tentative.specs.declared.attempt.Attempt.{Attempt}
use Rattle.tmem_tentative.specs.declared.attempt.Ending.{Ending}
use Rattle.tmem_tentative.specs.declared.attempt.Ending.TheVariants as ending
use Rattle.tmem_tentative.specs.declared.cursor.Cursor.{Cursor}
use Rattle.tmem_tentative.specs.declared.cursor.Stage.{Stage}
use Rattle.tmem_tentative.specs.declared.cursor.Stage.TheVariants.{Going, Waits, Tests, Ended}
use Rattle.tmem_tentative.specs.declared.save.Save.{Save}
use Rattle.tmem_tentative.specs.Eval.{Flow}
use Rattle.tmem_tentative.specs.Fits.{IsBlankUnlessNormal, IsEndingFor}
use Rattle.tmem_tentative.specs.Places.{Place, HasRoom, AllHaveRoom}
use Rattle.tmem_tentative.specs.Cursors.{MayGoOn, StandsIn, IsAt, IsAtStage, attempt_of}
use Rattle.tmem_tentative.specs.Right.{Gave}

flow_coded : Coded Flow
flow_coded = hlevel codes

pub Flow-prop : (f g : Flow) → IsProp (f ≡ g)
Flow-prop f g = Coded-set flow_coded f g

answers_coded : Coded (List Bool)
answers_coded = hlevel codes

pub Answers-prop : (xs ys : List Bool) → IsProp (xs ≡ ys)
Answers-prop xs ys = Coded-set answers_coded xs ys

module _ (test : Tx → Bool) (limit : ℕ) (size : Effect → ℕ) where
  mutual
    pub HasRoom-prop : (rest : ℕ) (path : List ℕ) (tx : Tx) (saves : List Save) (n : ℕ) → IsProp (HasRoom test limit size rest path tx saves n)
    HasRoom-prop rest [] tx saves n = le_prop
    HasRoom-prop rest (i ∷ path) (Seq' shape txs) saves n = AllHaveRoom-prop rest i path txs saves n
    HasRoom-prop rest (zero ∷ path) (When' reg p a q b) saves n = HasRoom-prop rest path a saves n
    HasRoom-prop rest (suc i ∷ path) (When' reg p a q b) saves n = HasRoom-prop rest path b saves n
    HasRoom-prop rest (zero ∷ path) (OrElse' p a q b) [] n = hlevel
    HasRoom-prop rest (zero ∷ path) (OrElse' p a q b) (save ∷ saves) n = ×_prop (HasRoom-prop rest path a saves n) le_prop
    HasRoom-prop rest (suc i ∷ path) (OrElse' p a q b) saves n = HasRoom-prop rest path b saves n
    HasRoom-prop rest (i ∷ path) tx saves n = hlevel

    pub AllHaveRoom-prop : {m : _} (rest i : ℕ) (path : List ℕ) (txs : Row_of-Tx m) (saves : List Save) (n : ℕ) → IsProp (AllHaveRoom test limit size rest i path txs saves n)
    AllHaveRoom-prop rest i path end_of-Tx saves n = hlevel
    AllHaveRoom-prop rest zero path (more_of-Tx tx txs) saves n = HasRoom-prop _ path tx saves n
    AllHaveRoom-prop rest (suc i) path (more_of-Tx tx txs) saves n = AllHaveRoom-prop rest i path txs saves n

pub MayGoOn-prop : (plan : Tx) (p : Place) → IsProp (MayGoOn plan p)
MayGoOn-prop plan p =
    hlevel (props, HasRoom-prop is_write 64 (λ e. length e.writes) 0 p.path plan p.saves (length p.effect.writes), HasRoom-prop is_check 8 (λ e. length e.names) 0 p.path plan p.saves (length p.effect.names), HasRoom-prop is_retire 8 (λ e. length e.retired) 0 p.path plan p.saves (length p.effect.retired))

pub IsBlankUnlessNormal-prop : (e : Ending) (a : Attempt) → IsProp (IsBlankUnlessNormal e a)
IsBlankUnlessNormal-prop ending.Normal a = hlevel
IsBlankUnlessNormal-prop ending.Retry a = hlevel props
IsBlankUnlessNormal-prop (ending.Abort code) a = hlevel props
IsBlankUnlessNormal-prop (ending.Broken name) a = hlevel props

pub IsEndingFor-prop : (names : List (List ℕ)) (end : Ending) → IsProp (IsEndingFor names end)
IsEndingFor-prop names ending.Normal = hlevel
IsEndingFor-prop names ending.Retry = hlevel
IsEndingFor-prop names (ending.Abort code) = hlevel
IsEndingFor-prop names (ending.Broken name) = Bool-set _ _

IsAtStage-prop : (m : StepMeanings) (footprint : List ℕ → List ℕ) (plan : Tx) (stage : Stage) (cursor : Cursor) → IsProp (IsAtStage m footprint plan stage cursor)
IsAtStage-prop m footprint plan Going cursor = hlevel (props, MayGoOn-prop, Flow-prop)
IsAtStage-prop m footprint plan (Waits var) cursor = hlevel (props, MayGoOn-prop, Flow-prop)
IsAtStage-prop m footprint plan Tests cursor = hlevel (props, MayGoOn-prop, Flow-prop, Answers-prop)
IsAtStage-prop m footprint plan Ended cursor =
    ×_prop (Flow-prop _ _) (IsBlankUnlessNormal-prop (attempt_of cursor).ending (attempt_of cursor))

Gave-prop : (tests : Meanings) (answers : List Bool) (asks : List Ask) → IsProp (Gave tests answers asks)
Gave-prop tests answers [] = hlevel
Gave-prop tests answers (Visit var ∷ more) = Gave-prop tests answers more
Gave-prop tests [] (Probe name values ∷ more) = hlevel
Gave-prop tests (answer ∷ answers) (Probe name values ∷ more) =
    ×_prop (Bool-set answer (tests.test name values)) (Gave-prop tests answers more)

-- so a type may state them as facts
pub StandsIn-prop : (m : StepMeanings) (plan : PlanView) (cursor : Cursor) → IsProp (StandsIn m plan cursor)
StandsIn-prop m plan cursor = IsAtStage-prop m (footprint_in plan.signatures) plan.tree cursor.stage cursor

pub IsAt-prop : (m : StepMeanings) (tests : Meanings) (plan : Tx) (cursor : Cursor) → IsProp (IsAt m tests plan cursor)
IsAt-prop m tests plan cursor = hlevel (IsAtStage-prop, Gave-prop)
