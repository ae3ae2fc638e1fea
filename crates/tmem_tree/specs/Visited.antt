-- What a run asks for, in its order: the variables that it reads of its map, and the invariants that it tests at their point. What a
-- branch asked that then retried counts, since the second branch was taken because of it (Harris et al. 2005, section 3, on
-- when a blocked choice is to run again).
use Rattle.std.specs.Prelude.{ℕ, ℤ, Bool, true, false, List, [], ◌∷◌, ◌++◌, map, Option, Some, None, nat_eq, if◌then◌else◌}
use Rattle.tmem_tree.specs.declared.tx.Tx.{Tx, Row_of-Tx, end_of-Tx, more_of-Tx}
use Rattle.tmem_tree.specs.declared.tx.Tx.TheVariants.{Skip, Seq', Put, Read, Write, Step, When', OrElse', Retry, Abort, Check, Retire}
use Rattle.tmem_tree.specs.StepAnswers.{StepMeanings}
use Rattle.tmem_invariants.specs.Meanings.{Meanings}
use Rattle.tmem_effect.specs.Writes.{value_in}
use Rattle.tmem_tree.specs.Run.{View, RunResult, Normal, Retried, Aborted, Broken, run, start, is_zero, register}

-- a variable is visited; or the invariant of this name is tested on these values of its footprint
pub data Ask : Type 0 where
  Visit : (var : ℕ) → Ask
  Probe : (name : List ℕ) (values : List ℤ) → Ask

-- a variable that is read, unless the transaction wrote it
abbrev pub read_of : Option ℤ → ℕ → List Ask
read_of (Some n) var = []
read_of None var = Visit var ∷ []

-- those of a footprint that the transaction did not write
abbrev pub unwritten : List (ℕ × ℤ) → List ℕ → List Ask
unwritten writes [] = []
unwritten writes (var ∷ vars) = read_of (value_in writes var) var ++ unwritten writes vars

-- what is asked next, where a run ended normally
abbrev pub then_ask : RunResult → (View → List Ask) → List Ask
then_ask (Normal view) next = next view
then_ask Retried next = []
then_ask (Aborted code) next = []
then_ask (Broken name) next = []

-- what is asked next, where a run retried
abbrev pub else_ask : RunResult → List Ask → List Ask
else_ask (Normal view) asks = []
else_ask Retried asks = asks
else_ask (Aborted code) asks = []
else_ask (Broken name) asks = []

module _ (steps : StepMeanings) (tests : Meanings) where
  -- the variables of the Reads, and of the footprints of the Checks, that the run reaches while the view's effect has no write of
  -- them, and the tests of these Checks, one after another
  abbrev mutual
    pub asks : Tx → View → List Ask
    asks Skip view = []
    asks (Seq' shape txs) view = asks_all txs view
    asks (Put reg number) view = []
    asks (Read var reg) view = read_of (value_in view.effect.writes var) var
    asks (Write var reg) view = []
    asks (Step index args out) view = []
    asks (When' reg p a q b) view = if is_zero (register view.registers reg) then asks b view else asks a view
    asks (OrElse' p a q b) view = asks a view ++ else_ask (run steps tests a view) (asks b view)
    asks Retry view = []
    asks (Abort code) view = []
    asks (Check name) view =
        unwritten view.effect.writes (tests.footprint name) ++ Probe name (map view.values (tests.footprint name)) ∷ []
    asks (Retire name) view = []

    pub asks_all : {m : _} → Row_of-Tx m → View → List Ask
    asks_all end_of-Tx view = []
    asks_all (more_of-Tx tx txs) view = asks tx view ++ then_ask (run steps tests tx view) (asks_all txs)

-- the variables of these
abbrev pub visits_in : List Ask → List ℕ
visits_in [] = []
visits_in (Visit var ∷ more) = var ∷ visits_in more
visits_in (Probe name values ∷ more) = visits_in more

-- the tests of these, each with its values
abbrev pub probes_in : List Ask → List (List ℕ × List ℤ)
probes_in [] = []
probes_in (Visit var ∷ more) = probes_in more
probes_in (Probe name values ∷ more) = (name, values) ∷ probes_in more

abbrev pub has : List ℕ → ℕ → Bool
has [] var = false
has (v ∷ vars) var = if nat_eq var v then true else has vars var

-- at the end, unless it is there
abbrev pub noted : List ℕ → ℕ → List ℕ
noted vars var = if has vars var then vars else vars ++ var ∷ []

-- behind those, each once, in order of first mention
abbrev pub each_once : List ℕ → List ℕ → List ℕ
each_once seen [] = seen
each_once seen (var ∷ vars) = each_once (noted seen var) vars

-- each visited variable once, in order of first visit, of the run on a map
abbrev pub visited : StepMeanings → Meanings → Tx → (ℕ → ℤ) → List ℕ
visited steps tests tx values = each_once [] (visits_in (asks steps tests tx (start values)))

-- the tests of the run on a map, each with its values
abbrev pub probes : StepMeanings → Meanings → Tx → (ℕ → ℤ) → List (List ℕ × List ℤ)
probes steps tests tx values = probes_in (asks steps tests tx (start values))
