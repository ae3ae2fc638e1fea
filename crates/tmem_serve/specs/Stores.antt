-- How a store is served, from its opening on.
use Rattle.std.specs.Prelude.{◌≡◌, ◌⊎◌, ℕ, not, List, Option, Some, None, find, map, string_bytes, String}
use Rattle.std.specs.declared.alloc.Global.{Global}
use Rattle.std.specs.Io.KnownBytes.{Appends}
use Rattle.tmem_disk.specs.Disk.{DeviceView, LeavesOnly}
use Rattle.tmem_fault.specs.declared.fault.Fault.{Fault}
use Rattle.tmem_fault.specs.declared.fault.Fault.TheVariants as fault
use Rattle.tmem_core.specs.Program.{Program}
use Rattle.tmem_effect.specs.Names.{has_name}
use Rattle.tmem_effect.specs.State.{State}
use Rattle.tmem_invariants.specs.Meanings.{IsSound}
use Rattle.tmem_journal.specs.Contents.{Position, ContentRepresents}
use Rattle.tmem_opening.specs.Opening.{FindsState, OpeningRefused}
use Rattle.tmem_lines.specs.Lines.{line}
use Rattle.tmem_spine.specs.Views.{new_pass}
use Rattle.tmem_answers.specs.Answers.{opened_line}
use Rattle.tmem_desk.specs.Asking.{Store}
use Rattle.tmem_desk.specs.Held.{empty_desk}
use Rattle.tmem_desk.specs.declared.failure.DeskFailure.{DeskFailure}
use Rattle.tmem_desk.specs.declared.failure.DeskFailure.TheVariants as failure
use Rattle.tmem_serve.specs.declared.error.ServeError.{ServeError}
use Rattle.tmem_serve.specs.declared.error.ServeError.TheVariants as error
use Rattle.tmem_serve.specs.Turns.{ServesInput, StopsInput}

-- the first line that a served store prints: how many transactions there are, how many variables, and the names of variables
abbrev pub first_line : ℕ → ℕ → List (String Global × ℕ) → List ℕ
first_line opened vars names = line (opened_line opened vars (map (λ n. (string_bytes n.0, n.1)) names))

-- The first line of a store was printed, and then the input was served, by a desk that had read nothing.
pub record ServesStore (s : Store) (vars : ℕ) (names : List (String Global × ℕ)) (unread rest before after : Option (List ℕ)) : Type 0 where
  pub between : Option (List ℕ)
  pub first : Appends before between (first_line s.start vars names)
  pub mark : ℕ
  pub input : ServesInput s (empty_desk (new_pass mark)) unread rest between after

-- The same, and serving ended early.
pub record StopsStore (s : Store) (vars : ℕ) (names : List (String Global × ℕ)) (unread rest before after : Option (List ℕ)) (f : DeskFailure) : Type 0 where
  pub between : Option (List ℕ)
  pub first : Appends before between (first_line s.start vars names)
  pub mark : ℕ
  pub input : StopsInput s (empty_desk (new_pass mark)) unread rest between after f

-- Why a store that was opened was not served to the end of its input: no pass was left; or the first line could not be printed; or
-- serving ended early.
abbrev pub IsWhyStopped : Store → ℕ → List (String Global × ℕ) → Option (List ℕ) → Option (List ℕ) → Option (List ℕ) → Option (List ℕ) → DeskFailure → Type 0
IsWhyStopped s vars names unread rest before after f =
    ((f ≡ failure.Fault fault.NoSeat) × (rest ≡ unread) × (after ≡ before))
    ⊎ (((f ≡ failure.Output) × (rest ≡ unread)) ⊎ StopsStore s vars names unread rest before after f)

-- the first of these names that is not registered among those
abbrev pub first_unregistered : List (List ℕ) → List (List ℕ) → Option (List ℕ)
first_unregistered registered names = find (λ name. not (has_name registered name)) names

-- The opening of the first device found this state, and the second device is what it made of it: no invariant of the state that is
-- registered is false, and what a crash leaves of it represents that state.
pub record Finds (program : Program) (vars slots : ℕ) (old new : DeviceView) (state : State) : Type 0 where
  pub position : Position
  pub found : new.keeps_model → FindsState vars slots old new position state
  pub leaves : LeavesOnly new (ContentRepresents vars slots position state)
  pub sound : IsSound program.tests program.names state.names state.values
  pub model : new.keeps_model → old.keeps_model

-- The store that is served is one that the opening of this device found, under this program, whose steps have so many arguments each.
pub record IsOpenedAs {D : Type 0} (view : D → DeviceView) (program : Program) (arities : List ℕ) (always : List (List ℕ)) (vars slots : ℕ) (disk : D) (it : Store) : Type 0 where
  pub opened : D
  pub finds : Finds program vars slots (view disk) (view opened) it.opening
  pub start : it.start ≡ it.opening.count
  pub program_is : it.program ≡ program
  pub arities_are : it.arities ≡ arities
  pub always_is : it.always ≡ always

-- A store that was opened so, in which all that always holds is registered, was served to the end of the input.
pub record OpensAndServes {D : Type 0} (view : D → DeviceView) (program : Program) (arities : List ℕ) (always : List (List ℕ)) (vars slots : ℕ) (names : List (String Global × ℕ)) (disk : D) (unread rest before after : Option (List ℕ)) : Type 0 where
  pub it : Store
  pub opened : IsOpenedAs view program arities always vars slots disk it
  pub kept : first_unregistered it.opening.names always ≡ None
  pub served : ServesStore it vars names unread rest before after

-- Its opening was refused.
abbrev pub IsWhyNotServed : (Program → Type 0) → ℕ → ℕ → DeviceView → DeviceView → DeskFailure → Type 0
IsWhyNotServed AreTheirs vars slots old new f = (g : Fault) × (f ≡ failure.Fault g) × OpeningRefused AreTheirs vars slots old g new

-- Why a store was not served to the end of its input. It was opened, and this is the first that always holds and is not registered in it:
-- nothing was read or printed. Or its opening was refused, and nothing was read or printed; or it was opened, all that always holds is
-- registered, and serving ended early.
abbrev pub IsWhyEnded : {D : Type 0} → (D → DeviceView) → (Program → Type 0) → Program → List ℕ → List (List ℕ) → ℕ → ℕ → List (String Global × ℕ) → D → Option (List ℕ) → Option (List ℕ) → Option (List ℕ) → Option (List ℕ) → ServeError → Type 0
IsWhyEnded view AreTheirs program arities always vars slots names disk unread rest before after (error.Unregistered name) =
    (it : Store) × IsOpenedAs view program arities always vars slots disk it × (first_unregistered it.opening.names always ≡ Some name) × (rest ≡ unread) × (after ≡ before)
IsWhyEnded {D} view AreTheirs program arities always vars slots names disk unread rest before after (error.Ended f) =
    ((handed : D) × IsWhyNotServed AreTheirs vars slots (view disk) (view handed) f × (rest ≡ unread) × (after ≡ before))
    ⊎ ((it : Store) × IsOpenedAs view program arities always vars slots disk it × (first_unregistered it.opening.names always ≡ None) × IsWhyStopped it vars names unread rest before after f)
