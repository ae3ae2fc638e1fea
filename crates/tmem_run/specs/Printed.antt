-- What the program prints for the entries of a script.
use Rattle.std.specs.Prelude.{◌≡◌, ◌⊎◌, ℕ, List, [], ◌∷◌, ◌++◌, Option, codes, filter, map}
use Rattle.std.specs.List.{join_with_byte, range_with_len}
use Rattle.std.specs.Fmt.{decimal, signed_decimal}
use Rattle.std.specs.Io.KnownBytes.{Appends}
use Rattle.tmem_fault.specs.Fault.{text_of}
use Rattle.tmem_fault.specs.Name.{has_name}
use Rattle.tmem_fault.specs.declared.fault.Fault.TheVariants as fault
use Rattle.tmem_effect.specs.State.{State, first_state}
use Rattle.tmem_invariants.specs.Meanings.{value_of}
use Rattle.tmem_core.specs.Program.{Program}
use Rattle.tmem_event.specs.declared.event.Reply.{Reply}
use Rattle.tmem_event.specs.declared.event.Reply.TheVariants as reply
use Rattle.tmem_script.specs.Lines.{line_of}
use Rattle.tmem_script.specs.declared.failure.ProgramFailure.{ProgramFailure}
use Rattle.tmem_script.specs.declared.failure.ProgramFailure.TheVariants as failure
use Rattle.tmem_script.specs.declared.script.ScriptEntry.{ScriptEntry}
use Rattle.tmem_script.specs.declared.script.ScriptEntry.TheVariants as entry
use Rattle.tmem_journal.specs.Contents.{Position, first_position}
use Rattle.tmem_world.specs.WorldModel.{Setting, WorldModel, CoreStatus, Gone, Allows, present, opening}
use Rattle.tmem_world.specs.declared.world.World.{World}
use Rattle.tmem_world.specs.Represents.{Represents, Means, setting_of, world_view}
pub use Rattle.tmem_lines.specs.Lines.{line}
use Rattle.tmem_run.specs.Builtin.{builtin_setting}

-- texts with a comma between any two
abbrev pub listed : List (List ℕ) → List ℕ
listed texts = join_with_byte 44 texts

-- the names that can be registered, ascending
abbrev pub all_names : List (List ℕ)
all_names = codes "nonneg" ∷ codes "ordered" ∷ codes "sum" ∷ []

-- those of them that are registered
abbrev pub registered : State → List (List ℕ)
registered state = filter (λ name. has_name state.names name) all_names

-- the values of the variables, in order
abbrev pub values_text : ℕ → State → List (List ℕ)
values_text vars state = map (λ var. signed_decimal (value_of state.values var)) (range_with_len 0 vars)

-- a state: how many transactions were committed, the names that are registered, and the values
abbrev pub state_text : ℕ → State → List ℕ
state_text vars state =
    codes "state count=" ++ decimal state.count ++ codes " names=" ++ listed (registered state) ++ codes " values=" ++ listed (values_text vars state)

-- the present state, or where there is no core the refusal of all that needs one
abbrev pub shown : ℕ → CoreStatus → State → List ℕ
shown vars Gone state = text_of fault.Closed
shown vars _ state = state_text vars state

-- At this point of a run the entry may be answered by this text, and leads to that point: an event by the line of a reply
-- that is allowed, `show` by the line of the present state.
abbrev pub AnswersEntry : Setting → WorldModel → ScriptEntry → List ℕ → WorldModel → Type 0
AnswersEntry set m (entry.Event it) text m' = (reply : Reply) × Allows set m it.event reply m' × (text ≡ line (line_of reply))
AnswersEntry set m entry.Show text m' = (text ≡ line (shown set.vars m.status (present set.program m))) × (m' ≡ m)

-- The entries may be answered by this text, one after another.
abbrev pub Prints : Setting → WorldModel → List ScriptEntry → List ℕ → WorldModel → Type 0
Prints set m [] text m' = (text ≡ []) × (m' ≡ m)
Prints set m (e ∷ es) text m' =
    (mid : WorldModel) × (first : List ℕ) × (rest : List ℕ) × AnswersEntry set m e first mid × Prints set mid es rest m' × (text ≡ first ++ rest)

-- Whatever the closures mean, by their statement: from each point of a run that the old world is at, the entries may be
-- answered by what was written meanwhile, and the new world is at the point that they lead to. It rests on the disk
-- model, since an entry may open the device again.
abbrev pub PlaysEntries : {D T S : Type 0} {d t s : _} → World D T S d t s → Option (List ℕ) → List ScriptEntry → World D T S d t s → Option (List ℕ) → Type 0
PlaysEntries old before entries new after =
    (program : Program) → Means old program → (m : WorldModel) → Represents program old m → (world_view new).keeps_model
    → (m' : WorldModel) × (text : List ℕ) × Prints (setting_of old program) m entries text m' × Represents program new m' × Appends before after text

-- A whole script on a store that was opened in this state, at that position: the line of the opening, and then what its
-- entries may be answered by from there, up to that point.
pub record PlaysFrom (vars slots : ℕ) (found : State) (position : Position) (entries : List ScriptEntry) (end : WorldModel) (before after : Option (List ℕ)) : Type 0 where
  pub text : List ℕ
  pub prints : Prints (builtin_setting vars slots) (opening found position 0) entries text end
  pub appends : Appends before after (line (line_of (reply.Opened found.count)) ++ text)

-- A whole script on an empty store.
abbrev pub PlaysScript : ℕ → ℕ → List ScriptEntry → Option (List ℕ) → Option (List ℕ) → Type 0
PlaysScript vars slots entries before after = (end : WorldModel) × PlaysFrom vars slots (first_state vars) first_position entries end before after

-- a run was stopped: the output failed, memory was refused, or a call of the device failed
abbrev pub IsStop : ProgramFailure → Type 0
IsStop f = (f ≡ failure.Output) ⊎ ((f ≡ failure.Refused fault.Memory) ⊎ (f ≡ failure.Refused fault.Device))
