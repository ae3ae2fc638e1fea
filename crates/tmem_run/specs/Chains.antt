-- What a run of the program makes of a store that has a history.
use Rattle.std.specs.Prelude.{◌≡◌, ◌⊎◌, ⊤, ℕ, List, [], ◌∷◌, ◌++◌}
use Rattle.tmem_disk.specs.Disk.{DeviceView, AtEachMoment, IsSynced}
use Rattle.tmem_event.specs.declared.event.Event.{Event}
use Rattle.tmem_event.specs.declared.event.Reply.{Reply}
use Rattle.tmem_event.specs.declared.event.Reply.TheVariants as reply
use Rattle.tmem_journal.specs.Mended.{IsFoundAt}
use Rattle.tmem_journal.specs.Contents.{Position}
use Rattle.tmem_script.specs.Lines.{line_of}
use Rattle.tmem_script.specs.declared.script.ScriptEntry.{ScriptEntry}
use Rattle.tmem_script.specs.declared.script.ScriptEntry.TheVariants as entry
use Rattle.tmem_world.specs.WorldModel.{Setting, WorldModel, Allows, present, opening}
use Rattle.tmem_world.specs.Chain.{ChainHistory, IsSafePrefix, IsSafe, IsStore, IsLeftBy, IsFirstOf, SessionRun, IsChain, IsChainAt, state_at, history_found, history_after}
use Rattle.tmem_world.specs.declared.world.World.{World}
use Rattle.tmem_world.specs.Represents.{Means, setting_of, world_view}
use Rattle.tmem_world.specs.Chain.{Carries}
use Rattle.tmem_core.specs.Program.{Program}
use Rattle.tmem_run.specs.Builtin.{builtin_program, builtin_setting}
use Rattle.tmem_run.specs.Printed.{line, shown}

-- At this point of a run that goes on with the history, the entries may be answered so, one after another: each event by a
-- reply that is allowed, and by its line; `show` by the line of the present state.
abbrev pub PrintsOn : Setting → WorldModel → ChainHistory → List ScriptEntry → List Reply → List ℕ → WorldModel → ChainHistory → Type 0
PrintsOn set m h [] [] text m' h' = (text ≡ []) × (m' ≡ m) × (h' ≡ h)
PrintsOn set m h [] (r ∷ rs) text m' h' = ⊥
PrintsOn set m h (entry.Event it ∷ es) [] text m' h' = ⊥
PrintsOn set m h (entry.Event it ∷ es) (r ∷ rs) text m' h' =
    (x : WorldModel) × (rest : List ℕ) × Allows set m it.event r x × PrintsOn set x (history_after m it.event r x h) es rs rest m' h' × (text ≡ line (line_of r) ++ rest)
PrintsOn set m h (entry.Show ∷ es) rs text m' h' =
    (rest : List ℕ) × PrintsOn set m h es rs rest m' h' × (text ≡ line (shown set.vars m.status (present set.program m)) ++ rest)

-- the events among entries
abbrev pub entry_events : List ScriptEntry → List Event
entry_events [] = []
entry_events (entry.Event it ∷ es) = it.event ∷ entry_events es
entry_events (entry.Show ∷ es) = entry_events es

-- The content is safe for the history after an initial part of these entries, from which the others led on.
pub record IsSafeAmong (set : Setting) (m : WorldModel) (h : ChainHistory) (es : List ScriptEntry) (rs : List Reply) (m' : WorldModel) (h' : ChainHistory) (c : List ℕ) : Type 0 where
  pub first : List ScriptEntry
  pub rest : List ScriptEntry
  pub answers : List Reply
  pub later : List Reply
  pub early : List ℕ
  pub late : List ℕ
  pub entries : es ≡ first ++ rest
  pub replies : rs ≡ answers ++ later
  pub point : WorldModel
  pub reached : ChainHistory
  pub before : PrintsOn set m h first answers early point reached
  pub after : PrintsOn set point reached rest later late m' h'
  pub safe : IsSafe set.program set.vars set.slots reached c

-- From a world that carries a history these entries were answered by this text, and the next one carries what they make of the
-- history. A crash at any moment of that leaves what is safe after an initial part of them.
pub record EntriesGoOn {D T S : Type 0} {d t s : _} (program : Program) (old : World D T S d t s) (h : ChainHistory) (m : WorldModel) (entries : List ScriptEntry) (text : List ℕ) (new : World D T S d t s) : Type 0 where
  pub replies : List Reply
  pub end : WorldModel
  pub reached : ChainHistory
  pub prints : PrintsOn (setting_of old program) m h entries replies text end reached
  pub carries : Carries program new reached end
  pub any_moment : AtEachMoment (world_view old) (world_view new) (λ c. ∥ IsSafeAmong (setting_of old program) m h entries replies end reached c ∥₁)

-- so it is, whatever the closures mean, of a text that was printed so
abbrev pub PlaysEntriesOn : {D T S : Type 0} {d t s : _} → World D T S d t s → List ScriptEntry → World D T S d t s → (List ℕ → Type 0) → Type 0
PlaysEntriesOn old entries new IsPrinted =
    (program : Program) → Means old program → (h : ChainHistory) (m : WorldModel) → Carries program old h m → (world_view new).keeps_model
    → (text : List ℕ) × EntriesGoOn program old h m entries text new × IsPrinted text

-- and of an initial part of these entries, whatever was printed
abbrev pub PlaysFirstOn : {D T S : Type 0} {d t s : _} → World D T S d t s → List ScriptEntry → World D T S d t s → Type 0
PlaysFirstOn old entries new = (first : List ScriptEntry) × IsFirstOf first entries × PlaysEntriesOn old first new (λ text. ⊤)

-- A store with this history was opened, the entries were played on it, and this text was printed: the line of the opening, and
-- then theirs. The device is a store with the history that was reached. A crash at any moment of all that leaves what is safe for
-- the history from before the opening, or for the one after an initial part of the entries.
pub record PlaysStore (vars slots : ℕ) (h : ChainHistory) (entries : List ScriptEntry) (text : List ℕ) (old new : DeviceView) : Type 0 where
  pub found : ℕ
  pub position : Position
  pub prefix : IsSafePrefix (builtin_program vars) vars h found
  -- at that position is what a read of the device gave, or behind the next image, if that was of version 1
  pub stands : IsFoundAt vars slots old.seen (state_at (builtin_program vars) vars h found) position
  pub replies : List Reply
  pub rest : List ℕ
  pub end : WorldModel
  pub reached : ChainHistory
  pub printed : text ≡ line (line_of (reply.Opened found)) ++ rest
  pub prints : PrintsOn (builtin_setting vars slots) (opening (state_at (builtin_program vars) vars h found) position old.failures) (history_found found h) entries replies rest end reached
  pub store : IsStore (builtin_program vars) vars slots reached new
  pub any_moment : AtEachMoment old new (λ c. IsSafe (builtin_program vars) vars slots h c
      ⊎ ∥ IsSafeAmong (builtin_setting vars slots) (opening (state_at (builtin_program vars) vars h found) position old.failures) (history_found found h) entries replies end reached c ∥₁)
  -- the run is the next session of each chain that led to the history
  pub chain : (earlier : List SessionRun) → IsChain vars slots earlier h
      → IsChainAt vars slots earlier (record { set = builtin_setting vars slots; content = old.seen; found = found; position = position; failures = old.failures; events = entry_events entries; replies = replies }) reached end

-- The session of an initial part of these entries is the last one of each chain that led to the history, and the device is a store
-- with what they made of it.
abbrev pub LeavesSession : ℕ → ℕ → ChainHistory → List ScriptEntry → DeviceView → Type 0
LeavesSession vars slots h entries left =
    (s : SessionRun) × (first : List ScriptEntry) × (point : WorldModel) × (reached : ChainHistory) × IsFirstOf first entries × (s.set ≡ builtin_setting vars slots) × (s.events ≡ entry_events first)
    × ((earlier : List SessionRun) → IsChain vars slots earlier h → IsChainAt vars slots earlier s reached point)
    × IsStore (builtin_program vars) vars slots reached left

-- A crash at some moment of such a run leaves a store, once the device was started again so that it holds one content: with the
-- history from before the opening, or with the one after an initial part of the entries.
abbrev pub CrashLeavesRun : {D : Type 0} → (D → DeviceView) → Type 0
CrashLeavesRun {D} view =
    (vars slots : ℕ) (h : ChainHistory) (entries : List ScriptEntry) (text : List ℕ) (old new left : D) → PlaysStore vars slots h entries text (view old) (view new)
    → IsLeftBy (view new) (view old).moment (view left) → IsSynced (view left) → (view left).keeps_model
    → ∥ IsStore (builtin_program vars) vars slots h (view left) ⊎ LeavesSession vars slots h entries (view left) ∥₁

-- its opening was refused, and the device is still a store with the history
pub record StaysStore (vars slots : ℕ) (h : ChainHistory) (old new : DeviceView) : Type 0 where
  pub store : IsStore (builtin_program vars) vars slots h new
  pub any_moment : AtEachMoment old new (IsSafe (builtin_program vars) vars slots h)

-- an initial part of the entries was played on a store, if it is one
abbrev pub LeavesStore : ℕ → ℕ → List ScriptEntry → DeviceView → DeviceView → Type 0
LeavesStore vars slots entries old new = (h : ChainHistory) → IsStore (builtin_program vars) vars slots h old → new.keeps_model
    → (first : List ScriptEntry) × (text : List ℕ) × IsFirstOf first entries × PlaysStore vars slots h first text old new
