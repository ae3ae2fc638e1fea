-- Why a script was not read.
use Rattle.std.specs.Prelude.{⊤}
use Rattle.tmem_forms.specs.declared.error.FormError.{FormError}
use Rattle.tmem_forms.specs.declared.error.FormError.TheVariants as form
use Rattle.tmem_script.specs.declared.script.ScriptError.{ScriptError}
use Rattle.tmem_script.specs.declared.script.ScriptError.TheVariants.{Memory, Unreadable, NoScript}

-- memory was refused
abbrev pub IsWanting : ScriptError → Type 0
IsWanting (Memory e) = ⊤
IsWanting Unreadable = ⊥
IsWanting NoScript = ⊥

-- what a script is refused by where its value was not read
abbrev pub refusal_of : FormError → ScriptError
refusal_of (form.Memory e) = Memory e
refusal_of form.NoForm = NoScript

-- its text was not read
abbrev pub IsUnread : ScriptError → Type 0
IsUnread (Memory e) = ⊤
IsUnread Unreadable = ⊤
IsUnread NoScript = ⊥
