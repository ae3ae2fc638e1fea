-- What became of a command that plays a script.
use Rattle.std.proofs.Common.{◌≡◌, ℕ, List, [], Option, Some, None, Bor, refl, sym, ap, inl, inr, option_map, append-nil}
use Rattle.std.specs.Prelude.{IsSome}
use Rattle.std.proofs.lemmas.Bool.{false≢true}
use Rattle.std.proofs.lemmas.Option.{none-some}
use Rattle.std.specs.Io.KnownBytes.{Keeps}
use Rattle.tmem_effect.specs.State.{State, first_state}
use Rattle.tmem_world.specs.WorldModel.{WorldModel}
use Rattle.tmem_journal.specs.Contents.{Position, first_position}
use Rattle.tmem_script.specs.Errors.{IsUnread}
use Rattle.tmem_script.specs.Statuses.{status_of}
use Rattle.tmem_script.specs.declared.failure.ProgramFailure.{ProgramFailure}
use Rattle.tmem_script.specs.declared.failure.ProgramFailure.TheVariants.{Output}
use Rattle.tmem_script.specs.declared.script.ScriptEntry.{ScriptEntry}
use Rattle.tmem_script.specs.declared.script.ScriptError.{ScriptError}
use Rattle.tmem_script.specs.declared.script.ScriptError.TheVariants.{Memory, Unreadable, NoScript}
use Rattle.tmem_run.specs.declared.playing.Played.{Played}
use Rattle.tmem.specs.Commands.{IsWhyNotRead}
use Rattle.tmem_explain.specs.Limits.{IsNoScript}
use Rattle.tmem_run.specs.Printed.{PlaysFrom}
use Rattle.tmem_run.specs.Stored.{PlaysWhere, StopsPlaying, StopsWhere}
use Rattle.tmem_run.proofs.Laws.{Appends-keeps}

-- the text was not read
pub unread : (IsRead : List ℕ → Type 0) (e : ScriptError) → IsUnread e → IsWhyNotRead IsRead e
unread IsRead (Memory x) is = tt
unread IsRead Unreadable is = tt
unread IsRead NoScript is = absurd is

-- the text was read, and is refused
pub refused_text : (IsRead : List ℕ → Type 0) (e : ScriptError) (text : List ℕ) → IsRead text → (e ≡ NoScript → IsNoScript text) → IsWhyNotRead IsRead e
refused_text IsRead (Memory x) text is none = tt
refused_text IsRead Unreadable text is none = tt
refused_text IsRead NoScript text is none = (text, is, none refl)

-- what is flushed stays
pub PlaysFrom-keeps : (vars slots : ℕ) (found : State) (position : Position) (entries : List ScriptEntry) (end : WorldModel) (before mid after : Option (List ℕ)) → PlaysFrom vars slots found position entries end before mid → Keeps mid after → PlaysFrom vars slots found position entries end before after
PlaysFrom-keeps vars slots found position entries end before mid after so kept = record { text = so.text; prints = so.prints; appends = Appends-keeps before mid after _ so.appends kept }

pub PlaysWhere-keeps : (path : Option (List ℕ)) (device : Option Played) (vars slots : ℕ) (entries : List ScriptEntry) (before mid after : Option (List ℕ)) → PlaysWhere path device vars slots entries before mid → Keeps mid after → PlaysWhere path device vars slots entries before after
PlaysWhere-keeps None device vars slots entries before mid after so kept = (so.0, PlaysFrom-keeps vars slots (first_state vars) first_position entries so.0 before mid after so.1 kept)
PlaysWhere-keeps (Some path) None vars slots entries before mid after so kept = absurd so
PlaysWhere-keeps (Some path) (Some device) vars slots entries before mid after so kept = (
  so.0,
  λ premise.
      let it = (so.1 premise).1 in (
        (so.1 premise).0,
        record {
          found = it.found;
          position = it.position;
          stands = it.stands;
          end = it.end;
          played = PlaysFrom-keeps vars slots it.found it.position entries it.end before mid after it.played kept;
          left = it.left;
          stored = λ h store. let with = it.stored h store in (with.0, with.1, Appends-keeps before mid after with.0 with.2 kept);
        },
      ),
)

-- a script that was played to its end, and then the output failed
pub output_stops : (path : Option (List ℕ)) (device : Option Played) (vars slots : ℕ) (entries : List ScriptEntry) (before after : Option (List ℕ)) → PlaysWhere path device vars slots entries before after → StopsWhere path device vars slots entries Output
output_stops None device vars slots entries before after so = inl refl
output_stops (Some path) None vars slots entries before after so = absurd so
output_stops (Some path) (Some device) vars slots entries before after so = (
  so.0,
  inl (refl, λ h store premise. let it = (so.1 premise).1.stored h store in (entries, it.0, ([], sym (append-nil entries)), it.1)),
)

-- with a path, a script that was played to its end hands a device back
pub hands_back : (path : Option (Bor (List ℕ))) (device : Option Played) (vars slots : ℕ) (entries : List ScriptEntry) (before after : Option (List ℕ)) → IsSome path → PlaysWhere (option_map (λ (t : Bor (List ℕ)). t.now) path) device vars slots entries before after → device ≡ None → ⊥
hands_back None device vars slots entries before after some so none = absurd (false≢true some)
hands_back (Some path) None vars slots entries before after some so none = so
hands_back (Some path) (Some device) vars slots entries before after some so none = absurd (none-some device (sym none))

-- what stops a script that was read has status 1
stops_with_one_on : (path : Option (List ℕ)) (left : Option Played) (vars slots : ℕ) (entries : List ScriptEntry) (f : ProgramFailure) → StopsWhere path left vars slots entries f → status_of f ≡ 1
stops_with_one_on None left vars slots entries f why = elim why [
  | inl output ↦ ap status_of output
  | inr refused ↦ elim refused [ inl memory ↦ ap status_of memory | inr device ↦ ap status_of device ]
]
stops_with_one_on (Some path) None vars slots entries f why = elim why [ inl memory ↦ ap status_of memory | inr device ↦ ap status_of device ]
stops_with_one_on (Some path) (Some it) vars slots entries f why = elim why.1 [ inl output ↦ ap status_of output.0 | inr refused ↦ ap status_of refused.1 ]

pub stops_with_one : (path : Option (List ℕ)) (left : Option Played) (vars slots : ℕ) (entries : List ScriptEntry) (f : ProgramFailure) → StopsPlaying path left vars slots entries f → status_of f ≡ 1
stops_with_one path left vars slots entries f why = elim why [
  | inl geometry ↦ ap status_of geometry.0
  | inr stops ↦ stops_with_one_on path left vars slots entries f stops.1
]
