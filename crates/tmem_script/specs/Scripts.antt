-- The JSON form of a script, of its entries and of its events: each has exactly one.
use Rattle.std.specs.Prelude.{◌≡◌, ℕ, List, [], ◌∷◌, map, codes, All, IsUtf8, Some}
use Rattle.serde_json.specs.Data.{Data, string, object, member, no_members}
use Rattle.serde_json.specs.Read.{read}
use Rattle.tmem_event.specs.Events.{NamesAttempt}
use Rattle.tmem_event.specs.declared.event.Event.{Event}
use Rattle.tmem_event.specs.declared.event.Event.TheVariants as event
use Rattle.tmem_forms.specs.TxForms.{natural, array_of, tagged, tx_form, TxInRange, IsShort}
use Rattle.tmem_script.specs.declared.script.ScriptEntry.{ScriptEntry}
use Rattle.tmem_script.specs.declared.script.ScriptEntry.TheVariants as entry

-- the form of an event
abbrev pub event_form : Event → Data
event_form (event.Begin attempt tx) = tagged (codes "begin") (array_of (natural attempt ∷ tx_form tx ∷ []))
event_form (event.Turn attempt) = tagged (codes "turn") (natural attempt)
event_form (event.Settle attempt) = tagged (codes "settle") (natural attempt)
event_form event.Flush = string (codes "flush")
event_form event.Checkpoint = string (codes "checkpoint")
event_form event.Look = string (codes "look")
event_form event.Reopen = string (codes "reopen")

-- the transaction of an event is in range, if it has one
abbrev pub EventInRange : Event → Type 0
EventInRange (event.Begin attempt tx) = TxInRange tx
EventInRange (event.Turn attempt) = Unit {0}
EventInRange (event.Settle attempt) = Unit {0}
EventInRange event.Flush = Unit {0}
EventInRange event.Checkpoint = Unit {0}
EventInRange event.Look = Unit {0}
EventInRange event.Reopen = Unit {0}

-- this value is the form of this event, which names an attempt that a world has
pub record IsEvent (event : Event) (d : Data) : Type 0 where
  pub form : d ≡ event_form event
  pub attempt : NamesAttempt event
  pub in_range : EventInRange event

-- the form of an entry
abbrev pub entry_form : ScriptEntry → Data
entry_form (entry.Event playable) = event_form playable.event
entry_form entry.Show = string (codes "show")

-- The transaction of an entry's event is in range. The attempt is one that a world has in each entry, by its type.
abbrev pub EntryInRange : ScriptEntry → Type 0
EntryInRange (entry.Event playable) = EventInRange playable.event
EntryInRange entry.Show = Unit {0}

-- this value is the form of this entry
pub record IsEntry (entry : ScriptEntry) (d : Data) : Type 0 where
  pub form : d ≡ entry_form entry
  pub in_range : EntryInRange entry

-- This value is the form of a script: an object with these three keys and no other. The members of an object stand in
-- the order of their keys here, in whatever order the text has them.
pub record IsScript (vars slots : ℕ) (entries : List ScriptEntry) (d : Data) : Type 0 where
  pub form : d ≡ object (member (codes "events") (array_of (map entry_form entries))
      (member (codes "slots") (natural slots) (member (codes "vars") (natural vars) no_members)))
  pub vars_fit : IsShort vars
  pub slots_fit : IsShort slots
  pub in_range : All EntryInRange entries

-- the text is JSON in UTF-8, and its value is the form of this script
pub record IsScriptText (vars slots : ℕ) (entries : List ScriptEntry) (text : List ℕ) : Type 0 where
  pub utf8 : IsUtf8 text
  pub value : Data
  pub reads : read text ≡ Some value
  pub script : IsScript vars slots entries value
