-- What a value has to be for an event.
use Rattle.std.proofs.Common.{◌≡◌, ℕ, List, [], ◌∷◌, length, String, Global, codes, refl, sym, ap, ◌∙◌}
use Rattle.serde_json.proofs.Views.{members_len-members_view}
use Rattle.serde_json.specs.Data.{Data, object}
use Rattle.serde_json.specs.View.{members_view}
use Rattle.serde_json.specs.declared.value.Value.{Value}
use Rattle.tmem_event.specs.declared.event.Event.{Event}
use Rattle.tmem_event.specs.declared.event.Event.TheVariants as event
use Rattle.tmem_tree.specs.declared.tx.Tx.{Tx}
use Rattle.tmem_forms.specs.TxForms.{natural, array_of, tagged, tx_form, TxInRange}
use Rattle.tmem_script.specs.Scripts.{event_form, IsEvent}
use Rattle.tmem_forms.proofs.Laws.{key_of, apart, width}

-- no event has this form
abbrev pub NoEvent : Data → Type 0
NoEvent d = (event : Event) → ¬ IsEvent event d

pub no_begin : (body : Data) → ((attempt : ℕ) (tx : Tx) → TxInRange tx → ¬ (body ≡ array_of (natural attempt ∷ tx_form tx ∷ []))) → NoEvent (tagged (codes "begin") body)
no_begin body none (event.Begin attempt tx) is = let form = is.form in none attempt tx is.in_range cc
no_begin body none (event.Turn attempt) is = apart (codes "begin") _ refl (ap key_of is.form)
no_begin body none (event.Settle attempt) is = apart (codes "begin") _ refl (ap key_of is.form)
no_begin body none event.Flush is = apart (codes "begin") _ refl (ap key_of is.form)
no_begin body none event.Checkpoint is = apart (codes "begin") _ refl (ap key_of is.form)
no_begin body none event.Look is = apart (codes "begin") _ refl (ap key_of is.form)
no_begin body none event.Reopen is = apart (codes "begin") _ refl (ap key_of is.form)

event_width : (e : Event) → width (event_form e) ≡ 1
event_width (event.Begin attempt tx) = refl
event_width (event.Turn attempt) = refl
event_width (event.Settle attempt) = refl
event_width event.Flush = refl
event_width event.Checkpoint = refl
event_width event.Look = refl
event_width event.Reopen = refl

pub no_event_of_members : (d : Data) (es : List (String Global × Value)) → d ≡ object (members_view es) → ¬ (length es ≡ 1) → NoEvent d
no_event_of_members d es found many e is =
    many (sym (members_len-members_view es) ∙ ap width (sym found ∙ is.form) ∙ event_width e)
