-- Scripts on a store that was just made.
use Rattle.std.proofs.Common.{◌≡◌, ◌≤◌, ℕ, List, Option, Some, ◌⊎◌, inl, inr, ⊎_elim, arith, refl, sym, ap, subst, ◌∙◌}
use Rattle.std.proofs.lemmas.Option.{none-some}
use Rattle.tmem_disk.specs.Disk.{DeviceView}
use Rattle.tmem_fault.specs.declared.fault.Fault.{Fault}
use Rattle.tmem_fault.specs.declared.fault.Fault.TheVariants as fault
use Rattle.tmem_effect.specs.State.{State, first_state}
use Rattle.tmem_state.specs.declared.version.Version.TheVariants.{One, Two}
use Rattle.tmem_record.specs.Layout.{IsLayout, end_at}
use Rattle.tmem_journal.specs.Calls.{FitsOn}
use Rattle.tmem_journal.specs.Laws.{RepresentsOne, RefusedRepresentsNone, SpentIsAtLast}
use Rattle.tmem_journal.specs.Contents.{Position, first_position, migrated, ContentRepresents}
use Rattle.tmem_core.specs.Opening.{opening_fault}
use Rattle.tmem_script.specs.declared.script.ScriptEntry.{ScriptEntry}
use Rattle.tmem_opening.specs.Opening.{OpeningRefused}
use Rattle.tmem_opening.proofs.Laws.{only_failed, spent_content}
use Rattle.tmem_run.specs.Builtin.{builtin_program}
use Rattle.tmem_run.specs.Printed.{PlaysFrom, PlaysScript}
use Rattle.tmem_run.specs.Stored.{PlaysOnStore}
use Rattle.tmem_run.proofs.Opening.{first_has_no_fault}

module _ (one : RepresentsOne) (vars slots : ℕ) (fits : IsLayout vars slots) (old new : DeviceView) (empty : ContentRepresents vars slots first_position (first_state vars) old.seen) where
  -- a script on a device that represented the first state is one on an empty store
  pub PlaysScript-of : (entries : List ScriptEntry) (before after : Option (List ℕ)) → PlaysOnStore vars slots entries old new before after → PlaysScript vars slots entries before after
  PlaysScript-of entries before after it =
      let same = one vars slots it.stands.position first_position it.found (first_state vars) old.seen (omega (arith, fits.vars_fit)) it.stands.stands empty in
      let begins : it.position ≡ first_position = it.stands.goes_on ∙ ap migrated same.0 in
      (it.end, subst (λ (s : State). PlaysFrom vars slots s first_position entries it.end before after) same.1 (subst (λ (p : Position). PlaysFrom vars slots it.found p entries it.end before after) begins it.played))

  -- and its opening fails by memory or the device, since it is of version 2
  pub first_stops : (none : RefusedRepresentsNone) (last : SpentIsAtLast) (f : Fault) → end_at vars slots ≤ old.capacity → new.keeps_model → OpeningRefused (λ p. p ≡ builtin_program vars) vars slots old f new → (f ≡ fault.Memory) ⊎ (f ≡ fault.Device)
  first_stops none last f room premise it =
      let on : FitsOn vars slots old.capacity = record { layout = fits; room = room } in
      ⊎_elim (λ memory. inl memory) (⊎_elim (λ device. inr device) (λ spent.
      let two : Two ≡ One = (last vars slots first_position (first_state vars) old.seen (omega (arith, fits.vars_fit)) (spent_content it spent premise on) empty).version in cc))
      (only_failed it
      (λ g other by. none vars slots first_position (first_state vars) old.seen g other fits (by premise on) empty)
      (λ u.
      let was = (u.2 premise).was in
      let same = (one vars slots was.position first_position u.1 (first_state vars) old.seen (omega (arith, fits.vars_fit)) was.stands empty).1 in
      let told = subst (λ (s : State). opening_fault (builtin_program vars) s ≡ Some f) same (u.3 (builtin_program vars) refl).0 in
      none-some f (sym (first_has_no_fault (builtin_program vars) vars) ∙ told)))
