-- Where something is told to be wrong.
use Rattle.std.proofs.Common.{◌≡◌, ◌<◌, ℕ, List, length, Option, Some, None, Result, Ok, Err, IfOk, IfSome, subst}
use Rattle.tmem_fault.specs.declared.fault.Fault.TheVariants.{Geometry}
use Rattle.tmem_parts.specs.declared.wrong.FormatFlaw.TheVariants.{Ends}
use Rattle.tmem_parts.specs.declared.wrong.WrongByte.{WrongByte}
use Rattle.tmem_record.specs.Layout.{end_at}
use Rattle.tmem_show.specs.Refusals.{IsFoundWrong, IsPlacedBehind, IsPlacedIn}
use Rattle.tmem_show.specs.declared.shown.OpeningResult.{OpeningResult}
use Rattle.tmem_show.specs.declared.shown.OpeningResult.TheVariants.{Refused}
use Rattle.tmem_show.specs.declared.refusal.Place.{Place}
use Rattle.tmem_show.specs.declared.refusal.Place.TheVariants.{In, Before}
use Rattle.tmem_show.specs.declared.refusal.Refusal.{Refusal}

-- behind the end of a store that is cut off, an opening finds no more
abbrev pub EndsThere : ℕ → OpeningResult → Type 0
EndsThere size found = found ≡ Refused Geometry (record { at = size; why = Ends })

pub placed_behind : (vars slots size : ℕ) (c : List ℕ) (found : OpeningResult) (place : Place) → (length c < end_at vars slots → EndsThere size found) → IsPlacedIn vars found place → IsPlacedBehind vars slots size c place
placed_behind vars slots size c found (In there wrong) cut placed =
    (placed.0, λ short. subst (λ (o : OpeningResult). IsFoundWrong o wrong) (cut short) placed.1)
placed_behind vars slots size c found (Before n wrong) cut placed = absurd placed

-- the same of what is told
pub all_placed_behind : (vars slots size : ℕ) (c : List ℕ) (found : OpeningResult) (told : Option Refusal) → (length c < end_at vars slots → EndsThere size found) → IfSome told (λ refusal. IsPlacedIn vars found refusal.place) → IfSome told (λ refusal. IsPlacedBehind vars slots size c refusal.place)
all_placed_behind vars slots size c found None cut placed = tt
all_placed_behind vars slots size c found (Some refusal) cut placed =
    placed_behind vars slots size c found refusal.place cut placed

-- what follows for each
pub some_so : {X : Type 0} (P Q : X → Type 0) (o : Option X) → ((x : X) → P x → Q x) → IfSome o P → IfSome o Q
some_so P Q None each has = tt
some_so P Q (Some x) each has = each x has

pub ok_so : {X E : Type 0} (P Q : X → Type 0) (r : Result X E) → ((x : X) → P x → Q x) → IfOk r P → IfOk r Q
ok_so P Q (Ok x) each has = each x has
ok_so P Q (Err e) each has = tt
