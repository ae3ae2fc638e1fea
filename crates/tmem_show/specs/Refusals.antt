-- What an opening of a store is told to find, and where that is.
use Rattle.std.specs.Prelude.{◌≡◌, ◌⊎◌, ◌<◌, ◌≤◌, ◌+◌, ℕ, true, false, Bool, List, length, Option, Some, None}
use Rattle.tmem_effect.specs.State.{State}
use Rattle.tmem_parts.specs.Block.{IsBlock, IsBlockWrong, IsNoBlock}
use Rattle.tmem_parts.specs.Parts.{IsStateFound, IsWhyRefused}
use Rattle.tmem_parts.specs.declared.wrong.FormatFlaw.TheVariants.{Ends}
use Rattle.tmem_parts.specs.declared.wrong.WrongByte.{WrongByte}
use Rattle.tmem_record.specs.Layout.{end_at, image_at, slot_at}
use Rattle.tmem_state.specs.declared.version.Version.{Version}
use Rattle.tmem_show.specs.declared.shown.OpeningResult.{OpeningResult}
use Rattle.tmem_show.specs.declared.shown.OpeningResult.TheVariants as opening
use Rattle.tmem_show.specs.declared.refusal.Part.{Part}
use Rattle.tmem_show.specs.declared.refusal.Part.TheVariants as part
use Rattle.tmem_show.specs.declared.refusal.Place.{Place}
use Rattle.tmem_show.specs.declared.refusal.Place.TheVariants as place
use Rattle.tmem_show.specs.declared.refusal.Refusal.{Refusal}

-- an opening of these bytes with these numbers finds a state, or is refused by this fault
abbrev pub IsOpening : ℕ → ℕ → List ℕ → OpeningResult → Type 0
IsOpening vars slots c (opening.Found state) = IsStateFound vars slots c state
IsOpening vars slots c (opening.Refused fault wrong) = IsWhyRefused vars slots c fault

-- the same of what is told of it: nothing where a state is found
abbrev pub TellsOpening : ℕ → ℕ → List ℕ → Option Refusal → Type 0
TellsOpening vars slots c None = (state : State) × IsStateFound vars slots c state
TellsOpening vars slots c (Some refusal) = IsWhyRefused vars slots c refusal.fault

-- What is told of the bytes of a store: what an opening with the numbers of their block 0 finds; or, where that is none of a store, what
-- one with the least numbers that a store may have finds.
abbrev pub TellsOf : List ℕ → Option Refusal → Type 0
TellsOf c told =
    ((version : Version) × (vars : ℕ) × (slots : ℕ) × IsBlock version vars slots c × TellsOpening vars slots c told)
    ⊎ (IsNoBlock c × TellsOpening 1 2 c told)

-- a byte is in this part of a store of so many variables
abbrev pub IsInPart : ℕ → ℕ → Part → Type 0
IsInPart vars at part.Block = at < 512
IsInPart vars at (part.Image copy) = (copy < 2) × (image_at vars copy ≤ at) × (at < image_at vars (copy + 1))
IsInPart vars at (part.Slot k) = (slot_at vars k ≤ at) × (at < slot_at vars k + 4096)

-- what is told to be wrong is what an opening found to be, in the part where that is
abbrev pub IsFoundWrong : OpeningResult → WrongByte → Type 0
IsFoundWrong (opening.Found state) wrong = ⊥
IsFoundWrong (opening.Refused fault found) wrong = wrong ≡ found

abbrev pub IsPlacedIn : ℕ → OpeningResult → Place → Type 0
IsPlacedIn vars found (place.In there wrong) = IsInPart vars wrong.at there × IsFoundWrong found wrong
IsPlacedIn vars found (place.Before size wrong) = ⊥

-- Of a store with these numbers the part is told in which the byte is; and where it is cut off, that it ends behind so many bytes.
abbrev pub IsPlacedBehind : ℕ → ℕ → ℕ → List ℕ → Place → Type 0
IsPlacedBehind vars slots size c (place.In there wrong) =
    IsInPart vars wrong.at there × (length c < end_at vars slots → wrong ≡ record { at = size; why = Ends })
IsPlacedBehind vars slots size c (place.Before n wrong) = ⊥

-- Where block 0 is none of a store, what is wrong with it is told; and of bytes that are fewer than those of any store, their number.
abbrev pub IsPlacedBefore : ℕ → List ℕ → Place → Type 0
IsPlacedBefore size c (place.In there wrong) = (there ≡ part.Block) × IsBlockWrong wrong.why wrong.at c × (end_at 1 2 ≤ length c)
IsPlacedBefore size c (place.Before n wrong) = (n ≡ size) × IsBlockWrong wrong.why wrong.at c × (length c < end_at 1 2)

abbrev pub IsPlaced : ℕ → List ℕ → Place → Type 0
IsPlaced size c p =
    ((version : Version) × (vars : ℕ) × (slots : ℕ) × IsBlock version vars slots c × IsPlacedBehind vars slots size c p)
    ⊎ (IsNoBlock c × IsPlacedBefore size c p)

-- it is told of bytes that are fewer than those of any store
abbrev pub is_of_no_store : Place → Bool
is_of_no_store (place.In there wrong) = false
is_of_no_store (place.Before size wrong) = true
