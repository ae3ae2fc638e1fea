-- What a crash leaves of a journal's device, while a batch is made durable; and what opening finds of it.
use Rattle.std.proofs.Common.{◌≡◌, ◌≢◌, ◌⊎◌, inl, inr, ⊎_elim, ℕ, ◌≤◌, ◌^◌, List, refl, sym, ap, subst}
use Rattle.std.specs.Prelude.{Err, IsErrOf, ◌↔◌}
use Rattle.std.proofs.Math.Logic.{∥∥₁_map, ∥∥₁_elim, ∥∥₁_prop}
use Rattle.std.proofs.Props.{props}
use Rattle.tmem_disk.specs.Disk.{DeviceView, LeavesOnly, AtEachMoment}
use Rattle.tmem_fault.specs.declared.fault.Fault.{Fault}
use Rattle.tmem_fault.specs.declared.fault.Fault.TheVariants.{Memory, Device, Unknown, LogFull, NotFormatted, Damaged, Geometry, Spent}
use Rattle.tmem_gate.specs.Calls.{MadeBy}
use Rattle.tmem_gate.specs.Changes.{Either, Becomes, Meanwhile, call_outcome}
use Rattle.tmem_effect.specs.State.{State, fold, StaysWithin}
use Rattle.tmem_record.specs.Layout.{IsLayout}
use Rattle.tmem_redolog.specs.Appends.{BatchPlaced, WithoutBatch, WithBatch, IsAppendFault}
use Rattle.tmem_journal.specs.Contents.{Position, next_slot, HoldsState, ContentRepresents, ContentRepresentsEither, IsCurrent}
use Rattle.tmem_journal.specs.Calls.{doubted}
use Rattle.tmem_journal.specs.Journals.{IsOpeningFailure}
use Rattle.tmem_journal.specs.Refusals.{IsRefusedBy, IsWhyRead, IsWhyFound, IsWhy}
use Rattle.tmem_journal.proofs.Logged.{before_slot, state_without, state_with}
use Rattle.tmem_journal.proofs.Recovers.{current_at}
use Rattle.tmem_journal.proofs.Unique.{one_state_at_most}
use Rattle.tmem_journal.proofs.Refused.{none_where_refused}

-- a content that represents one state represents one of two
pub sure_either : {vars slots : ℕ} {p : Position} {s : State} (t : State) {d : DeviceView} → LeavesOnly d (ContentRepresents vars slots p s) → LeavesOnly d (ContentRepresentsEither vars slots s t)
sure_either {p = p} t sure = record { each = λ k c left. ∥∥₁_map (sure.each k c left) (λ held. (p, inl held)) }

-- where a slot is left, no append answers that none is
pub full_is_not : (f : Fault) (used slots : ℕ) → (used ≡ slots → ⊥) → IsErrOf {T = Unit {0}} (Err f) LogFull ↔ (used ≡ slots) → f ≡ LogFull → ⊥
full_is_not f used slots other full is = other (full.0 (ap (λ (e : Fault). Err e) is))

-- an append is refused by one of three
abbrev pub IsOneOfThree : Fault → Type 0
IsOneOfThree LogFull = Unit {0}
IsOneOfThree Device = Unit {0}
IsOneOfThree Unknown = Unit {0}
IsOneOfThree _ = ⊥

pub one_of_three : (f : Fault) → IsAppendFault f → IsOneOfThree f
one_of_three f which = ⊎_elim (λ full. subst IsOneOfThree (sym full) tt) (λ failed. ⊎_elim (λ device. subst IsOneOfThree (sym device) tt) (λ unknown. subst IsOneOfThree (sym unknown) tt) failed) which

-- a batch that goes into the first slot behind the log, where every crash left this state before
module _ (old new : DeviceView) (p : BatchPlaced) (copy : ℕ) (s : State) (count : s.count ≡ p.first) (within : StaysWithin s p.batch)
    (model : new.keeps_model → old.keeps_model) (sure : LeavesOnly old (ContentRepresents p.vars p.slots (before_slot copy p) s)) where
  abbrev here : Position
  here = before_slot copy p

  abbrev there : Position
  there = next_slot (before_slot copy p)

  without : old.keeps_model → (c : List ℕ) → MadeBy (WithoutBatch p) old c → ContentRepresents p.vars p.slots here s c
  without k c from = ∥∥₁_map (sure.each k from.0 from.1) (λ held. state_without p copy s count within from.0 c held from.2)

  with : old.keeps_model → (c : List ℕ) → MadeBy (WithBatch p) old c → ContentRepresents p.vars p.slots there (fold s p.batch) c
  with k c from = ∥∥₁_map (sure.each k from.0 from.1) (λ held. state_with p copy s count within from.0 c held from.2)

  either : old.keeps_model → (t : State) → t ≡ fold s p.batch → (c : List ℕ) → MadeBy (Either (WithoutBatch p) (WithBatch p)) old c → ContentRepresentsEither p.vars p.slots s t c
  either k t is c from = ∥∥₁_map (sure.each k from.0 from.1) (λ held. ⊎_elim
      (λ no. (here, inl (state_without p copy s count within from.0 c held no)))
      (λ yes. (there, inr (subst (λ (x : State). HoldsState p.vars p.slots there x c) (sym is) (state_with p copy s count within from.0 c held yes)))) from.2)

  -- once it is durable
  pub sure_ok : (t : State) → t ≡ fold s p.batch → LeavesOnly new (MadeBy (WithBatch p) old) → LeavesOnly new (ContentRepresents p.vars p.slots there t)
  sure_ok t is left = record { each = λ k c may. subst (λ (x : State). ContentRepresents p.vars p.slots there x c) (sym is) (with (model k) c (left.each k c may)) }

  -- where the flush failed
  pub sure_err : (t : State) (f : Fault) → IsAppendFault f → (f ≡ LogFull → ⊥) → t ≡ fold s (doubted f p.batch) → LeavesOnly new (Becomes (WithoutBatch p) (WithBatch p) old (call_outcome (Err f))) → LeavesOnly new (ContentRepresentsEither p.vars p.slots s t)
  sure_err t LogFull which other is left = absurd (other refl)
  sure_err t Device which other is left = record { each = λ k c may. ∥∥₁_map (without (model k) c (left.each k c may)) (λ held. (here, inl held)) }
  sure_err t Unknown which other is left = record { each = λ k c may. either (model k) t is c (left.each k c may) }
  sure_err t f which other is left = absurd (one_of_three f which)

  -- each image that a crash leaves then is of version 2
  pub current_err : (f : Fault) → IsAppendFault f → (f ≡ LogFull → ⊥) → LeavesOnly new (Becomes (WithoutBatch p) (WithBatch p) old (call_outcome (Err f))) → LeavesOnly new (IsCurrent p.vars p.slots)
  current_err LogFull which other left = absurd (other refl)
  current_err Device which other left = record { each = λ k c may. current_at (without (model k) c (left.each k c may)) refl }
  current_err Unknown which other left = record {
    each = λ k c may.
        let from = left.each k c may in
        ⊎_elim (λ no. current_at (without (model k) c (from.0, from.1, no)) refl) (λ yes. current_at (with (model k) c (from.0, from.1, yes)) refl) from.2;
  }
  current_err f which other left = absurd (one_of_three f which)

  -- while it is made durable
  pub moments_ok : (t t' t'' : State) → t ≡ fold s p.batch → AtEachMoment old new (MadeBy (Either (WithoutBatch p) (WithBatch p)) old) → AtEachMoment old new (λ c. ∥ ContentRepresentsEither p.vars p.slots s t' c ⊎ ContentRepresentsEither p.vars p.slots t t'' c ∥₁)
  moments_ok t t' t'' is during = record {
    each = λ k c left.
        let from = during.each k c left in
        ∥∥₁_map (sure.each (model k) from.0 from.1) (λ held. ⊎_elim
        (λ no. inl ∣ (here, inl (state_without p copy s count within from.0 c held no)) ∣₁)
        (λ yes. inr ∣ (there, inl (subst (λ (x : State). HoldsState p.vars p.slots there x c) (sym is) (state_with p copy s count within from.0 c held yes))) ∣₁) from.2);
  }

  pub moments_err : (t t' : State) (f : Fault) → IsAppendFault f → (f ≡ LogFull → ⊥) → t ≡ fold s (doubted f p.batch) → AtEachMoment old new (Meanwhile (WithoutBatch p) (WithBatch p) old (call_outcome (Err f))) → AtEachMoment old new (λ c. ∥ ContentRepresentsEither p.vars p.slots s t' c ⊎ ContentRepresentsEither p.vars p.slots s t c ∥₁)
  moments_err t t' LogFull which other is during = absurd (other refl)
  moments_err t t' Device which other is during = record { each = λ k c left. ∣ inr (∥∥₁_map (without (model k) c (during.each k c left)) (λ held. (here, inl held))) ∣₁ }
  moments_err t t' Unknown which other is during = record { each = λ k c left. ∣ inr (either (model k) t is c (during.each k c left)) ∣₁ }
  moments_err t t' f which other is during = absurd (one_of_three f which)

-- where every crash left one of two states, and a content represents a state, it is one of them
module _ (vars slots : ℕ) (few : vars ≤ 2 ^ 16) where
  pub found_either : (p : Position) (n s t : State) (c : List ℕ) → ContentRepresents vars slots p n c → ContentRepresentsEither vars slots s t c → ∥ (n ≡ s) ⊎ (n ≡ t) ∥₁
  found_either p n s t c found either = ∥∥₁_elim found ∥∥₁_prop (λ held. ∥∥₁_map either (λ e. ⊎_elim
      (λ (one : HoldsState vars slots e.0 s c). inl (one_state_at_most vars slots few c p e.0 n s held one).1)
      (λ (two : HoldsState vars slots e.0 t c). inr (one_state_at_most vars slots few c p e.0 n t held two).1) e.1))

-- and it is refused by nothing but Spent
pub none_refused : (vars slots : ℕ) (f : Fault) (s t : State) (c : List ℕ) → IsLayout vars slots → f ≢ Spent → ContentRepresentsEither vars slots s t c → IsRefusedBy vars slots c f → ⊥
none_refused vars slots f s t c layout other either by = ∥∥₁_elim either (hlevel props) (λ e. ⊎_elim (λ one. none_where_refused vars slots layout c f other by e.0 s one) (λ two. none_where_refused vars slots layout c f other by e.0 t two) e.1)

-- why it was not opened then
pub wanting : (f : Fault) (P : Fault → Type 0) → ((g : Fault) → g ≢ Spent → P g → ⊥) → IsWhyFound P f → IsOpeningFailure f
wanting Device P none why = inr (inl refl)
wanting Spent P none why = inr (inr refl)
wanting NotFormatted P none why = absurd (none NotFormatted (λ is. cc) why)
wanting Damaged P none why = absurd (none Damaged (λ is. cc) why)
wanting Geometry P none why = absurd (none Geometry (λ is. cc) why)
wanting _ P none why = absurd why

-- memory was not wanted there
pub not_wanted : (f : Fault) (P : Fault → Type 0) → IsWhyFound P f → f ≡ Memory → ⊥
not_wanted f P why is = subst (IsWhyFound P) is why

-- why it was not opened, said under more premises
pub why_fits : (f : Fault) (P Q : Fault → Type 0) → ((g : Fault) → P g → Q g) → IsWhyFound P f → IsWhy Q f
why_fits Device P Q more why = tt
why_fits Spent P Q more why = more Spent why
why_fits NotFormatted P Q more why = more NotFormatted why
why_fits Damaged P Q more why = more Damaged why
why_fits Geometry P Q more why = more Geometry why
why_fits _ P Q more why = absurd why

-- why no state was found is why none was recovered
pub found_why : (f : Fault) (P : Fault → Type 0) → IsWhyRead P f → IsWhyFound P f
found_why Device P why = why
found_why NotFormatted P why = why
found_why Damaged P why = why
found_why Geometry P why = why
found_why _ P why = absurd why
