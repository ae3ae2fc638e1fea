-- What follows from the definitions of a journal alone: how an opening goes on, and which states it keeps.
use Rattle.std.proofs.Common.{◌≡◌, ℕ, ◌≤◌, ◌+◌, ◌*◌, ◌^◌, List, sym, ◌∙◌, ap, subst, arith}
use Rattle.std.proofs.Math.Logic.{∥∥₁_map, ∥∥₁_elim, ∥∥₁_prop}
use Rattle.std.proofs.Props.{props}
use Rattle.tmem_disk.specs.Disk.{DeviceView, LeavesOnly}
use Rattle.tmem_disk.proofs.Laws.{AtEachMoment-more}
use Rattle.tmem_gate.proofs.Laws.{WritesWithin-wider}
use Rattle.tmem_record.specs.Layout.{image_at, image_size, slot_at}
use Rattle.tmem_effect.specs.State.{State}
use Rattle.tmem_state.specs.declared.version.Version.{Version}
use Rattle.tmem_state.specs.declared.version.Version.TheVariants.{Two}
use Rattle.tmem_journal.specs.Mended.{Mends, MendsDevice, Recovers, RecoversDevice, IsFoundAt, SameBesideCopy}
use Rattle.tmem_journal.specs.Contents.{Position, migrated_from, migrated, ContentRepresents, ContentRepresentsState, IsCurrent, NeedsNoMigration}
use Rattle.tmem_journal.proofs.Unique.{one_state_at_most}

-- a store of version 2 goes on where it stands
pub migrated-two : (p : Position) → p.version ≡ Two → migrated p ≡ p
migrated-two p is = ap (λ (v : Version). migrated_from v p) is

-- so what was found in one stands at the position that is answered
pub found_in_place : (vars slots : ℕ) (c : List ℕ) (s : State) (now : Position) → NeedsNoMigration vars slots c → IsFoundAt vars slots c s now → ContentRepresents vars slots now s c
found_in_place vars slots c s now current found =
    subst (λ (p : Position). ContentRepresents vars slots p s c) (sym (found.goes_on ∙ migrated-two found.position (current found.position s found.stands))) found.stands

-- a content that represents a state of version 2 represents none of version 1
pub needs_none : (vars slots : ℕ) → vars ≤ 2 ^ 16 → (p : Position) (s : State) (c : List ℕ) → p.version ≡ Two → ContentRepresents vars slots p s c → NeedsNoMigration vars slots c
needs_none vars slots few p s c is stands = λ q t other. ∥∥₁_elim stands (hlevel props) (λ held. ∥∥₁_elim other (hlevel props) (λ it.
    sym (ap (λ (x : Position). x.version) (one_state_at_most vars slots few c p q s t held it).0) ∙ is))

-- and it is current
pub current_at : {vars slots : ℕ} {p : Position} {s : State} {c : List ℕ} → ContentRepresents vars slots p s c → p.version ≡ Two → IsCurrent vars slots c
current_at {p = p} {s = s} stands two = ∥∥₁_map stands (λ held. (p, s, two, held))

-- so is each that a crash leaves
pub sure_current : {vars slots : ℕ} {p : Position} {s : State} {d : DeviceView} → LeavesOnly d (ContentRepresents vars slots p s) → p.version ≡ Two → LeavesOnly d (IsCurrent vars slots)
sure_current sure two = record { each = λ k c left. current_at (sure.each k c left) two }

-- each content recovers itself
pub Recovers-refl : (vars slots : ℕ) (c : List ℕ) → Recovers vars slots c c
Recovers-refl vars slots c = λ s stands. stands

pub Recovers-trans : (vars slots : ℕ) (a b c : List ℕ) → Recovers vars slots a b → Recovers vars slots b c → Recovers vars slots a c
Recovers-trans vars slots a b c first second = λ s stands. second s (first s stands)

-- what closed gates behind the log recovers each state
pub Recovers-mends : (vars slots : ℕ) (b c : List ℕ) → Mends vars slots b c → Recovers vars slots b c
Recovers-mends vars slots b c mends = λ s stands. ∥∥₁_elim stands ∥∥₁_prop (λ it. ∥∥₁_map (mends.states it.0 s ∣ it.1 ∣₁) (λ held. (it.0, held)))

-- what represents the one state of a content recovers it
pub Recovers-one : (vars slots : ℕ) → vars ≤ 2 ^ 16 → (p : Position) (s : State) (b c : List ℕ) → ContentRepresents vars slots p s b → ContentRepresentsState vars slots s c → Recovers vars slots b c
Recovers-one vars slots few p s b c found now = λ t stands. ∥∥₁_elim found ∥∥₁_prop (λ held. ∥∥₁_elim stands ∥∥₁_prop (λ it.
    subst (λ (x : State). ContentRepresentsState vars slots x c) (one_state_at_most vars slots few b p it.0 s t held it.1).1 now))

-- a device on which gates behind the log were closed keeps each state
pub RecoversDevice-mends : (vars slots : ℕ) (old new : DeviceView) → MendsDevice vars slots old new → RecoversDevice vars slots old new
RecoversDevice-mends vars slots old new mends = record {
  any_moment = AtEachMoment-more old new _ _ mends.any_moment (λ k c from. (from.0, from.1, Recovers-mends vars slots from.0 c from.2));
  seen = λ k. Recovers-mends vars slots old.seen new.seen (mends.seen k);
  elsewhere = WritesWithin-wider (slot_at vars 0) (4096 * slots) (image_at vars 0) (2 * image_size vars + 4096 * slots) (omega arith) (omega arith) old new mends.elsewhere;
}

-- what closed gates behind the log alone changes no byte beside a copy
pub SameBesideCopy-mends : (vars slots copy : ℕ) (b c : List ℕ) → Mends vars slots b c → SameBesideCopy vars slots copy b c
SameBesideCopy-mends vars slots copy b c mends = λ i beside none. mends.others i none

-- and a copy may be written then
pub SameBesideCopy-after : (vars slots copy : ℕ) (a b c : List ℕ) → Mends vars slots a b → SameBesideCopy vars slots copy b c → SameBesideCopy vars slots copy a c
SameBesideCopy-after vars slots copy a b c mends then = λ i beside none.
    then i beside (λ k below gate is. (mends.closed k below (record { not_open = λ was. none k below was is })).not_open gate) ∙ mends.others i none

-- the copy that a content chooses is one
pub one_copy : (vars slots : ℕ) → vars ≤ 2 ^ 16 → (p q : Position) (s t : State) (c : List ℕ) → ContentRepresents vars slots p s c → ContentRepresents vars slots q t c → p.copy ≡ q.copy
one_copy vars slots few p q s t c stands other = ∥∥₁_elim stands (hlevel props) (λ held. ∥∥₁_elim other (hlevel props) (λ it.
    ap (λ (x : Position). x.copy) (one_state_at_most vars slots few c p q s t held it).0))
