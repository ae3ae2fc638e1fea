-- What a crash leaves of a device, while an image of the next generation is written to the other copy, and while the log
-- is emptied behind it.
use Rattle.std.proofs.Common.{◌≡◌, ◌⊎◌, inl, inr, ⊎_elim, ℕ, ℤ, ◌+◌, ◌*◌, ◌≤◌, ◌<◌, ◌^◌, List, [], bit_or, refl, sym, ◌∙◌, ap, subst, arith}
use Rattle.std.specs.Prelude.{Result, IsErrOf, slice_get}
use Rattle.std.proofs.Math.Logic.{∥∥₁_map}
use Rattle.tmem_disk.specs.Disk.{DeviceView, LeavesOnly, AtEachMoment, Elapses, IsSynced, SameOutside}
use Rattle.tmem_fault.specs.declared.fault.Fault.{Fault}
use Rattle.tmem_fault.specs.declared.fault.Fault.TheVariants.{Device}
use Rattle.tmem_disk.proofs.Laws.{AtEachMoment-trans, LeavesOnly-more, Rewritten-keeps, slice_get-before, slice_get-after}
use Rattle.tmem_gate.specs.Calls.{MadeBy, WritesWithin}
use Rattle.tmem_gate.specs.Changes.{ChangeOutcome, WasMade, NotMade, InDoubt, NotBegun, Either, Becomes, Meanwhile, call_outcome}
use Rattle.tmem_gate.specs.Gate.{IsOpenOver}
use Rattle.tmem_gate.proofs.Laws.{open_before, open_after, WritesWithin-wider, WritesWithin-trans}
use Rattle.tmem_record.specs.Layout.{pages_of, image_at, image_size, slot_at}
use Rattle.tmem_record.specs.Stale.{IsClosedOrStale}
use Rattle.tmem_effect.specs.State.{State, fold, IsWithin}
use Rattle.tmem_effect.specs.declared.effect.Effect.{Effect}
use Rattle.tmem_state.specs.Versions.{version_number}
use Rattle.tmem_state.specs.declared.version.Version.{Version}
use Rattle.tmem_state.specs.declared.version.Version.TheVariants.{One, Two}
use Rattle.tmem_image.specs.Image.{HoldsImage, other_copy}
use Rattle.tmem_image.specs.Spare.{ImagePlaced, GateIsSynced, WithoutImage, WithImage}
use Rattle.tmem_image.specs.Spelling.{image_body}
use Rattle.tmem_image.specs.Pages.{has_page, is_page_changed, HoldsOthers, pages_at}
use Rattle.tmem_image.proofs.Laws.{front_of_image, HoldsOthers-before, HoldsOthers-after, HoldsOthers-fold, HoldsOthers-image}
use Rattle.tmem_redolog.specs.Closes.{bytes_from, Keeps}
use Rattle.tmem_redolog.specs.Log.{HoldsLog}
use Rattle.tmem_redolog.proofs.Laws.{HoldsLog-front, emptied, LogWithin-last}
use Rattle.tmem_journal.specs.BlockSpelling.{block_body}
use Rattle.tmem_journal.specs.Mended.{SameBesideCopy}
use Rattle.tmem_journal.specs.Contents.{Position, next_image, HoldsState, ContentRepresents, ContentRepresentsState, ContentRepresentsEither, IsCurrent}
use Rattle.tmem_journal.proofs.Lengths.{length-block_body}
use Rattle.tmem_journal.proofs.Logged.{copy_cases, copy_below, other_one, image_before, state_closed}
use Rattle.tmem_journal.proofs.Recovers.{current_at}

-- on a synced device each gate is settled
pub settled : {at : ℕ} (d : DeviceView) → IsSynced d → GateIsSynced at d
settled {at} d synced = record { each = λ k c left. ap (λ (l : List ℕ). slice_get l at) (synced k c left) }

-- one copy stands in front of the other, or behind it
apart : (vars copy : ℕ) → copy ≤ 1 → (image_at vars copy + image_size vars ≤ image_at vars (other_copy copy)) ⊎ (image_at vars (other_copy copy) + image_size vars ≤ image_at vars copy)
apart vars copy one = ⊎_elim
    (λ first. inl (subst (λ (k : ℕ). image_at vars k + image_size vars ≤ image_at vars (other_copy k)) (sym first) (omega arith)))
    (λ second. inr (subst (λ (k : ℕ). image_at vars (other_copy k) + image_size vars ≤ image_at vars k) (sym second) (omega arith)))
    (copy_cases copy one)

behind_block : (vars copy : ℕ) → 512 ≤ image_at vars copy
behind_block vars copy = omega arith

-- what is written in one copy changes neither block 0, nor the image in the other, nor the log
module _ (vars slots copy : ℕ) (one : copy ≤ 1) (b c : List ℕ) (same : SameOutside (image_at vars (other_copy copy)) (image_size vars) b c) where
  block_aside : (version : Version) → IsOpenOver 0 (block_body version vars slots) b → IsOpenOver 0 (block_body version vars slots) c
  block_aside version block = open_before (image_at vars (other_copy copy)) (image_size vars) 0 (block_body version vars slots) b c same (omega (arith, behind_block vars (other_copy copy), length-block_body version vars slots)) block

  image_aside : (version : Version) (generation : ℕ) (image : State) → HoldsImage version vars copy generation image b → HoldsImage version vars copy generation image c
  image_aside version generation image holds = ⊎_elim
      (λ before. image_before version vars copy (image_at vars (other_copy copy)) (image_size vars) generation image b c same before holds)
      (λ after. record {
        number = holds.number;
        fits = holds.fits;
        cell = open_after (image_at vars (other_copy copy)) (image_size vars) (image_at vars copy) (image_body version vars generation image) b c same after holds.cell;
      })
      (apart vars copy one)

  log_aside : (version : Version) (generation : ℕ) (image : State) (batches : List (List Effect)) → HoldsLog version vars slots generation image batches b → HoldsLog version vars slots generation image batches c
  log_aside version generation image batches log = HoldsLog-front vars (image_at vars (other_copy copy)) (image_size vars) b c same (copy_below vars (other_copy copy) (other_one copy)) version slots generation image batches log

-- no version is later than the one that is written
at_most_two : (version : Version) → version_number version ≤ version_number Two
at_most_two One = omega arith
at_most_two Two = omega arith

-- the image of a state that goes next
abbrev pub next_placed : ℕ → Position → State → ImagePlaced
next_placed vars p s = record { vars = vars; copy = other_copy p.copy; generation = p.generation + 1; state = s }

module _ (vars slots : ℕ) (p : Position) (s : State) (b c : List ℕ) (stands : HoldsState vars slots p s b) where
  -- without it the old image is chosen, with its log
  kept_state : WithoutImage (next_placed vars p s) b c → HoldsState vars slots p s c
  kept_state without = record {
    image = stands.image;
    batches = stands.batches;
    holds = record {
      block_version = stands.holds.block_version;
      allowed = stands.holds.allowed;
      block = block_aside vars slots p.copy stands.holds.one b c without.elsewhere stands.holds.block_version stands.holds.block;
      one = stands.holds.one;
      chosen = image_aside vars slots p.copy stands.holds.one b c without.elsewhere p.version p.generation stands.image stands.holds.chosen;
      other = without.stale p.generation stands.holds.other;
      log = log_aside vars slots p.copy stands.holds.one b c without.elsewhere p.version p.generation stands.image stands.batches stands.holds.log;
    };
    is_used = stands.is_used;
    is_state = stands.is_state;
  }

  back : p.copy ≡ other_copy (other_copy p.copy)
  back = let one = stands.holds.one in omega (arith, one)

  -- with it that is chosen, and no slot carries its generation
  written_state : p.generation + 1 < 2 ^ 64 → WithImage (next_placed vars p s) b c → HoldsState vars slots (next_image p) s c
  written_state fits with =
      let was = image_aside vars slots p.copy stands.holds.one b c with.elsewhere p.version p.generation stands.image stands.holds.chosen in
      let head = front_of_image p.version vars p.generation (image_at vars p.copy) stands.image c was.cell in
      let less : p.generation < p.generation + 1 = omega arith in
      let stale : IsClosedOrStale (p.generation + 1) (image_at vars p.copy) c = inr (p.generation, less, head) in
      let within : IsWithin s = subst (λ (t : State). IsWithin t) stands.is_state (LogWithin-last stands.image stands.batches stands.holds.log.within) in
      let log = log_aside vars slots p.copy stands.holds.one b c with.elsewhere p.version p.generation stands.image stands.batches stands.holds.log in
      record {
        image = s;
        batches = [];
        holds = record {
          block_version = stands.holds.block_version;
          allowed = at_most_two stands.holds.block_version;
          block = block_aside vars slots p.copy stands.holds.one b c with.elsewhere stands.holds.block_version stands.holds.block;
          one = other_one p.copy;
          chosen = with.image;
          other = subst (λ (k : ℕ). IsClosedOrStale (p.generation + 1) (image_at vars k) c) back stale;
          log = emptied p.version Two vars slots p.generation (p.generation + 1) stands.image s stands.batches c less fits within log;
        };
        is_used = refl;
        is_state = refl;
      }

-- a content that represents one state represents one of two
pub state_either : {vars slots : ℕ} {s : State} (t : State) {d : DeviceView} → LeavesOnly d (ContentRepresentsState vars slots s) → LeavesOnly d (ContentRepresentsEither vars slots s t)
state_either t stands = record { each = λ k c left. ∥∥₁_map (stands.each k c left) (λ it. (it.0, inl it.1)) }

-- an image that is written where every crash left this state before
module _ (vars slots : ℕ) (p : Position) (s : State) (fits : p.generation + 1 < 2 ^ 64) (old mid : DeviceView) (model : mid.keeps_model → old.keeps_model) (sure : LeavesOnly old (ContentRepresents vars slots p s)) where
  abbrev next : ImagePlaced
  next = next_placed vars p s

  without : old.keeps_model → (c : List ℕ) → MadeBy (WithoutImage next) old c → ContentRepresentsState vars slots s c
  without k c from = ∥∥₁_map (sure.each k from.0 from.1) (λ held. (p, kept_state vars slots p s from.0 c held from.2))

  with : old.keeps_model → (c : List ℕ) → MadeBy (WithImage next) old c → ContentRepresents vars slots (next_image p) s c
  with k c from = ∥∥₁_map (sure.each k from.0 from.1) (λ held. written_state vars slots p s from.0 c held fits from.2)

  either : old.keeps_model → (c : List ℕ) → MadeBy (Either (WithoutImage next) (WithImage next)) old c → ContentRepresentsState vars slots s c
  either k c from = ⊎_elim
      (λ no. without k c (from.0, from.1, no))
      (λ yes. ∥∥₁_map (with k c (from.0, from.1, yes)) (λ held. (next_image p, held)))
      from.2

  -- whatever was answered
  before : old.keeps_model → (c : List ℕ) → old.may_leave c → ContentRepresentsState vars slots s c
  before k c may = ∥∥₁_map (sure.each k c may) (λ held. (p, held))

  pub after_writing : (o : ChangeOutcome) → LeavesOnly mid (Becomes (WithoutImage next) (WithImage next) old o) → LeavesOnly mid (ContentRepresentsState vars slots s)
  after_writing WasMade puts = record { each = λ k c may. ∥∥₁_map (with (model k) c (puts.each k c may)) (λ held. (next_image p, held)) }
  after_writing NotMade puts = record { each = λ k c may. without (model k) c (puts.each k c may) }
  after_writing InDoubt puts = record { each = λ k c may. either (model k) c (puts.each k c may) }
  after_writing NotBegun puts = record { each = λ k c may. before (model k) c (puts.each k c may) }

  -- whatever was answered, the image is of version 2, where the old one was
  without_current : p.version ≡ Two → old.keeps_model → (c : List ℕ) → MadeBy (WithoutImage next) old c → IsCurrent vars slots c
  without_current two k c from = ∥∥₁_map (sure.each k from.0 from.1) (λ held. (p, s, two, kept_state vars slots p s from.0 c held from.2))

  with_current : old.keeps_model → (c : List ℕ) → MadeBy (WithImage next) old c → IsCurrent vars slots c
  with_current k c from = current_at (with k c from) refl

  pub current_writing : p.version ≡ Two → (o : ChangeOutcome) → LeavesOnly mid (Becomes (WithoutImage next) (WithImage next) old o) → LeavesOnly mid (IsCurrent vars slots)
  current_writing two WasMade puts = record { each = λ k c may. with_current (model k) c (puts.each k c may) }
  current_writing two NotMade puts = record { each = λ k c may. without_current two (model k) c (puts.each k c may) }
  current_writing two InDoubt puts = record {
    each = λ k c may.
        let from = puts.each k c may in
        ⊎_elim (λ no. without_current two (model k) c (from.0, from.1, no)) (λ yes. with_current (model k) c (from.0, from.1, yes)) from.2;
  }
  current_writing two NotBegun puts = record { each = λ k c may. current_at (sure.each (model k) c (puts.each k c may)) two }

  -- where it was not written, the old image is chosen
  pub not_written : (r : Result (Unit {0}) Fault) → IsErrOf r Device → LeavesOnly mid (Becomes (WithoutImage next) (WithImage next) old (call_outcome r)) → LeavesOnly mid (ContentRepresents vars slots p s)
  not_written r is puts =
      let none : LeavesOnly mid (MadeBy (WithoutImage next) old) = subst (λ (x : Result (Unit {0}) Fault). LeavesOnly mid (Becomes (WithoutImage next) (WithImage next) old (call_outcome x))) is puts in
      record { each = λ k c may. let from = none.each k c may in ∥∥₁_map (sure.each (model k) from.0 from.1) (λ held. kept_state vars slots p s from.0 c held from.2) }

  -- while it is written
  pub while_writing : (o : ChangeOutcome) → AtEachMoment old mid (Meanwhile (WithoutImage next) (WithImage next) old o) → AtEachMoment old mid (ContentRepresentsState vars slots s)
  while_writing WasMade during = record { each = λ k c left. either (model k) c (during.each k c left) }
  while_writing NotMade during = record { each = λ k c left. without (model k) c (during.each k c left) }
  while_writing InDoubt during = record { each = λ k c left. either (model k) c (during.each k c left) }
  while_writing NotBegun during = record { each = λ k c left. before (model k) c (during.each k c left) }

  -- and then the log is emptied
  module _ (new : DeviceView) (model_now : new.keeps_model → mid.keeps_model) (puts : LeavesOnly mid (MadeBy (WithImage next) old)) where
    by_keeps : mid.keeps_model → (c : List ℕ) → MadeBy (Keeps vars slots (p.generation + 1) 0) mid c → ContentRepresents vars slots (next_image p) s c
    by_keeps k c from = ∥∥₁_map (with (model k) from.0 (puts.each k from.0 from.1)) (λ held. state_closed vars slots (next_image p) s from.0 c from.2 held)

    any_by_keeps : mid.keeps_model → (c : List ℕ) → MadeBy (Keeps vars slots (p.generation + 1) 0) mid c → ContentRepresentsState vars slots s c
    any_by_keeps k c from = ∥∥₁_map (by_keeps k c from) (λ held. (next_image p, held))

    pub sure_emptied : LeavesOnly new (MadeBy (Keeps vars slots (p.generation + 1) 0) mid) → LeavesOnly new (ContentRepresents vars slots (next_image p) s)
    sure_emptied left = record { each = λ k c may. by_keeps (model_now k) c (left.each k c may) }

    pub after_emptying : LeavesOnly new (MadeBy (Keeps vars slots (p.generation + 1) 0) mid) → LeavesOnly new (ContentRepresentsState vars slots s)
    after_emptying left = record { each = λ k c may. any_by_keeps (model_now k) c (left.each k c may) }

    pub while_emptying : (mid.keeps_model → old.moment ≤ mid.moment) → AtEachMoment old mid (ContentRepresentsState vars slots s) → Elapses mid new (MadeBy (Keeps vars slots (p.generation + 1) 0) mid) → AtEachMoment old new (ContentRepresentsState vars slots s)
    while_emptying later first time = AtEachMoment-trans old mid new (ContentRepresentsState vars slots s) (MadeBy (Keeps vars slots (p.generation + 1) 0) mid) model_now later first time (λ k c from. any_by_keeps (model_now k) c from)

-- an image copy stands between block 0 and the end
pub copy_within : (vars slots copy : ℕ) → copy ≤ 1 → (old new : DeviceView) → WritesWithin (image_at vars copy) (image_size vars) old new → WritesWithin (image_at vars 0) (2 * image_size vars + 4096 * slots) old new
copy_within vars slots copy one old new within =
    WritesWithin-wider (image_at vars copy) (image_size vars) (image_at vars 0) (2 * image_size vars + 4096 * slots) (omega (arith, behind_block vars copy)) (ends (image_at vars copy) (image_size vars) slots (copy_below vars copy one)) old new within
  where
    ends : (offset size slots : ℕ) → offset + size ≤ 512 + 2 * size + 4096 * 0 → offset + size ≤ 512 + 0 * size + (2 * size + 4096 * slots)
    ends offset size slots below = omega (arith, below)

-- and so do the slots
pub renewed_within : (vars slots copy : ℕ) → copy ≤ 1 → (old mid new : DeviceView) → (new.keeps_model → mid.keeps_model) → WritesWithin (image_at vars copy) (image_size vars) old mid → WritesWithin (slot_at vars 0) (bytes_from 0 slots) mid new
    → WritesWithin (image_at vars 0) (2 * image_size vars + 4096 * slots) old new
renewed_within vars slots copy one old mid new model first second =
    WritesWithin-trans (image_at vars 0) (2 * image_size vars + 4096 * slots) old mid new model (copy_within vars slots copy one old mid first)
    (WritesWithin-wider (slot_at vars 0) (bytes_from 0 slots) (image_at vars 0) (2 * image_size vars + 4096 * slots) (omega arith) (omega arith) mid new second)

-- where a copy is written, no byte beside it changes
pub beside_copy : (vars slots copy : ℕ) (b c : List ℕ) → SameOutside (image_at vars copy) (image_size vars) b c → SameBesideCopy vars slots copy b c
beside_copy vars slots copy b c same = λ i beside none. ⊎_elim
    (λ before. slice_get-before (image_at vars copy) (image_size vars) b c i before same)
    (λ after. slice_get-after (image_at vars copy) (image_size vars) b c i after same)
    beside

-- nor does one where the log is emptied then, but for open gates
pub beside_emptied : (vars slots copy generation : ℕ) → copy ≤ 1 → (a b c : List ℕ) → SameOutside (image_at vars copy) (image_size vars) a b → Keeps vars slots generation 0 b c → SameBesideCopy vars slots copy a c
beside_emptied vars slots copy generation one a b c same keeps = λ i beside none.
    keeps.others i (λ k above below gate. none k below (sym (slice_get-after (image_at vars copy) (image_size vars) a b (slot_at vars k) (ends (image_at vars copy) (image_size vars) k (copy_below vars copy one)) same) ∙ gate))
    ∙ beside_copy vars slots copy a b same i beside none
  where
    ends : (offset size slot : ℕ) → offset + size ≤ 512 + 2 * size + 4096 * 0 → offset + size ≤ 512 + 2 * size + 4096 * slot
    ends offset size slot below = omega (arith, below)

-- what the pages of a copy hold, they hold where the other copy is written
pub pages_aside : (vars copy set : ℕ) (values : List ℤ) → copy ≤ 1 → (old new : DeviceView) → (new.keeps_model → old.keeps_model) → WritesWithin (image_at vars (other_copy copy)) (image_size vars) old new
    → LeavesOnly old (HoldsOthers (pages_at vars copy) vars set values) → LeavesOnly new (HoldsOthers (pages_at vars copy) vars set values)
pages_aside vars copy set values one old new model writes holds = record {
  each = λ k c left. Rewritten-keeps (image_at vars (other_copy copy)) (image_size vars) old (HoldsOthers (pages_at vars copy) vars set values) c (model k) holds kept (writes.crash.each k c left);
}
  where
    kept : (a b : List ℕ) → SameOutside (image_at vars (other_copy copy)) (image_size vars) a b → HoldsOthers (pages_at vars copy) vars set values a → HoldsOthers (pages_at vars copy) vars set values b
    kept a b same = ⊎_elim
        (λ before. HoldsOthers-before (image_at vars (other_copy copy)) (image_size vars) (pages_at vars copy) vars set values a b same (omega (arith, before)))
        (λ after. HoldsOthers-after (image_at vars (other_copy copy)) (image_size vars) (pages_at vars copy) vars set values a b same (omega (arith, after)))
        (apart vars copy one)

-- and where slots are written
pub pages_in_front : (vars copy set slot n : ℕ) (values : List ℤ) → copy ≤ 1 → (old new : DeviceView) → (new.keeps_model → old.keeps_model) → WritesWithin (slot_at vars slot) n old new
    → LeavesOnly old (HoldsOthers (pages_at vars copy) vars set values) → LeavesOnly new (HoldsOthers (pages_at vars copy) vars set values)
pages_in_front vars copy set slot n values one old new model writes holds = record {
  each = λ k c left. Rewritten-keeps (slot_at vars slot) n old (HoldsOthers (pages_at vars copy) vars set values) c (model k) holds
      (λ a b same. HoldsOthers-before (slot_at vars slot) n (pages_at vars copy) vars set values a b same (ends (image_at vars copy) (pages_of vars) (copy_below vars copy one))) (writes.crash.each k c left);
}
  where
    ends : (offset pages : ℕ) → offset + (2048 + 512 * pages) ≤ 512 + 2 * (2048 + 512 * pages) + 4096 * 0 → offset + 2048 + 512 * pages ≤ 512 + 2 * (2048 + 512 * pages) + 4096 * slot
    ends offset pages below = omega (arith, below)

-- once the image is written, each page of its copy holds its state
pub pages_written : (vars : ℕ) (p : Position) (s : State) (old new : DeviceView) → LeavesOnly new (MadeBy (WithImage (next_placed vars p s)) old) → LeavesOnly new (HoldsOthers (pages_at vars (other_copy p.copy)) vars 0 s.values)
pages_written vars p s old new made = record { each = λ k c left. HoldsOthers-image Two vars (other_copy p.copy) (p.generation + 1) 0 s c (made.each k c left).2.image }

-- once a batch is flushed into a slot, the pages that it does not change hold the state after it
pub pages_folded : (vars copy slot set more n : ℕ) (s : State) (es : List Effect) (t : State) → copy ≤ 1 → ((page : ℕ) → has_page more page ≡ is_page_changed es page) → fold s es ≡ t → (old new : DeviceView) → (new.keeps_model → old.keeps_model) → WritesWithin (slot_at vars slot) n old new
    → LeavesOnly old (HoldsOthers (pages_at vars copy) vars set s.values) → LeavesOnly new (HoldsOthers (pages_at vars copy) vars (bit_or set more) t.values)
pages_folded vars copy slot set more n s es t one are is old new model writes holds =
    LeavesOnly-more new _ _ (pages_in_front vars copy set slot n s.values one old new model writes holds)
    (λ c held. subst (λ (x : State). HoldsOthers (pages_at vars copy) vars (bit_or set more) x.values c) is (HoldsOthers-fold (pages_at vars copy) vars set more s es c are held))
