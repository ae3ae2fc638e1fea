-- What a content represents, once a batch went into the next slot, or gates behind the log were closed.
use Rattle.std.proofs.Common.{◌≡◌, ◌⊎◌, inl, inr, ⊎_elim, ℕ, ◌+◌, ◌*◌, ◌≤◌, ◌<◌, ◌^◌, List, [], ◌∷◌, ◌++◌, length, refl, sym, ◌∙◌, ap, subst, arith, length-append}
use Rattle.std.proofs.Math.Logic.{∥∥₁_map, ∥∥₁_elim, ∥∥₁_prop}
use Rattle.std.proofs.lemmas.Bool.{cases_lt, cases_eq}
use Rattle.tmem_disk.specs.Disk.{SameOutside}
use Rattle.tmem_disk.proofs.Laws.{SameOutside-refl, SameOutside-wider}
use Rattle.tmem_gate.specs.Gate.{IsClosed}
use Rattle.tmem_gate.proofs.Laws.{closed_before, open_before}
use Rattle.tmem_record.specs.Layout.{image_at, image_size, slot_at}
use Rattle.tmem_record.specs.Spelling.{number_bytes}
use Rattle.tmem_record.specs.Stale.{IsClosedOrStale}
use Rattle.tmem_effect.specs.State.{State, fold, StaysWithin}
use Rattle.tmem_effect.specs.declared.effect.Effect.{Effect}
use Rattle.tmem_state.specs.declared.version.Version.{Version}
use Rattle.tmem_state.specs.declared.version.Version.TheVariants.{Two}
use Rattle.tmem_record.proofs.Laws.{length-number_bytes}
use Rattle.tmem_image.specs.Image.{HoldsImage, other_copy}
use Rattle.tmem_image.specs.Spelling.{image_body}
use Rattle.tmem_image.proofs.Laws.{length-image_body}
use Rattle.tmem_redolog.specs.Appends.{FollowsOn, BatchPlaced, WithoutBatch, WithBatch}
use Rattle.tmem_redolog.specs.Closes.{bytes_from, Keeps}
use Rattle.tmem_redolog.specs.Log.{HoldsLog}
use Rattle.tmem_redolog.proofs.Laws.{replayed-push}
use Rattle.tmem_journal.specs.BlockSpelling.{block_body}
use Rattle.tmem_journal.specs.Mended.{Mends}
use Rattle.tmem_journal.specs.Contents.{Position, next_slot, Holds, HoldsState, ContentRepresents}
use Rattle.tmem_journal.proofs.Lengths.{length-block_body}
use Rattle.tmem_journal.proofs.Unique.{one_state_at_most}

-- there are two image copies
pub copy_cases : (copy : ℕ) → copy ≤ 1 → (copy ≡ 0) ⊎ (copy ≡ 1)
copy_cases copy one = ⊎_elim (λ first. inl first) (λ other. inr (omega (arith, one, other))) (cases_eq copy 0)

-- both stand in front of the slots
pub copy_below : (vars copy : ℕ) → copy ≤ 1 → image_at vars copy + image_size vars ≤ slot_at vars 0
copy_below vars copy one = ⊎_elim
    (λ first. subst (λ (k : ℕ). image_at vars k + image_size vars ≤ slot_at vars 0) (sym first) (omega arith))
    (λ second. subst (λ (k : ℕ). image_at vars k + image_size vars ≤ slot_at vars 0) (sym second) (omega arith))
    (copy_cases copy one)

pub other_one : (copy : ℕ) → other_copy copy ≤ 1
other_one copy = omega arith

-- a cell in a part of a content that ends in front of an offset
fits_below : (p size n low at : ℕ) → p + size ≤ low → low ≤ at → 1 + n ≤ size → p + 1 + n ≤ at
fits_below p size n low at part front long = omega (arith, part, front, long)

-- what is stale stays so where what was written stands behind it
pub stale_before : (at n p generation : ℕ) (b c : List ℕ) → SameOutside at n b c → p + 1 + 8 ≤ at → IsClosedOrStale generation p b → IsClosedOrStale generation p c
stale_before at n p generation b c same fits (inl closed) = inl (closed_before at n p b c same (omega (arith, fits)) closed)
stale_before at n p generation b c same fits (inr it) = inr (it.0, it.1, open_before at n p (number_bytes 8 it.0) b c same (omega (arith, fits, length-number_bytes 8 it.0)) it.2)

-- and so does an image
pub image_before : (version : Version) (vars copy at n generation : ℕ) (image : State) (b c : List ℕ) → SameOutside at n b c → image_at vars copy + image_size vars ≤ at → HoldsImage version vars copy generation image b → HoldsImage version vars copy generation image c
image_before version vars copy at n generation image b c same fits holds = record {
  number = holds.number;
  fits = holds.fits;
  cell = open_before at n (image_at vars copy) (image_body version vars generation image) b c same
      (fits_below (image_at vars copy) (image_size vars) (length (image_body version vars generation image)) at at fits (omega arith) (omega (arith, length-image_body version vars generation image holds.fits.names holds.fits.values))) holds.cell;
}

-- what is written in the slots changes neither block 0 nor the images
pub in_slots : (version : Version) (vars slots at n copy generation : ℕ) (image : State) (batches others : List (List Effect)) (b c : List ℕ) → SameOutside at n b c → slot_at vars 0 ≤ at → Holds version vars slots copy generation image batches b
    → HoldsLog version vars slots generation image others c → Holds version vars slots copy generation image others c
in_slots version vars slots at n copy generation image batches others b c same behind holds log =
    let here = copy_below vars copy holds.one in
    let there = copy_below vars (other_copy copy) (other_one copy) in
    record {
      block_version = holds.block_version;
      allowed = holds.allowed;
      block = open_before at n 0 (block_body holds.block_version vars slots) b c same (omega (arith, behind, length-block_body holds.block_version vars slots)) holds.block;
      one = holds.one;
      chosen = image_before version vars copy at n generation image b c same (ends_before (image_at vars copy) (image_size vars) (slot_at vars 0) at here behind) holds.chosen;
      other = stale_before at n (image_at vars (other_copy copy)) generation b c same (fits_below (image_at vars (other_copy copy)) (image_size vars) 8 (slot_at vars 0) at there behind (omega arith)) holds.other;
      log = log;
    }
  where
    ends_before : (p size low at : ℕ) → p + size ≤ low → low ≤ at → p + size ≤ at
    ends_before p size low at part front = omega (arith, part, front)

-- a batch that goes into the first slot behind the log of a content that represents a state
abbrev pub before_slot : ℕ → BatchPlaced → Position
before_slot copy p = record { version = Two; copy = copy; generation = p.generation; used = p.slot }

module _ (p : BatchPlaced) (copy : ℕ) (s : State) (count : s.count ≡ p.first) (within : StaysWithin s p.batch) (b c : List ℕ) (stands : HoldsState p.vars p.slots (before_slot copy p) s b) where
  follows : FollowsOn p.slot p.first p.batch stands.image stands.batches
  follows = record {
    used = stands.is_used;
    number = ap (λ (t : State). t.count) stands.is_state ∙ count;
    room = subst (λ (t : State). StaysWithin t p.batch) (sym stands.is_state) within;
  }

  pub state_without : WithoutBatch p b c → HoldsState p.vars p.slots (before_slot copy p) s c
  state_without without = record {
    image = stands.image;
    batches = stands.batches;
    holds = in_slots Two p.vars p.slots (slot_at p.vars p.slot) 4096 copy p.generation stands.image stands.batches stands.batches b c without.elsewhere (omega arith) stands.holds (without.log stands.image stands.batches follows stands.holds.log);
    is_used = stands.is_used;
    is_state = stands.is_state;
  }

  pub state_with : WithBatch p b c → HoldsState p.vars p.slots (next_slot (before_slot copy p)) (fold s p.batch) c
  state_with with = record {
    image = stands.image;
    batches = stands.batches ++ p.batch ∷ [];
    holds = in_slots Two p.vars p.slots (slot_at p.vars p.slot) 4096 copy p.generation stands.image stands.batches (stands.batches ++ p.batch ∷ []) b c with.elsewhere (omega arith) stands.holds (with.log stands.image stands.batches follows stands.holds.log);
    is_used = length-append stands.batches (p.batch ∷ []) ∙ ap (λ (n : ℕ). n + 1) stands.is_used;
    is_state = replayed-push stands.image stands.batches p.batch ∙ ap (λ (t : State). fold t p.batch) stands.is_state;
  }

-- a content whose gates behind the log were closed
pub state_closed : (vars slots : ℕ) (p : Position) (s : State) (b c : List ℕ) → Keeps vars slots p.generation p.used b c → HoldsState vars slots p s b → HoldsState vars slots p s c
state_closed vars slots p s b c keeps held = record {
  image = held.image;
  batches = held.batches;
  holds = in_slots p.version vars slots (slot_at vars p.used) (bytes_from p.used slots) p.copy p.generation held.image held.batches held.batches b c keeps.elsewhere (omega arith) held.holds (keeps.log p.version held.image held.batches held.is_used held.holds.log);
  is_used = held.is_used;
  is_state = held.is_state;
}

module _ (vars slots : ℕ) (few : vars ≤ 2 ^ 16) (p : Position) (fits : p.used ≤ slots) (s : State) (b c : List ℕ) (stands : ContentRepresents vars slots p s b) (keeps : Keeps vars slots p.generation p.used b c) where
  still : (q : Position) (t : State) → HoldsState vars slots p s b → HoldsState vars slots q t b → HoldsState vars slots q t c
  still q t held other =
      let same = one_state_at_most vars slots few b q p t s other held in
      let kept = state_closed vars slots p s b c keeps held in
      subst (λ (x : Position). HoldsState vars slots x t c) (sym same.0) (subst (λ (x : State). HoldsState vars slots p x c) (sym same.1) kept)

  shut : (k : ℕ) → k < slots → IsClosed (slot_at vars k) b → IsClosed (slot_at vars k) c
  shut k below closed = ⊎_elim
      (λ before. closed_before (slot_at vars p.used) (bytes_from p.used slots) (slot_at vars k) b c keeps.elsewhere (omega (arith, before)) closed)
      (λ not_before. keeps.closed k not_before below closed)
      (cases_lt k p.used)

  pub mended : Mends vars slots b c
  mended = record {
    states = λ q t other. ∥∥₁_elim stands ∥∥₁_prop (λ held. ∥∥₁_map other (still q t held));
    closed = shut;
    others = λ i none. keeps.others i (λ k above below gate. none k below gate);
    elsewhere = SameOutside-wider (slot_at vars p.used) (bytes_from p.used slots) (slot_at vars 0) (4096 * slots) b c (omega arith) (omega (arith, fits)) keeps.elsewhere;
  }

-- nothing was closed
pub Mends-refl : (vars slots : ℕ) (c : List ℕ) → Mends vars slots c c
Mends-refl vars slots c = record { states = λ q t held. held; closed = λ k below closed. closed; others = λ i none. refl; elsewhere = SameOutside-refl (slot_at vars 0) (4096 * slots) c }
