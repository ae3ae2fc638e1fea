-- Which refusal a content has.
use Rattle.std.proofs.Common.{◌≡◌, ◌≢◌, ◌<◌, ◌≤◌, ◌+◌, ◌^◌, ℕ, List, ◌∷◌, ◌++◌, length, take, drop, replicate, codes, refl, sym, ◌∙◌, ap, subst, arith}
use Rattle.std.specs.Prelude.{slice_index_or, slice_range, Result, Ok, Err, IfErr, MatchResult}
use Rattle.std.proofs.lemmas.List.{take-append-drop}
use Rattle.std.proofs.Math.Logic.{∥∥₁_elim}
use Rattle.std.proofs.Props.{props}
use Rattle.byteorder.specs.Endian.{little_bytes, little_number}
use Rattle.tmem_fault.specs.declared.fault.Fault.{Fault}
use Rattle.tmem_fault.specs.declared.fault.Fault.TheVariants.{Device, NotFormatted, Damaged, Geometry, Spent}
use Rattle.tmem_gate.specs.Calls.{IsWhyNone, failures_after}
use Rattle.tmem_gate.specs.Gate.{IsOpenAt, IsOpenOver}
use Rattle.tmem_effect.specs.State.{State}
use Rattle.tmem_effect.specs.Prefix.{IsPrefix}
use Rattle.tmem_record.specs.Spelling.{number_bytes}
use Rattle.tmem_state.specs.Versions.{version_number}
use Rattle.tmem_state.specs.declared.version.Version.{Version}
use Rattle.tmem_record.proofs.Laws.{number-spelled}
use Rattle.tmem_record.specs.Layout.{IsLayout}
use Rattle.tmem_record.specs.StandsAt.{StandsAt}
use Rattle.tmem_journal.specs.BlockSpelling.{block_body}
use Rattle.tmem_journal.specs.Contents.{Position, HoldsState, IsSpentAt}
use Rattle.tmem_journal.specs.Refusals.{HasMagic, IsOfOthers, IsRefusedBy, IsWhyRead}
use Rattle.tmem_journal.specs.Parts.{IsBlockFault, IsBlockBy}
use Rattle.tmem_journal.proofs.Lengths.{length-block_body}
use Rattle.tmem_image.proofs.Laws.{one_body}
use Rattle.tmem_journal.proofs.Finding.{front_of}
use Rattle.tmem_journal.proofs.Unique.{one_state_at_most}

-- the numbers that stand in a block 0
pub block_vars : (version : Version) (vars slots : ℕ) → vars < 2 ^ 16 → little_number 2 (drop 5 (block_body version vars slots)) ≡ vars
unfolding block_body
block_vars version vars slots few = number-spelled 2 vars (little_bytes 2 slots ++ replicate 502 0) (omega (arith, few))

pub block_slots : (version : Version) (vars slots : ℕ) → slots < 2 ^ 16 → little_number 2 (drop 7 (block_body version vars slots)) ≡ slots
unfolding block_body
block_slots version vars slots few = number-spelled 2 slots (replicate 502 0) (omega (arith, few))

-- and the version
block_number : (version : Version) (vars slots : ℕ) → slice_index_or (block_body version vars slots) 4 0 ≡ version_number version
unfolding block_body
block_number version vars slots = refl

-- the version that is read there is that of the block 0
pub same_version : (version : Version) (vars slots : ℕ) (bytes : List ℕ) → bytes ≡ block_body version vars slots → slice_index_or bytes 4 0 ≡ version_number version
same_version version vars slots bytes is = ap (λ (b : List ℕ). slice_index_or b 4 0) is ∙ block_number version vars slots

-- blocks of one number are one
pub same_block : (v w : Version) (vars slots : ℕ) → version_number v ≡ version_number w → block_body v vars slots ≡ block_body w vars slots
unfolding block_body
same_block v w vars slots same = ap (λ (n : ℕ). codes "TMEM" ++ n ∷ (little_bytes 2 vars ++ (little_bytes 2 slots ++ replicate 502 0))) same

-- block 0 is of one version at the most
pub one_block : (vars slots : ℕ) (v w : Version) (c : List ℕ) → IsOpenOver 0 (block_body v vars slots) c → IsOpenOver 0 (block_body w vars slots) c → version_number v ≡ version_number w
one_block vars slots v w c one other =
    let same : block_body v vars slots ≡ block_body w vars slots = one_body 0 _ _ c (length-block_body v vars slots ∙ sym (length-block_body w vars slots)) one other in
    sym (block_number v vars slots) ∙ same_version w vars slots (block_body v vars slots) same

numbers_in : (version : Version) (vars slots : ℕ) → IsLayout vars slots → (bytes : List ℕ) → bytes ≡ block_body version vars slots → (little_number 2 (drop 5 bytes) ≡ vars) × (little_number 2 (drop 7 bytes) ≡ slots)
numbers_in version vars slots layout bytes is = (
  ap (λ (b : List ℕ). little_number 2 (drop 5 b)) is ∙ block_vars version vars slots (omega (arith, layout.vars_fit)),
  ap (λ (b : List ℕ). little_number 2 (drop 7 b)) is ∙ block_slots version vars slots (omega (arith, layout.slots_fit)),
)

-- a number of two bytes that stands there is what is read there
short_read : (at v : ℕ) (bytes : List ℕ) → v < 2 ^ 16 → StandsAt at (number_bytes 2 v) bytes → little_number 2 (drop at bytes) ≡ v
unfolding number_bytes
short_read at v bytes few stands =
    ap (little_number 2) (sym (take-append-drop 2 (drop at bytes)) ∙ ap (λ (l : List ℕ). l ++ drop 2 (drop at bytes)) stands.is) ∙ number-spelled 2 v (drop 2 (drop at bytes)) (omega (arith, few))

-- the numbers that were read are those of the layout whose block 0 it is
pub same_numbers : (version : Version) (vars slots : ℕ) → IsLayout vars slots → (bytes : List ℕ) → bytes ≡ block_body version vars slots → (v s : ℕ) → v < 2 ^ 16 → s < 2 ^ 16 → StandsAt 5 (number_bytes 2 v) bytes → StandsAt 7 (number_bytes 2 s) bytes → (v ≡ vars) × (s ≡ slots)
same_numbers version vars slots layout bytes is v s few_v few_s v_at s_at =
    let there = numbers_in version vars slots layout bytes is in
    (sym (short_read 5 v bytes few_v v_at) ∙ there.0, sym (short_read 7 s bytes few_s s_at) ∙ there.1)

-- the letters stand in front of them
block_letters : (version : Version) (vars slots : ℕ) → take 4 (block_body version vars slots) ≡ codes "TMEM"
unfolding block_body
block_letters version vars slots = refl

-- what is read behind the gate of block 0
module _ (c bytes : List ℕ) (gate : IsOpenAt 0 c) (read : bytes ≡ slice_range c 1 (1 + 511)) where
  begins : (front : List ℕ) → length front ≤ 511 → IsPrefix front bytes → IsOpenOver 0 front c
  begins front short begin = record { gate = gate; body = sym (front_of c 0 0 511 front bytes refl read short) ∙ begin }

  begun : (front : List ℕ) → length front ≤ 511 → IsOpenOver 0 front c → IsPrefix front bytes
  begun front short cell = front_of c 0 0 511 front bytes refl read short ∙ cell.body

  pub whole : (version : Version) (vars slots : ℕ) → bytes ≡ block_body version vars slots → IsOpenOver 0 (block_body version vars slots) c
  whole version vars slots is = record { gate = gate; body = ap (λ (n : ℕ). slice_range c 1 (1 + n)) (length-block_body version vars slots) ∙ sym read ∙ is }

  pub block_read : (version : Version) (vars slots : ℕ) → IsOpenOver 0 (block_body version vars slots) c → bytes ≡ block_body version vars slots
  block_read version vars slots cell = read ∙ ap (λ (n : ℕ). slice_range c 1 (1 + n)) (sym (length-block_body version vars slots)) ∙ cell.body

  -- it is refused as the bytes are
  pub block_refused : (vars slots : ℕ) (f : Fault) → IsBlockFault vars slots bytes f → IsBlockBy vars slots c f
  block_refused vars slots NotFormatted none = λ cell. none (begun (codes "TMEM") (omega arith) cell)
  block_refused vars slots Geometry other = record {
    their_version = other.their_version;
    their_vars = other.their_vars;
    their_slots = other.their_slots;
    layout = other.layout;
    block = whole other.their_version other.their_vars other.their_slots other.block;
    others = other.others;
  }
  block_refused vars slots Damaged is = (begins (codes "TMEM") (omega arith) is.0, λ version v s layout cell. is.1 version v s layout (block_read version v s cell))
  block_refused vars slots _ is = absurd is

module _ (K : Type 0) (vars slots : ℕ) (c bytes : List ℕ) (gate : K → IsOpenAt 0 c) (read : K → bytes ≡ slice_range c 1 (1 + 511)) where
  why_fault : (f : Fault) → IsBlockFault vars slots bytes f → IsWhyRead (λ g. K → IsBlockBy vars slots c g) f
  why_fault NotFormatted is = λ k. block_refused c bytes (gate k) (read k) vars slots NotFormatted is
  why_fault Damaged is = λ k. block_refused c bytes (gate k) (read k) vars slots Damaged is
  why_fault Geometry is = λ k. block_refused c bytes (gate k) (read k) vars slots Geometry is
  why_fault _ is = absurd is

  pub why_read : {T : Type 0} (r : Result T Fault) → IfErr r (IsBlockFault vars slots bytes) → IfErr r (IsWhyRead (λ g. K → IsBlockBy vars slots c g))
  why_read (Ok x) is = tt
  why_read (Err f) is = why_fault f is

-- no call fails where the bytes are refused
pub block_failures : {T : Type 0} (vars slots : ℕ) (bytes : List ℕ) (n m : ℕ) (r : Result T Fault) → IfErr r (IsBlockFault vars slots bytes) → m ≡ n → MatchResult r (λ _. m ≡ n) (λ f. m ≡ failures_after f n)
block_failures vars slots bytes n m (Ok x) refused same = same
block_failures vars slots bytes n m (Err NotFormatted) refused same = same
block_failures vars slots bytes n m (Err Damaged) refused same = same
block_failures vars slots bytes n m (Err Geometry) refused same = same
block_failures vars slots bytes n m (Err _) refused same = absurd refused

-- a gate that is closed has no letters behind it
pub no_letters : (c : List ℕ) → ¬ IsOpenAt 0 c → ¬ HasMagic c
no_letters c closed cell = closed cell.gate

-- an open block 0 has the letters
pub letters_of : (version : Version) (vars slots : ℕ) (c : List ℕ) → IsOpenOver 0 (block_body version vars slots) c → HasMagic c
letters_of version vars slots c cell =
    let read : block_body version vars slots ≡ slice_range c 1 (1 + 511) = sym cell.body ∙ ap (λ (n : ℕ). slice_range c 1 (1 + n)) (length-block_body version vars slots) in
    begins c (block_body version vars slots) cell.gate read (codes "TMEM") (omega arith) (block_letters version vars slots)

-- and is of no other numbers
pub of_no_others : (version : Version) (vars slots : ℕ) → IsLayout vars slots → (c : List ℕ) → IsOpenOver 0 (block_body version vars slots) c → ¬ IsOfOthers vars slots c
of_no_others version vars slots layout c cell other =
    let body : List ℕ = block_body other.their_version other.their_vars other.their_slots in
    let one : body ≡ block_body version vars slots = one_body 0 _ _ c (length-block_body other.their_version other.their_vars other.their_slots ∙ sym (length-block_body version vars slots)) other.block cell in
    let mine = numbers_in version vars slots layout body one in
    let theirs = numbers_in other.their_version other.their_vars other.their_slots other.layout body refl in
    other.others (sym theirs.0 ∙ mine.0, sym theirs.1 ∙ mine.1)

module _ (vars slots : ℕ) (layout : IsLayout vars slots) (c : List ℕ) where
  -- a content that is refused by anything but Spent represents no state
  pub none_where_refused : (f : Fault) → f ≢ Spent → IsRefusedBy vars slots c f → (p : Position) (s : State) → HoldsState vars slots p s c → ⊥
  none_where_refused NotFormatted other is p s stands = is (letters_of stands.holds.block_version vars slots c stands.holds.block)
  none_where_refused Geometry other is p s stands = of_no_others stands.holds.block_version vars slots layout c stands.holds.block is
  none_where_refused Damaged other is p s stands = is.2 p s ∣ stands ∣₁
  none_where_refused Spent other is p s stands = other refl
  none_where_refused _ other is p s stands = absurd is

  by_block : (f : Fault) → IsBlockBy vars slots c f → IsRefusedBy vars slots c f
  by_block NotFormatted is = is
  by_block Geometry is = is
  by_block Damaged is = (is.0, (λ other. is.1 other.their_version other.their_vars other.their_slots other.layout other.block), λ p s stands. ∥∥₁_elim stands (hlevel props) (λ held. is.1 held.holds.block_version vars slots layout held.holds.block))
  by_block _ is = absurd is

  -- what block 0 is refused by, as it is read later, the content is
  module _ (J : Type 0) (then : List ℕ) (same : J → then ≡ c) where
    block_by : (f : Fault) → (J → IsBlockBy vars slots then f) → J → IsRefusedBy vars slots c f
    block_by f is j = by_block f (subst (λ (x : List ℕ). IsBlockBy vars slots x f) (same j) (is j))

    pub why_block : (f : Fault) → IsWhyRead (λ g. J → IsBlockBy vars slots then g) f → IsWhyRead (λ g. J → IsRefusedBy vars slots c g) f
    why_block Device why = tt
    why_block NotFormatted why = block_by NotFormatted why
    why_block Damaged why = block_by Damaged why
    why_block Geometry why = block_by Geometry why
    why_block _ why = absurd why

  -- where block 0 is that of these numbers, all else is damage
  pub why_part : (version : Version) (J none : Type 0) (f : Fault) → (J → IsOpenOver 0 (block_body version vars slots) c) → (none → J → (p : Position) (s : State) → HoldsState vars slots p s c → ⊥) → IsWhyNone none f → IsWhyRead (λ g. J → IsRefusedBy vars slots c g) f
  why_part version J none Device block from why = tt
  why_part version J none Damaged block from why = λ j. (letters_of version vars slots c (block j), of_no_others version vars slots layout c (block j), λ p s stands. ∥∥₁_elim stands (hlevel props) (from why j p s))
  why_part version J none _ block from why = absurd why

-- block 0 as it is read later
pub block_then : (version : Version) (vars slots : ℕ) (c then : List ℕ) → then ≡ c → IsOpenOver 0 (block_body version vars slots) then → IsOpenOver 0 (block_body version vars slots) c
block_then version vars slots c then same cell = subst (λ (x : List ℕ). IsOpenOver 0 (block_body version vars slots) x) same cell

-- a content that is refused by Spent represents its state at the last generation
pub last_where_spent : (vars slots : ℕ) → vars ≤ 2 ^ 16 → (c : List ℕ) → IsRefusedBy vars slots c Spent → (p : Position) (s : State) → HoldsState vars slots p s c → IsSpentAt p
last_where_spent vars slots few c is p s stands = ∥∥₁_elim is (hlevel props) (λ it. subst IsSpentAt (one_state_at_most vars slots few c it.0 p it.1 s it.2 stands).0 it.3)
