-- The formatted content: how it is written, and what it represents.
use Rattle.std.proofs.Common.{◌≡◌, inl, ◌<◌, ◌≤◌, ◌+◌, ◌*◌, ◌-◌, ℕ, zero, suc, pos, Option, Some, List, [], ◌∷◌, ◌++◌, length, take, drop, replicate, flat_map, refl, sym, ◌∙◌, ap, subst, arith, append_assoc, length-append, rules}
use Rattle.std.specs.Prelude.{slice_get, FitsSigned, Result, Ok, Err, OnOk, IfOk}
use Rattle.std.specs.Int.{w64}
use Rattle.std.proofs.lemmas.List.{take_at, drop_at, drop-drop, length-replicate, replicate-append-replicate}
use Rattle.std.proofs.lemmas.List.Elements.{All-replicate}
use Rattle.byteorder.specs.Endian.{little_bytes}
use Rattle.tmem_disk.specs.Disk.{DeviceView, LeavesOnly, IsSynced, ReadsAs, SameOutside, overwritten}
use Rattle.tmem_gate.specs.Gate.{IsClosed, IsOpenOver}
use Rattle.tmem_gate.proofs.Laws.{closed_before}
use Rattle.tmem_effect.specs.State.{first_state}
use Rattle.tmem_record.specs.Spelling.{number_bytes, value_bytes, names_bytes}
use Rattle.tmem_state.specs.Versions.{version_byte}
use Rattle.tmem_state.specs.declared.version.Version.TheVariants.{Two}
use Rattle.tmem_record.specs.Layout.{IsLayout, pages_of, image_at, slot_at, end_at}
use Rattle.tmem_redolog.specs.Log.{HoldsLog}
use Rattle.tmem_redolog.proofs.Laws.{no_batches}
use Rattle.tmem_image.specs.Image.{other_copy}
use Rattle.tmem_image.specs.Spelling.{names_body, pages_body, image_body, IsImage}
use Rattle.tmem_image.proofs.Laws.{joined, length-image_body}
use Rattle.tmem_journal.specs.BlockSpelling.{block_body}
use Rattle.tmem_journal.specs.Formatted.{open_cell, header_bytes, formatted}
use Rattle.tmem_journal.specs.Contents.{first_position, HoldsState, ContentRepresents}
use Rattle.tmem_journal.proofs.Lengths.{length-block_body}
use Rattle.tmem_journal.proofs.Overwriting.{two_parts}
use Rattle.tmem_journal.proofs.Recovering.{leaves_seen}
use Rattle.tmem_effect.proofs.Laws.{AreRegistered-nil}
use Rattle.tmem_disk.proofs.Laws.{slice_get-take, slice_get-drop}
use Rattle.tmem_record.proofs.Laws.{length-little_bytes}

slice_get-replicate : (n i x : ℕ) → i < n → slice_get (replicate n x) i ≡ Some x
slice_get-replicate zero i x below = absurd (omega arith)
slice_get-replicate (suc n) zero x below = refl
slice_get-replicate (suc n) (suc i) x below = slice_get-replicate n i x (omega arith)

zero_fits : FitsSigned w64 (pos 0)
zero_fits = search rules

zero_values : (n : ℕ) → flat_map value_bytes (replicate n (pos 0)) ≡ replicate (8 * n) 0
unfolding value_bytes number_bytes
zero_values zero = refl
zero_values (suc n) =
    let e : 8 * suc n ≡ 8 + 8 * n = omega arith in
    ap (λ (l : List ℕ). replicate 8 0 ++ l) (zero_values n) ∙ replicate-append-replicate 8 (8 * n) 0 ∙ ap (λ (k : ℕ). replicate k 0) (sym e)

-- no names are zeros
zero_names : names_body [] ≡ replicate 2030 0
unfolding names_body names_bytes
zero_names = replicate-append-replicate 1 2029 0

-- the first image is its header, and zeros
pub first_image : (vars : ℕ) → image_body Two vars 1 (first_state vars) ≡ header_bytes ++ replicate (512 * pages_of vars) 0
unfolding image_body pages_body number_bytes
first_image vars =
    let room : 8 * vars ≤ 512 * pages_of vars = omega arith in
    let whole : 8 * vars + (512 * pages_of vars - 8 * vars) ≡ 512 * pages_of vars = omega arith in
    let pages = ap (λ (l : List ℕ). l ++ replicate (512 * pages_of vars - 8 * vars) 0) (zero_values vars) ∙ replicate-append-replicate (8 * vars) (512 * pages_of vars - 8 * vars) 0 ∙ ap (λ (k : ℕ). replicate k 0) whole in
    let behind : List ℕ = version_byte Two ∷ replicate (512 * pages_of vars) 0 in
    let header : replicate 8 0 ++ (names_body [] ++ behind) ≡ (replicate 2038 0 ++ version_byte Two ∷ []) ++ replicate (512 * pages_of vars) 0 =
    ap (λ (l : List ℕ). replicate 8 0 ++ (l ++ behind)) zero_names ∙ sym (append_assoc (replicate 8 0) (replicate 2030 0) behind) ∙ ap (λ (l : List ℕ). l ++ behind) (replicate-append-replicate 8 2030 0)
    ∙ sym (append_assoc (replicate 2038 0) (version_byte Two ∷ []) (replicate (512 * pages_of vars) 0)) in
    ap (λ (l : List ℕ). little_bytes 8 1 ++ l) (ap (λ (l : List ℕ). replicate 8 0 ++ (names_body [] ++ version_byte Two ∷ l)) pages ∙ header)
    ∙ sym (append_assoc (little_bytes 8 1) (replicate 2038 0 ++ version_byte Two ∷ []) (replicate (512 * pages_of vars) 0))

-- an offset that holds 0 is a closed gate
pub closed_at_zero : (at : ℕ) (c : List ℕ) → slice_get c at ≡ Some 0 → IsClosed at c
closed_at_zero at c is = record { not_open = λ open_now. apart (sym is ∙ open_now) }
  where
    blank : Option ℕ
    blank = Some 0

    apart : blank ≡ Some 0xA5 → ⊥
    apart e = cc

-- the first state fits an image
first_fits : (vars : ℕ) → IsImage vars (first_state vars)
first_fits vars = record { count = omega arith; names = AreRegistered-nil; values = length-replicate vars (pos 0); numbers = All-replicate (FitsSigned w64) vars (pos 0) zero_fits }

-- a byte behind the front
get_behind : (front xs : List ℕ) (at i : ℕ) → length front ≡ at → slice_get (front ++ xs) (at + i) ≡ slice_get xs i
get_behind front xs at i long = sym (slice_get-drop (front ++ xs) at i) ∙ ap (λ (l : List ℕ). slice_get l i) (drop_at front xs at long)

-- a cell that stands open
cell_at : (front body rest : List ℕ) (at : ℕ) → length front ≡ at → IsOpenOver at body (front ++ (open_cell body ++ rest))
cell_at front body rest at long = record {
  gate = let e : at ≡ at + 0 = omega arith in ap (λ (k : ℕ). slice_get (front ++ (open_cell body ++ rest)) k) e ∙ get_behind front (open_cell body ++ rest) at 0 long;
  body =
      let e : at + 1 + length body - (at + 1) ≡ length body = omega arith in
      ap (λ (k : ℕ). take k (drop (at + 1) (front ++ (open_cell body ++ rest)))) e
      ∙ ap (take (length body)) (sym (drop-drop 1 at (front ++ (open_cell body ++ rest))) ∙ ap (drop 1) (drop_at front (open_cell body ++ rest) at long))
      ∙ take_at body rest (length body) refl;
}

-- and one of zeros, which is closed
closed_at : (front rest : List ℕ) (n i : ℕ) → length front ≤ i → i < length front + n → IsClosed i (front ++ (replicate n 0 ++ rest))
closed_at front rest n i from to = closed_at_zero i (front ++ (replicate n 0 ++ rest)) zero_there
  where
    j : ℕ
    j = i - length front

    zero_there : slice_get (front ++ (replicate n 0 ++ rest)) i ≡ Some 0
    zero_there =
        let e : i ≡ length front + j = omega arith in
        ap (λ (k : ℕ). slice_get (front ++ (replicate n 0 ++ rest)) k) e ∙ get_behind front (replicate n 0 ++ rest) (length front) j refl
        ∙ sym (slice_get-take (replicate n 0 ++ rest) n j (omega arith)) ∙ ap (λ (l : List ℕ). slice_get l j) (take_at (replicate n 0) rest n (length-replicate n 0)) ∙ slice_get-replicate n j 0 (omega arith)

-- the formatted content represents the first state, whatever follows it
module _ (vars slots : ℕ) (rest : List ℕ) where
  abbrev first_cell : List ℕ
  first_cell = open_cell (block_body Two vars slots)

  abbrev second_cell : List ℕ
  second_cell = open_cell (image_body Two vars 1 (first_state vars))

  abbrev blank : ℕ
  blank = end_at vars slots - image_at vars 1

  abbrev content : List ℕ
  content = first_cell ++ (second_cell ++ (replicate blank 0 ++ rest))

  content_is : formatted vars slots ++ rest ≡ content
  unfolding formatted
  content_is = append_assoc first_cell (second_cell ++ replicate blank 0) rest ∙ ap (λ (l : List ℕ). first_cell ++ l) (append_assoc second_cell (replicate blank 0) rest)

  first_long : length first_cell ≡ 512
  first_long = omega (arith, length-block_body Two vars slots)

  second_long : length second_cell ≡ 2048 + 512 * pages_of vars
  second_long = omega (arith, length-image_body Two vars 1 (first_state vars) AreRegistered-nil (length-replicate vars (pos 0)))

  -- from image copy 1 on
  closed_behind : (i : ℕ) → image_at vars 1 ≤ i → i < end_at vars slots → IsClosed i content
  closed_behind i from to =
      let front : length (first_cell ++ second_cell) ≡ image_at vars 1 = omega (arith, first_long, second_long, length-append first_cell second_cell) in
      subst (λ (l : List ℕ). IsClosed i l) (append_assoc first_cell second_cell (replicate blank 0 ++ rest)) (closed_at (first_cell ++ second_cell) rest blank i (omega (arith, front)) (omega (arith, front)))

  -- each slot is closed, so the log is empty
  first_log : HoldsLog Two vars slots 1 (first_state vars) [] content
  first_log = no_batches Two vars slots 1 (first_state vars) content (omega arith) (record { count = omega arith; names = omega arith }) (λ k below. inl (closed_behind (slot_at vars k) (omega arith) (omega (arith, below))))

  pub formatted_represents : IsLayout vars slots → HoldsState vars slots first_position (first_state vars) (formatted vars slots ++ rest)
  formatted_represents layout = subst (λ (l : List ℕ). HoldsState vars slots first_position (first_state vars) l) (sym content_is) (record {
    image = first_state vars;
    batches = [];
    holds = record {
      block_version = Two;
      allowed = omega arith;
      block = cell_at [] (block_body Two vars slots) (second_cell ++ (replicate blank 0 ++ rest)) 0 refl;
      one = omega arith;
      chosen = record {
        number = record { some = omega arith; fits = omega arith };
        fits = first_fits vars;
        cell = cell_at first_cell (image_body Two vars 1 (first_state vars)) (replicate blank 0 ++ rest) (image_at vars 0) (first_long ∙ omega arith);
      };
      other = inl (closed_behind (image_at vars (other_copy 0)) (omega arith) (omega (arith, layout.some_slots)));
      log = first_log;
    };
    is_used = refl;
    is_state = refl;
  })

-- it is the two cells that are put, and zeros
formatted_is : (vars slots : ℕ) → 1 ≤ slots → (rest : List ℕ) → formatted vars slots ++ rest ≡ open_cell (block_body Two vars slots) ++ (open_cell header_bytes ++ (replicate (end_at vars slots - (512 + 2048)) 0 ++ rest))
formatted_is vars slots some rest =
    let left : ℕ = 512 * pages_of vars in
    let blank : ℕ = end_at vars slots - image_at vars 1 in
    let header : List ℕ = open_cell header_bytes in
    let all : left + blank ≡ end_at vars slots - (512 + 2048) = omega arith in
    content_is vars slots rest
    ∙ ap (λ (l : List ℕ). open_cell (block_body Two vars slots) ++ (open_cell l ++ (replicate blank 0 ++ rest))) (first_image vars)
    ∙ ap (λ (l : List ℕ). open_cell (block_body Two vars slots) ++ l) (append_assoc header (replicate left 0) (replicate blank 0 ++ rest)
    ∙ ap (λ (l : List ℕ). header ++ l) (sym (append_assoc (replicate left 0) (replicate blank 0) rest) ∙ ap (λ (l : List ℕ). l ++ rest) (replicate-append-replicate left blank 0 ∙ ap (λ (k : ℕ). replicate k 0) all)))

-- how long the header is
pub length-header_bytes : length header_bytes ≡ 2047
length-header_bytes = joined (little_bytes 8 1) (replicate 2038 0 ++ version_byte Two ∷ []) 8 2039 (length-little_bytes 8 1) (joined (replicate 2038 0) (version_byte Two ∷ []) 2038 1 (length-replicate {A = ℕ} 2038 0) refl)

-- zeros, over which an image's header was put and then block 0
pub all_written : (vars slots e at : ℕ) (header numbers old zeroed with_image whole : List ℕ) → 1 ≤ slots → e ≡ end_at vars slots → at ≡ 512 → header ≡ header_bytes → numbers ≡ block_body Two vars slots
    → zeroed ≡ replicate e 0 ++ drop e old → with_image ≡ overwritten zeroed at (open_cell header) → whole ≡ overwritten with_image 0 (open_cell numbers) → whole ≡ formatted vars slots ++ drop (end_at vars slots) old
all_written vars slots e at header numbers old zeroed with_image whole some end offset spelled block zeros image_is block_is =
    let first : length (open_cell numbers) ≡ 512 = omega (arith, ap length block, length-block_body Two vars slots) in
    let second : length (open_cell header) ≡ 2048 = omega (arith, ap length spelled, length-header_bytes) in
    two_parts e 512 2048 (open_cell numbers) (open_cell header) (drop e old) zeroed with_image whole first second (omega (arith, end)) zeros (image_is ∙ ap (λ (k : ℕ). overwritten zeroed k (open_cell header)) offset) block_is
    ∙ ap (λ (l : List ℕ). open_cell l ++ (open_cell header ++ (replicate (e - (512 + 2048)) 0 ++ drop e old))) block
    ∙ ap (λ (l : List ℕ). open_cell (block_body Two vars slots) ++ (open_cell l ++ (replicate (e - (512 + 2048)) 0 ++ drop e old))) spelled
    ∙ ap (λ (k : ℕ). open_cell (block_body Two vars slots) ++ (open_cell header_bytes ++ (replicate (k - (512 + 2048)) 0 ++ drop k old))) end
    ∙ sym (formatted_is vars slots some (drop (end_at vars slots) old))

-- a crash leaves what a read gives, and that represents the first state
pub formatted_device : (vars slots : ℕ) → IsLayout vars slots → (d : DeviceView) (rest : List ℕ) → ReadsAs d (formatted vars slots ++ rest) → IsSynced d → LeavesOnly d (ContentRepresents vars slots first_position (first_state vars))
formatted_device vars slots layout d rest reads synced = leaves_seen synced (λ k. ∣ subst (λ (l : List ℕ). HoldsState vars slots first_position (first_state vars) l) (sym (reads k)) (formatted_represents vars slots rest layout) ∣₁)

-- what facts of a success give
pub on_ok : {T E A B : Type 0} → (A → B) → (r : Result T E) → OnOk r A → OnOk r B
on_ok f (Ok x) a = f a
on_ok f (Err e) a = tt

pub if_ok : {T E : Type 0} (A B : T → Type 0) → ((x : T) → A x → B x) → (r : Result T E) → IfOk r A → IfOk r B
if_ok A B f (Ok x) a = f x a
if_ok A B f (Err e) a = tt

pub on_ok_2 : {T E A B C : Type 0} → (A → B → C) → (r : Result T E) → OnOk r A → OnOk r B → OnOk r C
on_ok_2 f (Ok x) a b = f a b
on_ok_2 f (Err e) a b = tt

-- a gate among zeros is closed
pub zeros_closed : (e at : ℕ) (rest c : List ℕ) → at < e → c ≡ replicate e 0 ++ rest → IsClosed at c
zeros_closed e at rest c below zeros = subst (λ (l : List ℕ). IsClosed at l) (sym zeros) (closed_at [] rest e at (omega arith) (omega (arith, below)))

-- block 0 stays closed while the image is put
pub block_closed : (e at n : ℕ) (rest zeroed with_image : List ℕ) → 1 ≤ e → 1 ≤ at → zeroed ≡ replicate e 0 ++ rest → SameOutside at n zeroed with_image → IsClosed 0 with_image
block_closed e at n rest zeroed with_image some behind zeros same =
    closed_before at n 0 zeroed with_image same (omega (arith, behind)) (zeros_closed e 0 rest zeroed (omega (arith, some)) zeros)
