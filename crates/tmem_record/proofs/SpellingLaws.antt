-- What the bytes of a spelling say of what they spell: a number is read back, and no spelling of a part is a prefix of
-- another's.
use Rattle.std.proofs.Common.{◌≡◌, ◌<◌, ◌≤◌, ◌+◌, ◌*◌, ◌/◌, ◌%◌, ◌^◌, ℕ, zero, suc, ℤ, pos, negsuc, List, [], ◌∷◌, ◌++◌, length, take, drop, flat_map, refl, sym, ◌∙◌, ap, arith, length-append, append_assoc}
use Rattle.std.specs.Prelude.{All, FitsSigned, slice_index}
use Rattle.std.specs.Int.{w64, cast_unsigned, cast_signed, byte_at, bytes_low_first}
use Rattle.std.proofs.Math.Nat.{div-div-eq-div-mul, div-one, pow-succ'}
use Rattle.std.proofs.lemmas.Int.{to_z-of_z, ints}
use Rattle.std.proofs.lemmas.List.{take_at, drop_at, drop_more}
use Rattle.std.proofs.lemmas.List.Elements.{All-head, All-tail}
use Rattle.byteorder.specs.Endian.{little_from, little_number, little_bytes}
use Rattle.byteorder.specs.Numbers.{length-bytes_low_first, little_number-reads_back}
use Rattle.tmem_fault.specs.Name.{IsName}
use Rattle.tmem_effect.specs.State.{AreWrites, AreChecks, AreRegistered, IsEffect}
use Rattle.tmem_effect.specs.declared.effect.Effect.{Effect}
use Rattle.tmem_state.specs.Batch.{IsRecordIn}
use Rattle.tmem_state.specs.Versions.{MayRetire}
use Rattle.tmem_state.specs.declared.version.Version.{Version}
use Rattle.tmem_state.specs.declared.version.Version.TheVariants.{One, Two}
use Rattle.tmem_record.specs.Spelling.{number_bytes, value_bytes, write_bytes, name_bytes, writes_bytes, names_bytes, retired_bytes, record_bytes, batch_bytes, OneSpelling}

-- numbers that are bytes
abbrev pub IsBytes : List ℕ → Type 0
IsBytes xs = (i : ℕ) → slice_index xs i < 256

without : (m x y : ℕ) → x < 256 → (x + 256 * y) / 256 ^ suc m ≡ y / 256 ^ m
without m x y low =
    let top : (x + 256 * y) / 256 ≡ y = omega arith in
    ap (λ (p : ℕ). (x + 256 * y) / p) (pow-succ' 256 m) ∙ sym (div-div-eq-div-mul (x + 256 * y) 256 (256 ^ m)) ∙ ap (λ (q : ℕ). q / 256 ^ m) top

-- the bytes above the lowest are those of what is left
byte_at-suc : (j x y : ℕ) → x < 256 → byte_at (suc j) (x + 256 * y) ≡ byte_at j y
byte_at-suc zero x y low = ap (λ (q : ℕ). q % 256) (without 0 x y low ∙ div-one y)
byte_at-suc (suc j) x y low = ap (λ (q : ℕ). q % 256) (without (suc j) x y low)

bytes_above : (j k x y : ℕ) → x < 256 → bytes_low_first (suc j) k (x + 256 * y) ≡ bytes_low_first j k y
bytes_above j zero x y low = refl
bytes_above j (suc k) x y low = ap (λ (b : ℕ). b ∷ bytes_low_first (suc (suc j)) k (x + 256 * y)) (byte_at-suc j x y low) ∙ ap (λ (l : List ℕ). byte_at j y ∷ l) (bytes_above (suc j) k x y low)

spelled_from : (n i : ℕ) (xs : List ℕ) → IsBytes xs → i + n ≤ length xs → bytes_low_first 0 n (little_from i n xs) ≡ take n (drop i xs)
spelled_from zero i xs bytes room = refl
spelled_from (suc n) i xs bytes room =
    let next : suc i ≡ i + 1 = omega arith in
    ap (λ (b : ℕ). b ∷ bytes_low_first 1 n (slice_index xs i + 256 * little_from (suc i) n xs)) lowest
    ∙ ap (λ (l : List ℕ). slice_index xs i ∷ l) (bytes_above 0 n (slice_index xs i) (little_from (suc i) n xs) (bytes i) ∙ spelled_from n (suc i) xs bytes (omega arith) ∙ ap (λ (k : ℕ). take n (drop k xs)) next)
    ∙ ap (take (suc n)) (sym (drop_more xs i 0 (omega arith)))
  where
    lowest : byte_at 0 (slice_index xs i + 256 * little_from (suc i) n xs) ≡ slice_index xs i
    lowest = let low = bytes i in omega arith

-- what is read as a number is spelled by it
pub take-spelled : (n : ℕ) (xs : List ℕ) → IsBytes xs → n ≤ length xs → take n xs ≡ little_bytes n (little_number n xs)
take-spelled n xs bytes room = sym (spelled_from n 0 xs bytes (omega arith))

-- what spells a number is read as it
pub number-spelled : (n x : ℕ) (rest : List ℕ) → x < 256 ^ n → little_number n (little_bytes n x ++ rest) ≡ x
number-spelled n x rest fits = little_number-reads_back n x rest fits

pub length-number_bytes : (n x : ℕ) → length (number_bytes n x) ≡ n
unfolding number_bytes
length-number_bytes n x = length-bytes_low_first 0 n x

pub length-value_bytes : (z : ℤ) → length (value_bytes z) ≡ 8
unfolding value_bytes
length-value_bytes z = length-number_bytes 8 (cast_unsigned w64 z)

pub length-write_bytes : (w : ℕ × ℤ) → length (write_bytes w) ≡ 10
unfolding write_bytes
length-write_bytes w = omega (arith, length-append (number_bytes 2 w.0) (value_bytes w.1), length-number_bytes 2 w.0, length-value_bytes w.1)

-- of two spellings in front of one list the values are one, and so is what follows
abbrev pub Delimits : {X : Type 0} → (X → Type 0) → (X → List ℕ) → Type 0
Delimits {X = X} P f = (x y : X) (r s : List ℕ) → P x → P y → f x ++ r ≡ f y ++ s → (x ≡ y) × (r ≡ s)

-- two parts of one length in front of one list
pub same_parts : (a b r s : List ℕ) → length a ≡ length b → a ++ r ≡ b ++ s → (a ≡ b) × (r ≡ s)
same_parts a b r s long same =
    (sym (take_at a r (length a) refl) ∙ ap (take (length a)) same ∙ take_at b s (length a) (sym long), sym (drop_at a r (length a) refl) ∙ ap (drop (length a)) same ∙ drop_at b s (length a) (sym long))

pub same_cons : (m n : ℕ) (r s : List ℕ) → m ∷ r ≡ n ∷ s → (m ≡ n) × (r ≡ s)
same_cons m n r s same = (cc, cc)

-- a number that is spelled is one
one_number : (n x y : ℕ) → x < 256 ^ n → y < 256 ^ n → number_bytes n x ≡ number_bytes n y → x ≡ y
unfolding number_bytes
one_number n x y fits fits' same =
    sym (number-spelled n x [] fits) ∙ ap (λ (l : List ℕ). little_number n (l ++ [])) same ∙ number-spelled n y [] fits'

pub delimits_number : (n : ℕ) → Delimits (λ x. x < 256 ^ n) (number_bytes n)
delimits_number n x y r s fits fits' same =
    let parts = same_parts (number_bytes n x) (number_bytes n y) r s (length-number_bytes n x ∙ sym (length-number_bytes n y)) same in
    (one_number n x y fits fits' parts.0, parts.1)

fits_unsigned : (z : ℤ) → FitsSigned w64 z → cast_unsigned w64 z < 2 ^ 64
fits_unsigned (pos n) fits = omega (arith, ints, fits)
fits_unsigned (negsuc n) fits = omega (arith, ints, fits)

pub delimits_value : Delimits (FitsSigned w64) value_bytes
unfolding value_bytes
delimits_value x y r s fits fits' same =
    let parts = delimits_number 8 (cast_unsigned w64 x) (cast_unsigned w64 y) r s (fits_unsigned x fits) (fits_unsigned y fits') same in
    (sym (to_z-of_z w64 x fits) ∙ ap (cast_signed w64) parts.0 ∙ to_z-of_z w64 y fits', parts.1)

-- a write of one of so many variables, with a value of 64 bits
pub record IsWriteWithin (vars : ℕ) (w : ℕ × ℤ) : Type 0 where
  pub within : w.0 < vars
  pub fits : FitsSigned w64 w.1

-- writes of so many variables
pub record AreWritesWithin (vars : ℕ) (ws : List (ℕ × ℤ)) : Type 0 where
  pub are_writes : AreWrites ws
  pub within : All (λ (w : ℕ × ℤ). w.0 < vars) ws

pub each_write : (vars : ℕ) (ws : List (ℕ × ℤ)) → AreWritesWithin vars ws → All (IsWriteWithin vars) ws
each_write vars ws are k d below = record { within = are.within k d below; fits = are.are_writes.fits k d below }

pub writes_within : (vars : ℕ) (e : Effect) → IsEffect vars e → AreWritesWithin vars e.writes
writes_within vars e is = record { are_writes = is.writes; within = is.within }

pub delimits_write : (vars : ℕ) → vars ≤ 2 ^ 16 → Delimits (IsWriteWithin vars) write_bytes
unfolding write_bytes
delimits_write vars few v w r s is is' same =
    let grouped = sym (append_assoc (number_bytes 2 v.0) (value_bytes v.1) r) ∙ same ∙ append_assoc (number_bytes 2 w.0) (value_bytes w.1) s in
    let var = delimits_number 2 v.0 w.0 (value_bytes v.1 ++ r) (value_bytes w.1 ++ s) (omega (arith, is.within)) (omega (arith, is'.within)) grouped in
    let value = delimits_value v.1 w.1 r s is.fits is'.fits var.1 in
    (ap (λ (n : ℕ). (n, v.1)) var.0 ∙ ap (λ (z : ℤ). (w.0, z)) value.0, value.1)

pub delimits_name : Delimits IsName name_bytes
unfolding name_bytes
delimits_name m n r s is is' same =
    let parts = same_cons (length m) (length n) (m ++ r) (n ++ s) same in
    same_parts m n r s parts.0 parts.1

-- and so of as many one after another
pub delimits_all : {X : Type 0} (P : X → Type 0) (f : X → List ℕ) → Delimits P f → (xs ys : List X) (r s : List ℕ) → length xs ≡ length ys → All P xs → All P ys → flat_map f xs ++ r ≡ flat_map f ys ++ s → (xs ≡ ys) × (r ≡ s)
delimits_all P f one [] [] r s long ps qs same = (refl, same)
delimits_all P f one [] (y ∷ ys) r s long ps qs same = absurd (omega (arith, long))
delimits_all P f one (x ∷ xs) [] r s long ps qs same = absurd (omega (arith, long))
delimits_all P f one (x ∷ xs) (y ∷ ys) r s long ps qs same =
    let grouped = sym (append_assoc (f x) (flat_map f xs) r) ∙ same ∙ append_assoc (f y) (flat_map f ys) s in
    let first = one x y (flat_map f xs ++ r) (flat_map f ys ++ s) (All-head P x xs ps) (All-head P y ys qs) grouped in
    let rest = delimits_all P f one xs ys r s (omega (arith, long)) (All-tail P x xs ps) (All-tail P y ys qs) first.1 in
    (ap (λ v. v ∷ xs) first.0 ∙ ap (λ l. y ∷ l) rest.0, rest.1)

pub delimits_writes : (vars : ℕ) → vars ≤ 2 ^ 16 → Delimits (AreWritesWithin vars) writes_bytes
unfolding writes_bytes
delimits_writes vars few vs ws r s is is' same =
    let parts = same_cons (length vs) (length ws) (flat_map write_bytes vs ++ r) (flat_map write_bytes ws ++ s) same in
    delimits_all (IsWriteWithin vars) write_bytes (delimits_write vars few) vs ws r s parts.0 (each_write vars vs is) (each_write vars ws is') parts.1

delimits_list : Delimits (All IsName) names_bytes
unfolding names_bytes
delimits_list ms ns r s are are' same =
    let parts = same_cons (length ms) (length ns) (flat_map name_bytes ms ++ r) (flat_map name_bytes ns ++ s) same in
    delimits_all IsName name_bytes delimits_name ms ns r s parts.0 are are' parts.1

pub delimits_names : Delimits AreChecks names_bytes
delimits_names ms ns r s is is' same = delimits_list ms ns r s is.names is'.names same

-- also of the names that a state has
pub delimits_registered : Delimits AreRegistered names_bytes
delimits_registered ms ns r s is is' same = delimits_list ms ns r s is.names is'.names same

-- a record, part by part
pub record_parts : (v : Version) (e : Effect) (x : List ℕ) → record_bytes v e ++ x ≡ writes_bytes e.writes ++ (names_bytes e.names ++ (retired_bytes v e.retired ++ x))
unfolding record_bytes
record_parts v e x = append_assoc (writes_bytes e.writes) (names_bytes e.names ++ retired_bytes v e.retired) x ∙ ap (λ (l : List ℕ). writes_bytes e.writes ++ l) (append_assoc (names_bytes e.names) (retired_bytes v e.retired) x)

-- what a record has of its retired names, where the version allows them
pub record AreRetiredIn (v : Version) (ns : List (List ℕ)) : Type 0 where
  pub are_checks : AreChecks ns
  pub may_retire : MayRetire v ns

pub delimits_retired : (v : Version) → Delimits (AreRetiredIn v) (retired_bytes v)
delimits_retired One ms ns r s is is' same = (is.may_retire ∙ sym is'.may_retire, same)
delimits_retired Two ms ns r s is is' same = delimits_names ms ns r s is.are_checks is'.are_checks same

pub retired_in : (v : Version) (vars : ℕ) (e : Effect) → IsRecordIn v vars e → AreRetiredIn v e.retired
retired_in v vars e is = record { are_checks = is.loggable.effect.retired; may_retire = is.may_retire }

pub delimits_record : (v : Version) (vars : ℕ) → vars ≤ 2 ^ 16 → Delimits (IsRecordIn v vars) (record_bytes v)
delimits_record v vars few d e r s is is' same =
    let whole = sym (record_parts v d r) ∙ same ∙ record_parts v e s in
    let writes = delimits_writes vars few d.writes e.writes (names_bytes d.names ++ (retired_bytes v d.retired ++ r)) (names_bytes e.names ++ (retired_bytes v e.retired ++ s)) (writes_within vars d is.loggable.effect) (writes_within vars e is'.loggable.effect) whole in
    let names = delimits_names d.names e.names (retired_bytes v d.retired ++ r) (retired_bytes v e.retired ++ s) is.loggable.effect.names is'.loggable.effect.names writes.1 in
    let retired = delimits_retired v d.retired e.retired r s (retired_in v vars d is) (retired_in v vars e is') names.1 in (
      ap (λ (ws : List (ℕ × ℤ)). record { writes = ws; names = d.names; retired = d.retired }) writes.0 ∙ ap (λ (ns : List (List ℕ)). record { writes = e.writes; names = ns; retired = d.retired }) names.0
          ∙ ap (λ (ns : List (List ℕ)). record { writes = e.writes; names = e.names; retired = ns }) retired.0,
      retired.1,
    )

grouped : (a b c d x : List ℕ) → (a ++ (b ++ (c ++ d))) ++ x ≡ a ++ (b ++ (c ++ (d ++ x)))
grouped a b c d x = simp append_assoc

-- a batch, its head part by part
pub batch_parts : (v : Version) (g f : ℕ) (es : List Effect) (x : List ℕ) → batch_bytes v g f es ++ x ≡ number_bytes 8 g ++ (number_bytes 8 f ++ (number_bytes 2 (length es) ++ (flat_map (record_bytes v) es ++ x)))
unfolding batch_bytes
batch_parts v g f es x = grouped (number_bytes 8 g) (number_bytes 8 f) (number_bytes 2 (length es)) (flat_map (record_bytes v) es) x

-- the numbers at the head are those of each batch that is spelled there
pub head_of : (g f n g' f' n' : ℕ) (r s : List ℕ) → g < 2 ^ 64 → f < 2 ^ 64 → n < 2 ^ 16 → g' < 2 ^ 64 → f' < 2 ^ 64 → n' < 2 ^ 16
    → number_bytes 8 g ++ (number_bytes 8 f ++ (number_bytes 2 n ++ r)) ≡ number_bytes 8 g' ++ (number_bytes 8 f' ++ (number_bytes 2 n' ++ s)) → (g ≡ g') × (f ≡ f') × (n ≡ n') × (r ≡ s)
head_of g f n g' f' n' r s fits_g fits_f fits_n fits_g' fits_f' fits_n' same =
    let first = delimits_number 8 g g' (number_bytes 8 f ++ (number_bytes 2 n ++ r)) (number_bytes 8 f' ++ (number_bytes 2 n' ++ s)) fits_g fits_g' same in
    let second = delimits_number 8 f f' (number_bytes 2 n ++ r) (number_bytes 2 n' ++ s) fits_f fits_f' first.1 in
    let third = delimits_number 2 n n' r s fits_n fits_n' second.1 in
    (first.0, second.0, third.0, third.1)

pub one_spelling : OneSpelling
one_spelling v vars g g' f f' es es' a b x y few is is' same =
    let whole = sym (batch_parts v g f es x) ∙ ap (λ (l : List ℕ). l ++ x) (sym is.spelled) ∙ same ∙ ap (λ (l : List ℕ). l ++ y) is'.spelled ∙ batch_parts v g' f' es' y in
    let head = head_of g f (length es) g' f' (length es') (flat_map (record_bytes v) es ++ x) (flat_map (record_bytes v) es' ++ y) is.generation_fits is.first_fits (omega (arith, is.batch.few)) is'.generation_fits is'.first_fits (omega (arith, is'.batch.few)) whole in
    let records = delimits_all (IsRecordIn v vars) (record_bytes v) (delimits_record v vars few) es es' x y head.2 is.batch.each is'.batch.each head.3 in
    let spelled = is.spelled ∙ ap (λ (n : ℕ). batch_bytes v n f es) head.0 ∙ ap (λ (n : ℕ). batch_bytes v g' n es) head.1 ∙ ap (λ (l : List Effect). batch_bytes v g' f' l) records.0 ∙ sym is'.spelled in
    (spelled, records.1, head.0, head.1, records.0)
