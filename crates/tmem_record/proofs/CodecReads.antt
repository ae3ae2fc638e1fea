-- What was read so far, one after another, and that nothing else is spelled there.
use Rattle.std.proofs.Common.{◌≡◌, ◌<◌, ◌≤◌, ◌+◌, ◌-◌, ◌^◌, ◌==◌, ℕ, suc, ℤ, Bool, true, false, cond, nat_eq, List, [], ◌∷◌, ◌++◌, length, take, drop, flat_map, Some, is_some, IsNone, bytes_eq, refl, sym, ◌∙◌, ap, subst, arith, append_assoc, length-append}
use Rattle.std.specs.Prelude.{All, FitsSigned, Any, Option, None, IfNone}
use Rattle.std.specs.Int.{w64, cast_signed, cast_unsigned}
use Rattle.std.proofs.lemmas.Bool.Decides.{nat_tests}
use Rattle.std.proofs.lemmas.Int.{of_z-to_z}
use Rattle.std.proofs.lemmas.List.{append-nil, length_push, length-map, get_or-map, get_or_at, get_or_append_left, take-append-drop, take_rest, take_at, length-take-le, nil_from_length}
use Rattle.std.proofs.lemmas.List.Concat.{flat_map-append}
use Rattle.std.proofs.lemmas.List.Elements.{All-push, All-nil}
use Rattle.std.proofs.lemmas.List.Folds.{Any-from_list_any}
use Rattle.std.specs.Str.{IsUtf8}
use Rattle.std.proofs.lemmas.Str.{IsUtf8-from_ascii}
use Rattle.std.proofs.lemmas.Str.Ascii.{IsAscii-from_all}
use Rattle.std.proofs.lemmas.Slice.Eq.{bytes_eq-Decides}
use Rattle.byteorder.specs.Endian.{little_bytes, little_number}
use Rattle.byteorder.specs.Numbers.{little_from-lt}
use Rattle.tmem_fault.specs.Name.{IsName}
use Rattle.tmem_effect.specs.State.{AreWrites, AreChecks, variables, value_in, with_write, has_name, with_name}
use Rattle.tmem_effect.specs.declared.effect.Effect.{Effect}
use Rattle.tmem_effect.specs.Prefix.{IsPrefix}
use Rattle.tmem_state.specs.Versions.{MayRetire}
use Rattle.tmem_state.specs.declared.version.Version.{Version}
use Rattle.tmem_state.specs.declared.version.Version.TheVariants.{One}
use Rattle.tmem_state.specs.Batch.{records_length_in, IsRecordIn, IsBatchIn}
use Rattle.tmem_record.specs.Spelling.{number_bytes, value_bytes, write_bytes, name_bytes, writes_bytes, names_bytes, retired_bytes, record_bytes, batch_bytes, SpellsBatch}
use Rattle.tmem_effect.proofs.Laws.{IsPrefix-append, IsPrefix-rest, AreChecks-push, is_some-value_in, AreWrites-push}
use Rattle.tmem_record.proofs.CodecWrites.{length-records}
use Rattle.tmem_record.proofs.SpellingLaws.{IsBytes, take-spelled, Delimits, IsWriteWithin, AreWritesWithin, each_write, writes_within, same_cons, length-number_bytes, length-write_bytes, delimits_number, delimits_write, delimits_name, delimits_writes, delimits_names, delimits_all, AreRetiredIn, retired_in, delimits_retired, record_parts, delimits_record, batch_parts, head_of}

-- what holds anyway holds where nothing is answered
pub or_none : {X : Type 0} {P : Type 0} (o : Option X) → P → IfNone o P
or_none None holds = holds
or_none (Some x) holds = tt

-- a number and what follows it
pub number_front : (n x : ℕ) (bytes : List ℕ) → IsBytes bytes → n ≤ length bytes → x ≡ little_number n bytes → bytes ≡ number_bytes n x ++ take (length bytes - n) (drop n bytes)
unfolding number_bytes
number_front n x bytes each room is =
    sym (take-append-drop n bytes) ∙ ap (λ (l : List ℕ). l ++ drop n bytes) (take-spelled n bytes each room ∙ ap (little_bytes n) (sym is)) ∙ ap (λ (l : List ℕ). little_bytes n x ++ l) (sym (take_rest bytes n))

pub value_front : (z : ℤ) (bytes : List ℕ) → IsBytes bytes → 8 ≤ length bytes → z ≡ cast_signed w64 (little_number 8 bytes) → bytes ≡ value_bytes z ++ take (length bytes - 8) (drop 8 bytes)
unfolding value_bytes
value_front z bytes each room is =
    let fits = little_from-lt 0 8 bytes each in
    number_front 8 (cast_unsigned w64 z) bytes each room (ap (cast_unsigned w64) is ∙ of_z-to_z w64 (little_number 8 bytes) fits)

-- a write from its two parts
pub write_front : (bytes behind rest : List ℕ) (var : ℕ) (value : ℤ) → bytes ≡ number_bytes 2 var ++ behind → behind ≡ value_bytes value ++ rest → bytes ≡ write_bytes (var, value) ++ rest
unfolding write_bytes
write_front bytes behind rest var value first second =
    first ∙ ap (λ (l : List ℕ). number_bytes 2 var ++ l) second ∙ sym (append_assoc (number_bytes 2 var) (value_bytes value) rest)

-- where a variable that does not exist stands first, no write is spelled there
pub no_such_variable : (vars var : ℕ) (bytes behind : List ℕ) → bytes ≡ number_bytes 2 var ++ behind → var < 2 ^ 16 → vars ≤ var → (w : ℕ × ℤ) (s : List ℕ) → w.0 < vars → bytes ≡ write_bytes w ++ s → ⊥
unfolding write_bytes
no_such_variable vars var bytes behind parts fits beyond w s within same =
    let first = delimits_number 2 var w.0 behind (value_bytes w.1 ++ s) fits (omega (arith, within)) (sym parts ∙ same ∙ append_assoc (number_bytes 2 w.0) (value_bytes w.1) s) in
    absurd (omega (arith, first.0, within))

pub no_room_for_write : (bytes rest : List ℕ) (w : ℕ × ℤ) → length bytes < 10 → bytes ≡ write_bytes w ++ rest → ⊥
no_room_for_write bytes rest w short same = absurd (omega (arith, ap length same, length-append (write_bytes w) rest, length-write_bytes w))

-- what holds of a list holds of an element amidst it
middle : {X : Type 0} (P : X → Type 0) (xs zs : List X) (z : X) → All P (xs ++ z ∷ zs) → P z
middle P xs zs z all = subst P (get_or_at xs z zs z (length xs) refl) (all (length xs) z (omega (arith, length-append xs (z ∷ zs))))

-- so many were read, and this is left
pub record HasRead {X : Type 0} (V : List X → Type 0) (f : X → List ℕ) (i : ℕ) (xs : List X) (bytes rest : List ℕ) : Type 0 where
  pub valid : V xs
  pub counted : length xs ≡ i
  pub left : bytes ≡ flat_map f xs ++ rest

pub read_none : {X : Type 0} (V : List X → Type 0) (f : X → List ℕ) (bytes : List ℕ) → V [] → HasRead V f 0 [] bytes bytes
read_none V f bytes valid = record { valid = valid; counted = refl; left = refl }

pub read_more : {X : Type 0} (V : List X → Type 0) (f : X → List ℕ) (i : ℕ) (xs : List X) (x : X) (bytes rest next : List ℕ) → HasRead V f i xs bytes rest → V (xs ++ x ∷ []) → rest ≡ f x ++ next → HasRead V f (i + 1) (xs ++ x ∷ []) bytes next
read_more V f i xs x bytes rest next read valid same = record {
  valid = valid;
  counted = length_push xs x ∙ ap (λ (n : ℕ). n + 1) read.counted;
  left =
      read.left ∙ ap (λ (l : List ℕ). flat_map f xs ++ l) same ∙ sym (append_assoc (flat_map f xs) (f x) next)
      ∙ ap (λ (l : List ℕ). l ++ next) (ap (λ (l : List ℕ). flat_map f xs ++ l) (sym (append-nil (f x))) ∙ sym (flat_map-append f xs (x ∷ [])));
}

-- a longer list that is spelled there goes on from what was read
goes_on : {X : Type 0} (P : X → Type 0) (f : X → List ℕ) → Delimits P f → (xs os : List X) (r s : List ℕ) → All P xs → All P os → length xs < length os → flat_map f xs ++ r ≡ flat_map f os ++ s
    → (z : X) × (zs : List X) × (os ≡ xs ++ z ∷ zs) × (r ≡ f z ++ (flat_map f zs ++ s))
goes_on P f one [] [] r s ps qs less same = absurd (omega arith)
goes_on P f one [] (o ∷ os) r s ps qs less same = (o, os, refl, same ∙ append_assoc (f o) (flat_map f os) s)
goes_on P f one (x ∷ xs) [] r s ps qs less same = absurd (omega arith)
goes_on P f one (x ∷ xs) (o ∷ os) r s ps qs less same =
    let grouped : f x ++ (flat_map f xs ++ r) ≡ f o ++ (flat_map f os ++ s) = sym (append_assoc (f x) (flat_map f xs) r) ∙ same ∙ append_assoc (f o) (flat_map f os) s in
    let first = one x o (flat_map f xs ++ r) (flat_map f os ++ s) (ps 0 x (omega arith)) (qs 0 o (omega arith)) grouped in
    let rest = goes_on P f one xs os r s (λ k d below. ps (suc k) d (omega arith)) (λ k d below. qs (suc k) d (omega arith)) (omega arith) first.1 in
    let whole : o ∷ os ≡ x ∷ (xs ++ rest.0 ∷ rest.1) = ap (λ l. o ∷ l) rest.2 ∙ ap (λ v. v ∷ (xs ++ rest.0 ∷ rest.1)) (sym first.0) in
    (rest.0, rest.1, whole, rest.3)

module _ {X : Type 0} (V : List X → Type 0) (P : X → Type 0) (f : X → List ℕ) (each : (xs : List X) → V xs → All P xs) (one : Delimits P f) (i count : ℕ) (xs : List X) (bytes rest : List ℕ) (read : HasRead V f i xs bytes rest) (less : i < count) where
  following : (os : List X) (s : List ℕ) → length os ≡ count → V os → bytes ≡ flat_map f os ++ s → (z : X) × (zs : List X) × (os ≡ xs ++ z ∷ zs) × (rest ≡ f z ++ (flat_map f zs ++ s))
  following os s counted valid same =
      goes_on P f one xs os rest s (each xs read.valid) (each os valid) (omega (arith, read.counted, counted)) (sym read.left ∙ same)

  -- where none is spelled next, no list of so many is
  pub none_next : ((z : X) (t : List ℕ) → P z → rest ≡ f z ++ t → ⊥) → (os : List X) (s : List ℕ) → length os ≡ count → V os → bytes ≡ flat_map f os ++ s → ⊥
  none_next none os s counted valid same =
      let more = following os s counted valid same in
      none more.0 (flat_map f more.1 ++ s) (middle P xs more.1 more.0 (subst (All P) more.2 (each os valid))) more.3

  -- where one is spelled next, it stands in each list of so many
  pub one_next : (x : X) (next : List ℕ) → P x → rest ≡ f x ++ next → (os : List X) (s : List ℕ) → length os ≡ count → V os → bytes ≡ flat_map f os ++ s → (zs : List X) × (os ≡ xs ++ x ∷ zs)
  one_next x next is here os s counted valid same =
      let more = following os s counted valid same in
      let same_one = one more.0 x (flat_map f more.1 ++ s) next (middle P xs more.1 more.0 (subst (All P) more.2 (each os valid))) is (sym more.3 ∙ here) in
      (more.1, more.2 ∙ ap (λ z. xs ++ z ∷ more.1) same_one.0)

-- lists of a kind that are spelled behind their count
pub record Counted (X : Type 0) : Type 1 where
  pub Are : List X → Type 0
  pub Is : X → Type 0
  pub one : X → List ℕ
  pub all : List X → List ℕ
  pub limit : ℕ
  pub each : (xs : List X) → Are xs → All Is xs
  pub few : (xs : List X) → Are xs → length xs ≤ limit
  pub delimits : Delimits Is one
  pub spelled : (xs : List X) → all xs ≡ length xs ∷ flat_map one xs

pub no_bytes : {X : Type 0} (k : Counted X) (bytes : List ℕ) → bytes ≡ [] → (os : List X) (rest : List ℕ) → k.Are os → bytes ≡ k.all os ++ rest → ⊥
no_bytes k bytes none os rest are same =
    absurd (omega (arith, ap length none, ap length (same ∙ ap (λ (l : List ℕ). l ++ rest) (k.spelled os))))

module _ {X : Type 0} (k : Counted X) (count : ℕ) (bytes behind : List ℕ) (parts : bytes ≡ count ∷ behind) where
  split : (os : List X) (s : List ℕ) → bytes ≡ k.all os ++ s → (length os ≡ count) × (behind ≡ flat_map k.one os ++ s)
  split os s same =
      let cells = same_cons count (length os) behind (flat_map k.one os ++ s) (sym parts ∙ same ∙ ap (λ (l : List ℕ). l ++ s) (k.spelled os)) in
      (sym cells.0, cells.1)

  pub all_found : (i : ℕ) (xs : List X) (rest : List ℕ) → HasRead k.Are k.one i xs behind rest → count ≡ i → bytes ≡ k.all xs ++ rest
  all_found i xs rest read all =
      parts ∙ ap (λ (l : List ℕ). count ∷ l) read.left ∙ ap (λ (n : ℕ). n ∷ (flat_map k.one xs ++ rest)) (all ∙ sym read.counted)
      ∙ ap (λ (l : List ℕ). l ++ rest) (sym (k.spelled xs))

  pub too_many : k.limit < count → (os : List X) (s : List ℕ) → k.Are os → bytes ≡ k.all os ++ s → ⊥
  too_many more os s are same = absurd (omega (arith, (split os s same).0, k.few os are))

  module _ (i : ℕ) (xs : List X) (rest : List ℕ) (read : HasRead k.Are k.one i xs behind rest) (less : i < count) where
    pub none_more : ((x : X) (t : List ℕ) → k.Is x → rest ≡ k.one x ++ t → ⊥) → (os : List X) (s : List ℕ) → k.Are os → bytes ≡ k.all os ++ s → ⊥
    none_more none os s are same =
        let parted = split os s same in
        none_next k.Are k.Is k.one k.each k.delimits i count xs behind rest read less none os s parted.0 are parted.1

    pub one_more : (x : X) (next : List ℕ) → k.Is x → rest ≡ k.one x ++ next → (os : List X) (s : List ℕ) → k.Are os → bytes ≡ k.all os ++ s → (zs : List X) × (os ≡ xs ++ x ∷ zs)
    one_more x next is here os s are same =
        let parted = split os s same in
        one_next k.Are k.Is k.one k.each k.delimits i count xs behind rest read less x next is here os s parted.0 are parted.1

-- writes

pub no_writes : (vars : ℕ) → AreWritesWithin vars []
no_writes vars = record {
  are_writes = record { few = omega arith; distinct = λ i j d before below. absurd (omega (arith, below)); fits = All-nil (λ (w : ℕ × ℤ). FitsSigned w64 w.1) };
  within = All-nil (λ (w : ℕ × ℤ). w.0 < vars);
}

-- a variable that is not written joins the writes at their end
with_write_new : (ws : List (ℕ × ℤ)) (var : ℕ) (value : ℤ) → IsNone (value_in ws var) → with_write ws var value ≡ ws ++ (var, value) ∷ []
with_write_new [] var value new = refl
with_write_new (w ∷ ws) var value new = by (nat_eq var w.0) (with_write_new ws var value) new
  where
    by : (b : Bool) → (IsNone (value_in ws var) → with_write ws var value ≡ ws ++ (var, value) ∷ []) → IsNone (cond b (Some w.1) (value_in ws var)) → cond b ((var, value) ∷ ws) (w ∷ with_write ws var value) ≡ w ∷ (ws ++ (var, value) ∷ [])
    by true rest written = cc
    by false rest new = ap (λ (l : List (ℕ × ℤ)). w ∷ l) (rest new)

-- a variable that is written stands in one of the writes
written_there : (ws : List (ℕ × ℤ)) (var : ℕ) → is_some (value_in ws var) ≡ true → Any (λ (u : ℕ × ℤ). u.0 ≡ var) ws
written_there ws var written =
    let any = Any-from_list_any (λ (u : ℕ × ℤ). var == u.0) ws (sym (is_some-value_in ws var) ∙ written) in
    (any.0, any.1, any.2, any.3, sym (grind (arith, nat_tests, any.4)))

not_twice : (ws zs : List (ℕ × ℤ)) (w : ℕ × ℤ) → AreWrites (ws ++ w ∷ zs) → is_some (value_in ws w.0) ≡ true → ⊥
not_twice ws zs w are written =
    let any = written_there ws w.0 written in
    let var : ℕ × ℤ → ℕ = λ u. u.0 in
    let all : List (ℕ × ℤ) = ws ++ w ∷ zs in
    let long = length-append ws (w ∷ zs) in
    let mapped : length (variables all) ≡ length all = length-map all var in
    let first = get_or-map var all any.0 any.1 0 (omega (arith, any.2, long)) in
    let second = get_or-map var all (length ws) w 0 (omega (arith, long)) in
    let is_first = ap var (get_or_append_left ws (w ∷ zs) any.1 any.0 any.2 ∙ any.3) ∙ any.4 in
    let is_second = ap var (get_or_at ws w zs w (length ws) refl) in
    are.distinct any.0 (length ws) 0 any.2 (omega (arith, mapped, long)) (first ∙ is_first ∙ sym is_second ∙ sym second)

-- so many writes were read
abbrev pub ReadWrites : ℕ → ℕ → List (ℕ × ℤ) → List ℕ → List ℕ → Type 0
ReadWrites vars i ws bytes rest = HasRead (AreWritesWithin vars) write_bytes i ws bytes rest

pub write_more : (vars i : ℕ) (ws : List (ℕ × ℤ)) (w : ℕ × ℤ) (bytes rest next : List ℕ) → ReadWrites vars i ws bytes rest → i < 64 → IsWriteWithin vars w → IsNone (value_in ws w.0) → rest ≡ write_bytes w ++ next → ReadWrites vars (i + 1) (with_write ws w.0 w.1) bytes next
write_more vars i ws w bytes rest next read room is new same =
    subst (λ (l : List (ℕ × ℤ)). ReadWrites vars (i + 1) l bytes next) (sym (with_write_new ws w.0 w.1 new))
    (read_more (AreWritesWithin vars) write_bytes i ws w bytes rest next read (record {
      are_writes = AreWrites-push ws w.0 w.1 new (omega (arith, read.counted)) is.fits read.valid.are_writes;
      within = All-push (λ (u : ℕ × ℤ). u.0 < vars) ws w read.valid.within is.within;
    }) same)

-- the writes behind their count
pub writes_spelled : (ws : List (ℕ × ℤ)) → writes_bytes ws ≡ length ws ∷ flat_map write_bytes ws
unfolding writes_bytes
writes_spelled ws = refl

abbrev pub written : (vars : ℕ) → vars ≤ 2 ^ 16 → Counted (ℕ × ℤ)
written vars few = record {
  Are = AreWritesWithin vars;
  Is = IsWriteWithin vars;
  one = write_bytes;
  all = writes_bytes;
  limit = 64;
  each = each_write vars;
  few = λ ws are. are.are_writes.few;
  delimits = delimits_write vars few;
  spelled = writes_spelled;
}

pub written_twice : (vars : ℕ) (few : vars ≤ 2 ^ 16) (count : ℕ) (bytes behind : List ℕ) → bytes ≡ count ∷ behind → (i : ℕ) (ws : List (ℕ × ℤ)) (rest : List ℕ) → ReadWrites vars i ws behind rest → i < count → (w : ℕ × ℤ) (next : List ℕ) → IsWriteWithin vars w → rest ≡ write_bytes w ++ next
    → is_some (value_in ws w.0) ≡ true → (os : List (ℕ × ℤ)) (s : List ℕ) → AreWritesWithin vars os → bytes ≡ writes_bytes os ++ s → ⊥
written_twice vars few count bytes behind parts i ws rest read less w next is here there os s are same =
    let more = one_more (written vars few) count bytes behind parts i ws rest read less w next is here os s are same in
    not_twice ws more.0 w (subst AreWrites more.1 are.are_writes) there

-- the same of writes that are well formed, and of variables that exist
pub of_writes : (vars : ℕ) (bytes : List ℕ) → ((ws : List (ℕ × ℤ)) (rest : List ℕ) → AreWritesWithin vars ws → bytes ≡ writes_bytes ws ++ rest → ⊥)
    → (ws : List (ℕ × ℤ)) (rest : List ℕ) → AreWrites ws → All (λ (w : ℕ × ℤ). w.0 < vars) ws → bytes ≡ writes_bytes ws ++ rest → ⊥
of_writes vars bytes none ws rest are within same = none ws rest (record { are_writes = are; within = within }) same

-- names

with_name_new : (ns : List (List ℕ)) (name : List ℕ) → has_name ns name ≡ false → with_name ns name ≡ ns ++ name ∷ []
with_name_new ns name new = by (has_name ns name) new
  where
    by : (b : Bool) → b ≡ false → cond b ns (ns ++ name ∷ []) ≡ ns ++ name ∷ []
    by true is = cc
    by false is = refl

not_checked_twice : (ns zs : List (List ℕ)) (name : List ℕ) → AreChecks (ns ++ name ∷ zs) → has_name ns name ≡ true → ⊥
not_checked_twice ns zs name are there =
    let any = Any-from_list_any (λ (n : List ℕ). bytes_eq n name) ns there in
    let long = length-append ns (name ∷ zs) in
    let first = get_or_append_left ns (name ∷ zs) any.1 any.0 any.2 ∙ any.3 ∙ (bytes_eq-Decides any.1 name).0 any.4 in
    let second = get_or_at ns name zs any.1 (length ns) refl in
    are.distinct any.0 (length ns) any.1 any.2 (omega (arith, long)) (first ∙ sym second)

abbrev pub ReadNames : ℕ → List (List ℕ) → List ℕ → List ℕ → Type 0
ReadNames i ns bytes rest = HasRead AreChecks name_bytes i ns bytes rest

pub name_more : (i : ℕ) (ns : List (List ℕ)) (name bytes rest next : List ℕ) → ReadNames i ns bytes rest → i < 8 → IsName name → has_name ns name ≡ false → rest ≡ name_bytes name ++ next → ReadNames (i + 1) (with_name ns name) bytes next
name_more i ns name bytes rest next read room is new same =
    subst (λ (l : List (List ℕ)). ReadNames (i + 1) l bytes next) (sym (with_name_new ns name new))
    (read_more AreChecks name_bytes i ns name bytes rest next read (AreChecks-push ns name new (omega (arith, read.counted)) is read.valid) same)

-- the names behind their count
pub names_spelled : (ns : List (List ℕ)) → names_bytes ns ≡ length ns ∷ flat_map name_bytes ns
unfolding names_bytes
names_spelled ns = refl

abbrev pub names_that : (Are : List (List ℕ) → Type 0) (limit : ℕ) → ((ns : List (List ℕ)) → Are ns → All IsName ns) → ((ns : List (List ℕ)) → Are ns → length ns ≤ limit) → Counted (List ℕ)
names_that Are limit each few = record {
  Are = Are;
  Is = IsName;
  one = name_bytes;
  all = names_bytes;
  limit = limit;
  each = each;
  few = few;
  delimits = delimits_name;
  spelled = names_spelled;
}

abbrev pub checks : Counted (List ℕ)
checks = names_that AreChecks 8 (λ ns are. are.names) (λ ns are. are.few)

pub checked_twice : (count : ℕ) (bytes behind : List ℕ) → bytes ≡ count ∷ behind → (i : ℕ) (ns : List (List ℕ)) (rest : List ℕ) → ReadNames i ns behind rest → i < count → (name next : List ℕ) → IsName name → rest ≡ name_bytes name ++ next
    → has_name ns name ≡ true → (os : List (List ℕ)) (s : List ℕ) → AreChecks os → bytes ≡ names_bytes os ++ s → ⊥
checked_twice count bytes behind parts i ns rest read less name next is here there os s are same =
    let more = one_more checks count bytes behind parts i ns rest read less name next is here os s are same in
    not_checked_twice ns more.0 name (subst AreChecks more.1 are) there

-- one name: its length, and as many letters
pub name_front : (bytes behind letters rest : List ℕ) (n : ℕ) → bytes ≡ n ∷ behind → n ≤ length behind → letters ≡ take n behind → rest ≡ drop n behind → bytes ≡ name_bytes letters ++ rest
unfolding name_bytes
name_front bytes behind letters rest n parts room is rest_is =
    let long : length letters ≡ n = ap length is ∙ length-take-le n behind room in
    parts ∙ ap (λ (l : List ℕ). n ∷ l) (sym (take-append-drop n behind) ∙ ap (λ (l : List ℕ). l ++ drop n behind) (sym is) ∙ ap (λ (l : List ℕ). letters ++ l) (sym rest_is)) ∙ ap (λ (k : ℕ). k ∷ (letters ++ rest)) (sym long)

-- each name that is spelled there has these letters
pub letters_of : (bytes behind : List ℕ) (n : ℕ) (name s : List ℕ) → bytes ≡ n ∷ behind → bytes ≡ name_bytes name ++ s → (length name ≡ n) × (n ≤ length behind) × (take n behind ≡ name)
unfolding name_bytes
letters_of bytes behind n name s parts same =
    let cells = same_cons n (length name) behind (name ++ s) (sym parts ∙ same) in
    (sym cells.0, omega (arith, cells.0, ap length cells.1, length-append name s), ap (take n) cells.1 ∙ take_at name s n (sym cells.0))

-- where these are no name, none is spelled there
pub no_name_there : (bytes behind letters : List ℕ) (n : ℕ) → bytes ≡ n ∷ behind → letters ≡ take n behind → (IsName letters → ⊥) → (name s : List ℕ) → IsName name → bytes ≡ name_bytes name ++ s → ⊥
no_name_there bytes behind letters n parts is not name s is_name same =
    let spelled = letters_of bytes behind n name s parts same in
    not (subst IsName (sym (is ∙ spelled.2)) is_name)

pub no_room_for_name : (bytes behind : List ℕ) (n : ℕ) → bytes ≡ n ∷ behind → length behind < n → (name s : List ℕ) → IsName name → bytes ≡ name_bytes name ++ s → ⊥
no_room_for_name bytes behind n parts short name s is_name same = absurd (omega (arith, (letters_of bytes behind n name s parts same).1))

-- a name is a text
pub name_is_text : (name : List ℕ) → IsName name → IsUtf8 name
name_is_text name is = IsUtf8-from_ascii name (IsAscii-from_all name (λ k d below. let letter = is.letters k d below in omega arith))

pub nothing_of_name : (bytes : List ℕ) → bytes ≡ [] → (name s : List ℕ) → IsName name → bytes ≡ name_bytes name ++ s → ⊥
unfolding name_bytes
nothing_of_name bytes none name s is same = absurd (omega (arith, ap length none, ap length same))

-- nothing spells the retired names of the first version
pub retired_none : (bytes : List ℕ) (ns : List (List ℕ)) → ns ≡ [] → bytes ≡ retired_bytes One ns ++ bytes
retired_none bytes ns none = refl

-- a record: its writes, its names, and its retired names
module _ (v : Version) (vars : ℕ) (few : vars ≤ 2 ^ 16) (bytes : List ℕ) where
  pub record_found : (e : Effect) (b1 b2 rest : List ℕ) → bytes ≡ writes_bytes e.writes ++ b1 → b1 ≡ names_bytes e.names ++ b2 → b2 ≡ retired_bytes v e.retired ++ rest → bytes ≡ record_bytes v e ++ rest
  record_found e b1 b2 rest first second third =
      first ∙ ap (λ (l : List ℕ). writes_bytes e.writes ++ l) (second ∙ ap (λ (l : List ℕ). names_bytes e.names ++ l) third) ∙ sym (record_parts v e rest)

  split_record : (e : Effect) (s : List ℕ) → bytes ≡ record_bytes v e ++ s → bytes ≡ writes_bytes e.writes ++ (names_bytes e.names ++ (retired_bytes v e.retired ++ s))
  split_record e s same = same ∙ record_parts v e s

  pub no_writes_there : ((ws : List (ℕ × ℤ)) (t : List ℕ) → AreWrites ws → All (λ (w : ℕ × ℤ). w.0 < vars) ws → bytes ≡ writes_bytes ws ++ t → ⊥) → (e : Effect) (s : List ℕ) → IsRecordIn v vars e → bytes ≡ record_bytes v e ++ s → ⊥
  no_writes_there none e s is same = none e.writes (names_bytes e.names ++ (retired_bytes v e.retired ++ s)) is.loggable.effect.writes is.loggable.effect.within (split_record e s same)

  -- behind these writes
  module _ (ws : List (ℕ × ℤ)) (b1 : List ℕ) (are : AreWritesWithin vars ws) (here : bytes ≡ writes_bytes ws ++ b1) where
    behind_writes : (e : Effect) (s : List ℕ) → IsRecordIn v vars e → bytes ≡ record_bytes v e ++ s → (ws ≡ e.writes) × (b1 ≡ names_bytes e.names ++ (retired_bytes v e.retired ++ s))
    behind_writes e s is same =
        delimits_writes vars few ws e.writes b1 (names_bytes e.names ++ (retired_bytes v e.retired ++ s)) are (writes_within vars e is.loggable.effect) (sym here ∙ split_record e s same)

    pub no_names_there : ((ns : List (List ℕ)) (t : List ℕ) → AreChecks ns → b1 ≡ names_bytes ns ++ t → ⊥) → (e : Effect) (s : List ℕ) → IsRecordIn v vars e → bytes ≡ record_bytes v e ++ s → ⊥
    no_names_there none e s is same = none e.names (retired_bytes v e.retired ++ s) is.loggable.effect.names (behind_writes e s is same).1

    -- and behind these names
    module _ (ns : List (List ℕ)) (b2 : List ℕ) (are_names : AreChecks ns) (there : b1 ≡ names_bytes ns ++ b2) where
      behind_names : (e : Effect) (s : List ℕ) → IsRecordIn v vars e → bytes ≡ record_bytes v e ++ s → (ns ≡ e.names) × (b2 ≡ retired_bytes v e.retired ++ s)
      behind_names e s is same =
          delimits_names ns e.names b2 (retired_bytes v e.retired ++ s) are_names is.loggable.effect.names (sym there ∙ (behind_writes e s is same).1)

      pub none_retired_there : ((ms : List (List ℕ)) (t : List ℕ) → AreChecks ms → MayRetire v ms → b2 ≡ retired_bytes v ms ++ t → ⊥) → (e : Effect) (s : List ℕ) → IsRecordIn v vars e → bytes ≡ record_bytes v e ++ s → ⊥
      none_retired_there none e s is same = none e.retired s is.loggable.effect.retired is.may_retire (behind_names e s is same).1

      -- each record that is spelled there is the one that was read
      pub one_record : (ms : List (List ℕ)) (b3 : List ℕ) → AreRetiredIn v ms → b2 ≡ retired_bytes v ms ++ b3 → (e : Effect) (s : List ℕ) → IsRecordIn v vars e → bytes ≡ record_bytes v e ++ s → e ≡ record { writes = ws; names = ns; retired = ms }
      one_record ms b3 are_retired last e s is same =
          let first = behind_writes e s is same in
          let second = behind_names e s is same in
          let third = delimits_retired v ms e.retired b3 s are_retired (retired_in v vars e is) (sym last ∙ second.1) in
          ap (λ (l : List (ℕ × ℤ)). record { writes = l; names = e.names; retired = e.retired }) (sym first.0) ∙ ap (λ (l : List (List ℕ)). record { writes = ws; names = l; retired = e.retired }) (sym second.0)
          ∙ ap (λ (l : List (List ℕ)). record { writes = ws; names = ns; retired = l }) (sym third.0)

-- records

abbrev pub ReadRecords : Version → ℕ → ℕ → List Effect → List ℕ → List ℕ → Type 0
ReadRecords v vars i es bytes rest = HasRead (All (IsRecordIn v vars)) (record_bytes v) i es bytes rest

pub record_more : (v : Version) (vars i : ℕ) (es : List Effect) (e : Effect) (bytes rest next : List ℕ) → ReadRecords v vars i es bytes rest → IsRecordIn v vars e → rest ≡ record_bytes v e ++ next → ReadRecords v vars (i + 1) (es ++ e ∷ []) bytes next
record_more v vars i es e bytes rest next read is same = read_more (All (IsRecordIn v vars)) (record_bytes v) i es e bytes rest next read (All-push (IsRecordIn v vars) es e read.valid is) same

pub no_record_next : (v : Version) (vars count : ℕ) (few : vars ≤ 2 ^ 16) (bytes : List ℕ) (i : ℕ) (es : List Effect) (rest : List ℕ) → ReadRecords v vars i es bytes rest → i < count
    → ((e : Effect) (t : List ℕ) → IsRecordIn v vars e → rest ≡ record_bytes v e ++ t → ⊥) → (os : List Effect) (s : List ℕ) → length os ≡ count → All (IsRecordIn v vars) os → bytes ≡ flat_map (record_bytes v) os ++ s → ⊥
no_record_next v vars count few bytes i es rest read less none os s counted are same =
    none_next (All (IsRecordIn v vars)) (IsRecordIn v vars) (record_bytes v) (λ xs all. all) (delimits_record v vars few) i count es bytes rest read less none os s counted are same

-- how many bytes so many records were read from
pub records_read : (v : Version) (es : List Effect) (bytes rest : List ℕ) → bytes ≡ flat_map (record_bytes v) es ++ rest → length bytes ≡ records_length_in v es + length rest
records_read v es bytes rest same = omega (arith, ap length same, length-append (flat_map (record_bytes v) es) rest, length-records v es)

-- where they were too many bytes, no batch of so many records is spelled there
pub too_long : (v : Version) (vars : ℕ) → vars ≤ 2 ^ 16 → (es : List Effect) (bytes rest : List ℕ) → All (IsRecordIn v vars) es → bytes ≡ flat_map (record_bytes v) es ++ rest → 4077 + length rest < length bytes
    → (os : List Effect) (s : List ℕ) → length os ≡ length es → IsBatchIn v vars os → bytes ≡ flat_map (record_bytes v) os ++ s → ⊥
too_long v vars few es bytes rest are here long os s counted is same =
    let one = delimits_all (IsRecordIn v vars) (record_bytes v) (delimits_record v vars few) os es s rest counted is.each are (sym same ∙ here) in
    absurd (omega (arith, is.fits, ap (records_length_in v) one.0, records_read v es bytes rest here))

-- a batch: its head, and then its records
module _ (v : Version) (vars g f n : ℕ) (bytes b8 b16 behind : List ℕ) (fits_g : g < 2 ^ 64) (fits_f : f < 2 ^ 64) (fits_n : n < 2 ^ 16) (first : bytes ≡ number_bytes 8 g ++ b8) (second : b8 ≡ number_bytes 8 f ++ b16) (third : b16 ≡ number_bytes 2 n ++ behind) where
  head_there : bytes ≡ number_bytes 8 g ++ (number_bytes 8 f ++ (number_bytes 2 n ++ behind))
  head_there = first ∙ ap (λ (l : List ℕ). number_bytes 8 g ++ l) (second ∙ ap (λ (l : List ℕ). number_bytes 8 f ++ l) third)

  pub batch_found : (es : List Effect) (rest : List ℕ) → length es ≡ n → behind ≡ flat_map (record_bytes v) es ++ rest → bytes ≡ batch_bytes v g f es ++ rest
  batch_found es rest counted same =
      head_there ∙ ap (λ (l : List ℕ). number_bytes 8 g ++ (number_bytes 8 f ++ (number_bytes 2 n ++ l))) same
      ∙ ap (λ (k : ℕ). number_bytes 8 g ++ (number_bytes 8 f ++ (number_bytes 2 k ++ (flat_map (record_bytes v) es ++ rest)))) (sym counted)
      ∙ sym (batch_parts v g f es rest)

  pub split_batch : (g' f' : ℕ) (es : List Effect) (s : List ℕ) → g' < 2 ^ 64 → f' < 2 ^ 64 → IsBatchIn v vars es → bytes ≡ batch_bytes v g' f' es ++ s → (n ≡ length es) × (behind ≡ flat_map (record_bytes v) es ++ s)
  split_batch g' f' es s fits_g' fits_f' is same =
      let parts = head_of g f n g' f' (length es) behind (flat_map (record_bytes v) es ++ s) fits_g fits_f fits_n fits_g' fits_f' (omega (arith, is.few)) (sym head_there ∙ same ∙ batch_parts v g' f' es s) in
      (parts.2, parts.3)

  pub no_such_count : ((1 ≤ n → n ≤ 64 → ⊥)) → (g' f' : ℕ) (es : List Effect) (s : List ℕ) → g' < 2 ^ 64 → f' < 2 ^ 64 → IsBatchIn v vars es → bytes ≡ batch_bytes v g' f' es ++ s → ⊥
  no_such_count none g' f' es s fits_g' fits_f' is same =
      let split = split_batch g' f' es s fits_g' fits_f' is same in
      none (omega (arith, split.0, is.some)) (omega (arith, split.0, is.few))

  pub no_records_there : ((es : List Effect) (t : List ℕ) → length es ≡ n → IsBatchIn v vars es → behind ≡ flat_map (record_bytes v) es ++ t → ⊥)
      → (g' f' : ℕ) (es : List Effect) (s : List ℕ) → g' < 2 ^ 64 → f' < 2 ^ 64 → IsBatchIn v vars es → bytes ≡ batch_bytes v g' f' es ++ s → ⊥
  no_records_there none g' f' es s fits_g' fits_f' is same =
      let split = split_batch g' f' es s fits_g' fits_f' is same in
      none es s (sym split.0) is split.1

pub no_room_for_head : (v : Version) (bytes : List ℕ) (g f : ℕ) (es : List Effect) (s : List ℕ) → length bytes < 18 → bytes ≡ batch_bytes v g f es ++ s → ⊥
no_room_for_head v bytes g f es s short same =
    let records : List ℕ = flat_map (record_bytes v) es ++ s in
    absurd (omega (arith, ap length (same ∙ batch_parts v g f es s), length-append (number_bytes 8 g) (number_bytes 8 f ++ (number_bytes 2 (length es) ++ records)), length-append (number_bytes 8 f) (number_bytes 2 (length es) ++ records), length-append (number_bytes 2 (length es)) records, length-number_bytes 8 g, length-number_bytes 8 f, length-number_bytes 2 (length es)))

-- where no batch is spelled in front of a rest, no beginning of the bytes spells one
pub no_beginning : (v : Version) (vars : ℕ) (bytes : List ℕ) → ((g f : ℕ) (es : List Effect) (s : List ℕ) → g < 2 ^ 64 → f < 2 ^ 64 → IsBatchIn v vars es → bytes ≡ batch_bytes v g f es ++ s → ⊥) → (g f n : ℕ) (es : List Effect) → SpellsBatch v vars g f es (take n bytes) → ⊥
no_beginning v vars bytes none g f n es spells =
    none g f es (drop n bytes) spells.generation_fits spells.first_fits spells.batch (sym (take-append-drop n bytes) ∙ ap (λ (l : List ℕ). l ++ drop n bytes) spells.spelled)

-- a head alone
pub head_alone : (g f n : ℕ) (bytes b8 b16 rest : List ℕ) → bytes ≡ number_bytes 8 g ++ b8 → b8 ≡ number_bytes 8 f ++ b16 → b16 ≡ number_bytes 2 n ++ rest → length rest ≡ 0 → bytes ≡ number_bytes 8 g ++ (number_bytes 8 f ++ number_bytes 2 n)
head_alone g f n bytes b8 b16 rest first second third none =
    let last = third ∙ ap (λ (l : List ℕ). number_bytes 2 n ++ l) (nil_from_length rest none) ∙ append-nil (number_bytes 2 n) in
    first ∙ ap (λ (l : List ℕ). number_bytes 8 g ++ l) (second ∙ ap (λ (l : List ℕ). number_bytes 8 f ++ l) last)

-- a name at the front begins the bytes
pub name_begins : (name bytes rest : List ℕ) → bytes ≡ name_bytes name ++ rest → IsPrefix (name_bytes name) bytes
name_begins name bytes rest same = subst (λ (l : List ℕ). IsPrefix (name_bytes name) l) (sym same) (IsPrefix-append (name_bytes name) rest)

pub no_name_begins : (bytes : List ℕ) → ((name rest : List ℕ) → IsName name → bytes ≡ name_bytes name ++ rest → ⊥) → (name : List ℕ) → IsName name → IsPrefix (name_bytes name) bytes → ⊥
no_name_begins bytes none name is begins = none name (drop (length (name_bytes name)) bytes) is (IsPrefix-rest (name_bytes name) bytes begins)
