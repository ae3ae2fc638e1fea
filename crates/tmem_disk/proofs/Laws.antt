-- What follows from the definitions of a device alone: ranges of a content that are written over, what a crash leaves, and
-- how the words of two calls join. A law on the calls from a first view to a second and from there to a third takes that
-- the third keeps the model only where the second does.
use Rattle.std.proofs.Common.{◌≡◌, ◌⊎◌, inl, inr, ⊎_elim, ℕ, zero, suc, ◌+◌, ◌-◌, ◌^◌, ◌<◌, ◌≤◌, ◌↔◌, true, false, Result, Ok, Err, List, [], ◌∷◌, ◌++◌, length, take, drop, refl, sym, ◌∙◌, ap, subst, arith, append_assoc}
use Rattle.std.specs.Prelude.{slice_get, slice_range}
use Rattle.std.proofs.lemmas.List.{length-take-le, take-take, drop_at, drop-drop, take_at, drop-take}
use Rattle.std.proofs.lemmas.Bool.{cases_lt}
use Rattle.tmem_disk.specs.Disk.{DeviceView, IsCall, IsDevice, after_fault, overwritten, SameOutside, ReadsAs, LeavesOnly, LeavesEach, StillLeaves, IsSynced, AtEachMoment, Elapses, Rewritten}
use Rattle.tmem_disk.specs.declared.disk.DeviceFault.{DeviceFault}
use Rattle.tmem_disk.proofs.Ranges.{length-overwritten, take-overwritten, drop-overwritten}

-- a write changes nothing outside its range
pub SameOutside-overwritten : (old : List ℕ) (at : ℕ) (bytes : List ℕ) → at + length bytes ≤ length old → SameOutside at (length bytes) old (overwritten old at bytes)
SameOutside-overwritten old at bytes fits =
    record { size = length-overwritten old at bytes fits; before = take-overwritten old at bytes fits; after = drop-overwritten old at bytes fits }

-- the bytes that were written stand in their range
pub slice_range-overwritten : (old : List ℕ) (at : ℕ) (bytes : List ℕ) → at + length bytes ≤ length old → slice_range (overwritten old at bytes) at (at + length bytes) ≡ bytes
slice_range-overwritten old at bytes fits =
    let front : length (take at old) ≡ at = length-take-le at old (omega arith) in
    let long : at + length bytes - at ≡ length bytes = omega arith in
    let rest = drop (at + length bytes) old in
    ap (λ (l : List ℕ). take (at + length bytes - at) (drop at l)) (append_assoc (take at old) bytes rest) ∙ ap (λ (l : List ℕ). take (at + length bytes - at) l) (drop_at (take at old) (bytes ++ rest) at front)
    ∙ ap (λ (n : ℕ). take n (bytes ++ rest)) long ∙ take_at bytes rest (length bytes) refl

-- each list is the same as itself outside each range
pub SameOutside-refl : (at n : ℕ) (c : List ℕ) → SameOutside at n c c
SameOutside-refl at n c = record { size = refl; before = refl; after = refl }

-- and of two steps over one range comes one
pub SameOutside-trans : (at n : ℕ) (a b c : List ℕ) → SameOutside at n a b → SameOutside at n b c → SameOutside at n a c
SameOutside-trans at n a b c first second = record { size = second.size ∙ first.size; before = second.before ∙ first.before; after = second.after ∙ first.after }

-- lists with one beginning have one shorter beginning, and lists with one rest have one shorter rest
take-shorter : (m n : ℕ) (xs ys : List ℕ) → m ≤ n → take n xs ≡ take n ys → take m xs ≡ take m ys
take-shorter m n xs ys le same = sym (take-take m n xs le) ∙ ap (λ (l : List ℕ). take m l) same ∙ take-take m n ys le

drop-longer : (m n : ℕ) (xs ys : List ℕ) → m ≤ n → drop m xs ≡ drop m ys → drop n xs ≡ drop n ys
drop-longer m n xs ys le same =
    let more : m + (n - m) ≡ n = omega arith in
    ap (λ (k : ℕ). drop k xs) (sym more) ∙ sym (drop-drop (n - m) m xs) ∙ ap (λ (l : List ℕ). drop (n - m) l) same ∙ drop-drop (n - m) m ys ∙ ap (λ (k : ℕ). drop k ys) more

-- what is the same outside a range is the same outside a wider one
pub SameOutside-wider : (at n wide_at wide_n : ℕ) (old new : List ℕ) → wide_at ≤ at → at + n ≤ wide_at + wide_n → SameOutside at n old new → SameOutside wide_at wide_n old new
SameOutside-wider at n wide_at wide_n old new low high same =
    record { size = same.size; before = take-shorter wide_at at new old low same.before; after = drop-longer (at + n) (wide_at + wide_n) new old high same.after }

slice_range-taken : (xs : List ℕ) (a b : ℕ) → a ≤ b → slice_range xs a b ≡ drop a (take b xs)
slice_range-taken xs a b le =
    let all : a + (b - a) ≡ b = omega arith in
    sym (drop-take a (b - a) xs) ∙ ap (λ (n : ℕ). drop a (take n xs)) all

-- a range before it is the same
pub slice_range-before : (at n : ℕ) (old new : List ℕ) (a b : ℕ) → b ≤ at → SameOutside at n old new → slice_range new a b ≡ slice_range old a b
slice_range-before at n old new a b below same = ⊎_elim
    (λ none. let nothing : b - a ≡ 0 = omega arith in ap (λ (k : ℕ). take k (drop a new)) nothing ∙ sym (ap (λ (k : ℕ). take k (drop a old)) nothing))
    (λ some. slice_range-taken new a b some ∙ ap (λ (l : List ℕ). drop a l) (take-shorter b at new old below same.before) ∙ sym (slice_range-taken old a b some))
    (cases_lt b a)

-- and so is a range behind it
pub slice_range-after : (at n : ℕ) (old new : List ℕ) (a b : ℕ) → at + n ≤ a → SameOutside at n old new → slice_range new a b ≡ slice_range old a b
slice_range-after at n old new a b above same = ap (λ (l : List ℕ). take (b - a) l) (drop-longer (at + n) a new old above same.after)

pub slice_get-take : {A : Type 0} (xs : List A) (n i : ℕ) → i < n → slice_get (take n xs) i ≡ slice_get xs i
slice_get-take [] zero i below = refl
slice_get-take [] (suc n) i below = refl
slice_get-take (x ∷ xs) zero i below = absurd (omega arith)
slice_get-take (x ∷ xs) (suc n) zero below = refl
slice_get-take (x ∷ xs) (suc n) (suc i) below = slice_get-take xs n i (omega arith)

pub slice_get-drop : {A : Type 0} (xs : List A) (n i : ℕ) → slice_get (drop n xs) i ≡ slice_get xs (n + i)
slice_get-drop [] zero i = refl
slice_get-drop [] (suc n) i = refl
slice_get-drop (x ∷ xs) zero i = let same : i ≡ 0 + i = omega arith in ap (λ (k : ℕ). slice_get (x ∷ xs) k) same
slice_get-drop (x ∷ xs) (suc n) i = let one_more : suc (n + i) ≡ suc n + i = omega arith in slice_get-drop xs n i ∙ ap (λ (k : ℕ). slice_get (x ∷ xs) k) one_more

-- a byte before it is the same
pub slice_get-before : (at n : ℕ) (old new : List ℕ) (i : ℕ) → i < at → SameOutside at n old new → slice_get new i ≡ slice_get old i
slice_get-before at n old new i below same = sym (slice_get-take new at i below) ∙ ap (λ (l : List ℕ). slice_get l i) same.before ∙ slice_get-take old at i below

-- and so is a byte behind it
pub slice_get-after : (at n : ℕ) (old new : List ℕ) (i : ℕ) → at + n ≤ i → SameOutside at n old new → slice_get new i ≡ slice_get old i
slice_get-after at n old new i above same =
    let offset : at + n + (i - (at + n)) ≡ i = omega arith in
    ap (λ (k : ℕ). slice_get new k) (sym offset) ∙ sym (slice_get-drop new (at + n) (i - (at + n))) ∙ ap (λ (l : List ℕ). slice_get l (i - (at + n))) same.after ∙ slice_get-drop old (at + n) (i - (at + n))
    ∙ ap (λ (k : ℕ). slice_get old k) offset

-- what may be left may be left with anything in a range
pub Rewritten-left : (at n : ℕ) (d : DeviceView) (c : List ℕ) → d.may_leave c → Rewritten at n d c
Rewritten-left at n d c left = (c, left, SameOutside-refl at n c)

-- and with anything in a wider one
pub Rewritten-wider : (at n wide_at wide_n : ℕ) (d : DeviceView) (c : List ℕ) → wide_at ≤ at → at + n ≤ wide_at + wide_n → Rewritten at n d c → Rewritten wide_at wide_n d c
Rewritten-wider at n wide_at wide_n d c low high from = (from.0, from.1, SameOutside-wider at n wide_at wide_n from.0 c low high from.2)

-- what a crash leaves has P, and P looks outside the range alone: then P holds with anything in the range
pub Rewritten-keeps : (at n : ℕ) (d : DeviceView) (P : List ℕ → Type 0) (c : List ℕ) → d.keeps_model → LeavesOnly d P → ((a b : List ℕ) → SameOutside at n a b → P a → P b) → Rewritten at n d c → P c
Rewritten-keeps at n d P c keeps only outside from = outside from.0 c from.2 (only.each keeps from.0 from.1)

-- two writes over one range leave what one might
pub Rewritten-trans : (at n : ℕ) (old mid : DeviceView) (c : List ℕ) → mid.keeps_model → LeavesOnly mid (Rewritten at n old) → Rewritten at n mid c → Rewritten at n old c
Rewritten-trans at n old mid c keeps only from =
    let before = only.each keeps from.0 from.1 in (before.0, before.1, SameOutside-trans at n before.0 from.0 c before.2 from.2)

-- what a crash leaves has each fact that follows from the one known
pub LeavesOnly-more : (d : DeviceView) (P Q : List ℕ → Type 0) → LeavesOnly d P → ((c : List ℕ) → P c → Q c) → LeavesOnly d Q
LeavesOnly-more d P Q only more = record { each = λ keeps c left. more c (only.each keeps c left) }

-- and two facts at once
pub LeavesOnly-both : (d : DeviceView) (P Q : List ℕ → Type 0) → LeavesOnly d P → LeavesOnly d Q → LeavesOnly d (λ c. P c × Q c)
LeavesOnly-both d P Q first second = record { each = λ keeps c left. (first.each keeps c left, second.each keeps c left) }

-- a call that adds nothing to what a crash may leave adds no exception
pub LeavesOnly-after : (old new : DeviceView) (P : List ℕ → Type 0) → (new.keeps_model → old.keeps_model) → LeavesOnly new old.may_leave → LeavesOnly old P → LeavesOnly new P
LeavesOnly-after old new P model crash only = record { each = λ keeps c left. only.each (model keeps) c (crash.each keeps c left) }

-- what a crash leaves, and each of it, is what it leaves
pub LeavesOnly-each : (d : DeviceView) (P : List ℕ → Type 0) → LeavesEach d P → LeavesOnly d P
LeavesOnly-each d P each = record { each = λ keeps c left. (each keeps c).0 left }

-- what is synced stays so over a call that adds nothing and changes no byte
pub IsSynced-after : (old new : DeviceView) → (new.keeps_model → old.keeps_model) → LeavesOnly new old.may_leave → ReadsAs new old.seen → IsSynced old → IsSynced new
IsSynced-after old new model crash reads synced = λ keeps c left. synced (model keeps) c (crash.each keeps c left) ∙ sym (reads keeps)

-- what holds of the bytes that a read gives holds of what a crash leaves, where the two are one
pub LeavesOnly-synced : (d : DeviceView) (P : List ℕ → Type 0) → IsSynced d → (d.keeps_model → P d.seen) → LeavesOnly d P
LeavesOnly-synced d P synced seen = record { each = λ keeps c left. subst P (sym (synced keeps c left)) (seen keeps) }

-- and what a crash leaves gives a fact of the bytes that a read gives
pub seen-left : (d : DeviceView) (P : List ℕ → Type 0) → IsDevice d → LeavesOnly d P → d.keeps_model → P d.seen
seen-left d P device only keeps = only.each keeps d.seen (device.seen_may_stay keeps)

-- what held at each moment of a call has each fact that follows from the one known
pub AtEachMoment-more : (old new : DeviceView) (P Q : List ℕ → Type 0) → AtEachMoment old new P → (new.keeps_model → (c : List ℕ) → P c → Q c) → AtEachMoment old new Q
AtEachMoment-more old new P Q during more = record { each = λ keeps c left. more keeps c (during.each keeps c left) }

-- what is said of a call's own time may be said more weakly
pub Elapses-more : (old new : DeviceView) (P Q : List ℕ → Type 0) → Elapses old new P → (new.keeps_model → (c : List ℕ) → P c → Q c) → Elapses old new Q
Elapses-more old new P Q time more = record {
  later = time.later;
  nothing_else = λ keeps t c since left. ⊎_elim (λ was. inl was) (λ is. inr (more keeps c is)) (time.nothing_else keeps t c since left);
  keeps = time.keeps;
  before_or_since = time.before_or_since;
}

-- each moment of two calls is one of those before them, or one of those since
pub before_or_since-trans : (old mid new : DeviceView) (P Q : List ℕ → Type 0) → (new.keeps_model → mid.keeps_model) → Elapses old mid P → Elapses mid new Q
    → new.keeps_model → (t : ℕ) (c : List ℕ) → t ≤ old.moment → new.left_since t c → old.left_since t c ⊎ ((s : ℕ) → s ≤ old.moment → new.left_since s c)
before_or_since-trans old mid new P Q model first second keeps t c since left = let a = first.later (model keeps) in ⊎_elim
    (λ was. ⊎_elim (λ before. inl before) (λ is. inr (λ s le. second.keeps keeps s c (omega (arith, le, a)) (is s le))) (first.before_or_since (model keeps) t c since was))
    (λ is. inr (λ s le. is s (omega (arith, le, a))))
    (second.before_or_since keeps t c (omega (arith, since, a)) left)

-- time goes on over two calls
pub Elapses-trans : (old mid new : DeviceView) (P : List ℕ → Type 0) → (new.keeps_model → mid.keeps_model) → Elapses old mid P → Elapses mid new P → Elapses old new P
Elapses-trans old mid new P model first second = record {
  later = λ keeps. let a = first.later (model keeps) in let b = second.later keeps in omega arith;
  nothing_else = λ keeps t c since left. let a = first.later (model keeps) in ⊎_elim
      (λ was. first.nothing_else (model keeps) t c since was)
      (λ is. inr is)
      (second.nothing_else keeps t c (omega arith) left);
  keeps = λ keeps t c since left. let a = first.later (model keeps) in second.keeps keeps t c (omega arith) (first.keeps (model keeps) t c since left);
  before_or_since = before_or_since-trans old mid new P P model first second;
}

-- what was left at some moment of two calls was left at one of the first, or at one of the second
pub either_time : (old mid new : DeviceView) (P : List ℕ → Type 0) → (new.keeps_model → mid.keeps_model) → (mid.keeps_model → old.moment ≤ mid.moment) → Elapses mid new P → new.keeps_model → (c : List ℕ) → new.left_since old.moment c → mid.left_since old.moment c ⊎ new.left_since mid.moment c
either_time old mid new P model later time keeps c left = ⊎_elim (λ was. inl was) (λ is. inr (is mid.moment (omega arith))) (time.before_or_since keeps old.moment c (later (model keeps)) left)

-- a crash at any moment of a call leaves what it might have left before, or what the call says of its own time
pub AtEachMoment-elapsed : (old new : DeviceView) (P Q : List ℕ → Type 0) → IsDevice old → (new.keeps_model → old.keeps_model) → Elapses old new P → LeavesOnly old Q → (new.keeps_model → (c : List ℕ) → P c → Q c) → AtEachMoment old new Q
AtEachMoment-elapsed old new P Q device model time before during = record {
  each = λ keeps c left. ⊎_elim
      (λ was. before.each (model keeps) c (device.only_now c (model keeps) was))
      (λ is. during keeps c is)
      (time.nothing_else keeps old.moment c (omega arith) left);
}

-- what held at each moment of two calls held at each moment from the first to the end of the second
pub AtEachMoment-trans : (old mid new : DeviceView) (P Q : List ℕ → Type 0) → (new.keeps_model → mid.keeps_model) → (mid.keeps_model → old.moment ≤ mid.moment) → AtEachMoment old mid P → Elapses mid new Q → (new.keeps_model → (c : List ℕ) → Q c → P c) → AtEachMoment old new P
AtEachMoment-trans old mid new P Q model later first time second = record {
  each = λ keeps c left. ⊎_elim (λ was. first.each (model keeps) c was) (λ is. second keeps c is) (time.nothing_else keeps old.moment c (later (model keeps)) left);
}

-- what held at each moment holds at the end
pub LeavesOnly-moment : (old new : DeviceView) (P : List ℕ → Type 0) → IsDevice new → (new.keeps_model → old.moment ≤ new.moment) → AtEachMoment old new P → LeavesOnly new P
LeavesOnly-moment old new P device later during = record { each = λ keeps c left. during.each keeps c (device.counts_now old.moment c keeps (later keeps) left) }

-- over a write there might be left anything in its range
pub Elapses-write : (old new : DeviceView) (at n : ℕ) → Elapses old new new.may_leave → LeavesOnly new (Rewritten at n old) → Elapses old new (Rewritten at n old)
Elapses-write old new at n time crash = Elapses-more old new new.may_leave (Rewritten at n old) time crash.each

-- and so over a write and a call after it that adds nothing to what a crash may leave
pub Elapses-write_then : (old mid new : DeviceView) (at n : ℕ) → (new.keeps_model → mid.keeps_model) → Elapses old mid mid.may_leave → LeavesOnly mid (Rewritten at n old) → Elapses mid new new.may_leave → LeavesOnly new mid.may_leave
    → Elapses old new (Rewritten at n old)
Elapses-write_then old mid new at n model first written second crash =
    Elapses-trans old mid new (Rewritten at n old) model (Elapses-write old mid at n first written) (Elapses-more mid new new.may_leave (Rewritten at n old) second (λ keeps c left. written.each (model keeps) c (crash.each keeps c left)))

-- where all with anything in a range may be left, nothing is taken away
pub still_leaves : (old new : DeviceView) (at n : ℕ) → LeavesEach new (Rewritten at n old) → StillLeaves old new
still_leaves old new at n each = λ keeps c left. (each keeps c).1 (Rewritten-left at n old c left)

-- a call behind calls that did not fail
module _ (old mid new : DeviceView) {T : Type 0} {IsFault : DeviceFault → Type 0} (capacity : mid.capacity ≡ old.capacity) (failures : mid.failures ≡ old.failures) (model : mid.keeps_model → old.keeps_model) where
  -- where it fails, all of them do, by its fault
  pub fails_last : (f : DeviceFault) → IsCall {T = T} mid new (Err f) IsFault → {U : Type 0} {IsOther : DeviceFault → Type 0} (r : Result U DeviceFault) → r ≡ Err f → IsOther f → IsCall old new r IsOther
  fails_last f call r is fault = rw is (record {
    capacity = call.capacity ∙ capacity;
    ok = tt;
    err = call.err ∙ ap (λ (n : ℕ). after_fault n) failures;
    rose = subst (λ (n : ℕ). n + 1 < 2 ^ 64 → (true ≡ true) ↔ (n < new.failures)) failures call.rose;
    fault = fault;
    last = call.last;
    model = λ keeps. model (call.model keeps);
  })

  -- and else none does
  pub fails_not : (x : T) → mid.last_fault ≡ old.last_fault → IsCall mid new (Ok x) IsFault → {U : Type 0} {IsOther : DeviceFault → Type 0} (y : U) → IsCall old new (Ok y) IsOther
  fails_not x last call y = record {
    capacity = call.capacity ∙ capacity;
    ok = call.ok ∙ failures;
    err = tt;
    rose = subst (λ (n : ℕ). n + 1 < 2 ^ 64 → (false ≡ true) ↔ (n < new.failures)) failures call.rose;
    fault = tt;
    last = call.last ∙ last;
    model = λ keeps. model (call.model keeps);
  }
