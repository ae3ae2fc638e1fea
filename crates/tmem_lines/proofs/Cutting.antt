-- Where a line ends in what is held.
use Rattle.std.proofs.Common.{◌≡◌, ◌≢◌, ℕ, ◌+◌, ◌<◌, ◌≤◌, ◌==◌, Bool, true, false, List, [], ◌∷◌, ◌++◌, length, get_or, take, drop, append_assoc, refl, ap, sym, ◌∙◌, subst, arith, length-append, Vec, Global}
use Rattle.std.specs.Prelude.{MatchBool, Option, Some, None, slice_range, vec_len, ◌-◌}
use Rattle.memchr.specs.Find.{IsFirstByte, is_byte}
use Rattle.std.proofs.lemmas.Bool.Decides.{nat_tests}
use Rattle.std.proofs.lemmas.List.{take-append-drop, drop_more, length-take-le, get_or-take, append-nil, drop-drop, drop_all, take_rest}
use Rattle.std.proofs.lemmas.List.Elements.{All-append, All-from_get_or}
use Rattle.tmem_lines.specs.Lines.{line, IsUnbroken, IsLongLine, IsForgotten, HoldsRestOf, IsCutOff}
use Rattle.tmem_lines.specs.Views.{LinesView}

-- what stands around a line break
pub split_at : (held : List ℕ) (at : ℕ) → at < length held → get_or held at 0 ≡ 10 → held ≡ line (take at held) ++ drop (at + 1) held
split_at held at within is =
    sym (take-append-drop at held)
    ∙ (ap (λ (r : List ℕ). take at held ++ r) (drop_more held at 0 within)
    ∙ (ap (λ (b : ℕ). take at held ++ b ∷ drop (at + 1) held) is ∙ sym (append_assoc (take at held) (10 ∷ []) (drop (at + 1) held))))

-- no line break stands before the first one
pub unbroken_before : (held : List ℕ) (at : ℕ) → at ≤ length held → ((k : ℕ) → k < at → ¬ ((get_or held k 0 == 10) ≡ true)) → IsUnbroken (take at held)
unbroken_before held at within none =
    All-from_get_or (λ (b : ℕ). b ≢ 10) (take at held) 0 (λ i below is.
    let early : i < at = omega (arith, below, length-take-le at held within) in
    let same : get_or held i 0 ≡ 10 = sym (get_or-take at held i 0 early) ∙ is in
    none i early (grind (arith, nat_tests)))

-- none stands anywhere, where there is no first one
unbroken_all : (held : List ℕ) → IsFirstByte (is_byte 10) held None → IsUnbroken held
unbroken_all held none = All-from_get_or (λ (b : ℕ). b ≢ 10) held 0 (λ i below is. none i (omega arith) below (grind (arith, nat_tests)))

-- a line that ends in what is held, whose beginning may be forgotten
pub cut_off : (b : Bool) (held first rest text : List ℕ) (new : LinesView) → held ≡ line first ++ rest → IsUnbroken first → HoldsRestOf new rest
    → MatchBool b ((before : List ℕ) × (text ≡ before ++ held) × IsForgotten before) (text ≡ held)
    → (bytes : List ℕ) × IsCutOff text bytes new × MatchBool b (IsLongLine bytes) (bytes ≡ first)
cut_off true held first rest text new is unbroken stands m =
    let before = m.0 in (
      before ++ first,
      record {
        rest = rest;
        is = m.1 ∙ (ap (λ (r : List ℕ). before ++ r) is ∙ (sym (append_assoc before (line first) rest) ∙ ap (λ (r : List ℕ). r ++ rest) (sym (append_assoc before first (10 ∷ [])))));
        unbroken = All-append (λ (byte : ℕ). byte ≢ 10) before first m.2.unbroken unbroken;
        stands = stands;
      },
      omega (arith, length-append before first, m.2.long),
    )
cut_off false held first rest text new is unbroken stands m =
    (first, record { rest = rest; is = m ∙ is; unbroken = unbroken; stands = stands }, refl)

-- the same, of a text that is read as more
pub longer_text : (b : Bool) (held piece text : List ℕ)
    → MatchBool b ((before : List ℕ) × (text ≡ before ++ held) × IsForgotten before) (text ≡ held)
    → MatchBool b ((before : List ℕ) × (text ++ piece ≡ before ++ (held ++ piece)) × IsForgotten before) (text ++ piece ≡ held ++ piece)
longer_text true held piece text m = (m.0, ap (λ (t : List ℕ). t ++ piece) m.1 ∙ append_assoc m.0 held piece, m.2)
longer_text false held piece text m = ap (λ (t : List ℕ). t ++ piece) m

-- a whole text has no line break, where what is held has none
pub unbroken_text : (b : Bool) (held text : List ℕ) → IsUnbroken held
    → MatchBool b ((before : List ℕ) × (text ≡ before ++ held) × IsForgotten before) (text ≡ held) → IsUnbroken text
unbroken_text true held text unbroken m = subst IsUnbroken (sym m.1) (All-append (λ (byte : ℕ). byte ≢ 10) m.0 held m.2.unbroken unbroken)
unbroken_text false held text unbroken m = subst IsUnbroken (sym m) unbroken

-- a text of which nothing is held, since it is long already
pub forgotten_text : (b : Bool) (held text : List ℕ) → IsUnbroken held → (b ≡ false → IsLongLine held)
    → MatchBool b ((before : List ℕ) × (text ≡ before ++ held) × IsForgotten before) (text ≡ held)
    → (before : List ℕ) × (text ≡ before ++ []) × IsForgotten before
forgotten_text true held text unbroken long m = (
  m.0 ++ held,
  m.1 ∙ sym (append-nil (m.0 ++ held)),
  record { unbroken = All-append (λ (byte : ℕ). byte ≢ 10) m.0 held m.2.unbroken unbroken; long = omega (arith, length-append m.0 held, m.2.long) },
)
forgotten_text false held text unbroken long m = (held, m ∙ sym (append-nil held), record { unbroken = unbroken; long = long refl })

-- how long a text is, at its end
pub long_text : (b : Bool) (held text : List ℕ) → (b ≡ false → IsLongLine held)
    → MatchBool b ((before : List ℕ) × (text ≡ before ++ held) × IsForgotten before) (text ≡ held) → IsLongLine text
long_text true held text long m = omega (arith, ap length m.1, length-append m.0 held, m.2.long)
long_text false held text long m = subst IsLongLine (sym m) (long refl)

-- the first line break in what is held, of a list of bytes
pub found : (bytes : List ℕ) (next at : ℕ) → IsFirstByte (is_byte 10) (drop next bytes) (Some at)
    → (drop next bytes ≡ line (slice_range bytes next (next + at)) ++ drop (next + at + 1) bytes) × IsUnbroken (slice_range bytes next (next + at)) × (length (slice_range bytes next (next + at)) ≡ at)
found bytes next at h =
    let held = drop next bytes in
    let is : get_or held at 0 ≡ 10 = let test = h.1 in grind (arith, nat_tests) in
    let e : next + at - next ≡ at = omega arith in
    let d : drop (at + 1) held ≡ drop (next + at + 1) bytes = drop-drop (at + 1) next bytes ∙ ap (λ (n : ℕ). drop n bytes) (omega arith) in (
      subst (λ (n : ℕ). held ≡ line (take n held) ++ drop (next + at + 1) bytes) (sym e) (split_at held at h.0.high is ∙ ap (λ (r : List ℕ). line (take at held) ++ r) d),
      subst (λ (n : ℕ). IsUnbroken (take n held)) (sym e) (unbroken_before held at (omega (arith, h.0.high)) (λ k early. h.0.before k (omega arith) early)),
      subst (λ (n : ℕ). length (take n held) ≡ at) (sym e) (length-take-le at held (omega (arith, h.0.high))),
    )

-- the same where the bytes were read through a slice
pub found_in : (xs bytes : List ℕ) (next at : ℕ) (r : Option ℕ) → IsFirstByte (is_byte 10) (take (length xs - next) (drop next xs)) r → xs ≡ bytes → r ≡ Some at
    → (drop next bytes ≡ line (slice_range bytes next (next + at)) ++ drop (next + at + 1) bytes) × IsUnbroken (slice_range bytes next (next + at)) × (length (slice_range bytes next (next + at)) ≡ at)
found_in xs bytes next at r h same is =
    let there = subst (λ (o : Option ℕ). IsFirstByte (is_byte 10) (take (length xs - next) (drop next xs)) o) is h in
    let here = subst (λ (hay : List ℕ). IsFirstByte (is_byte 10) hay (Some at)) (take_rest xs next) there in
    found bytes next at (subst (λ (l : List ℕ). IsFirstByte (is_byte 10) (drop next l) (Some at)) same here)

pub none_in : (xs bytes : List ℕ) (next : ℕ) (r : Option ℕ) → IsFirstByte (is_byte 10) (take (length xs - next) (drop next xs)) r → xs ≡ bytes → r ≡ None → IsUnbroken (drop next bytes)
none_in xs bytes next r h same is =
    let there = subst (λ (o : Option ℕ). IsFirstByte (is_byte 10) (take (length xs - next) (drop next xs)) o) is h in
    let here = subst (λ (hay : List ℕ). IsFirstByte (is_byte 10) hay None) (take_rest xs next) there in
    unbroken_all (drop next bytes) (subst (λ (l : List ℕ). IsFirstByte (is_byte 10) (drop next l) None) same here)

-- behind all bytes stands nothing
pub nothing_left : (bytes : Vec ℕ Global) (n : ℕ) → n ≡ vec_len bytes → [] ≡ drop n bytes.items
nothing_left bytes n all = sym (drop_all n bytes.items (omega (arith, all, bytes.ok.0)))

-- a line that is not too long is that which is held
pub cut_short : (b : Bool) (first text : List ℕ) (new : LinesView) → b ≡ false → (bytes : List ℕ) × IsCutOff text bytes new × MatchBool b (IsLongLine bytes) (bytes ≡ first) → IsCutOff text first new
cut_short true first text new is cut = absurd (cc is)
cut_short false first text new is cut = subst (λ (bytes : List ℕ). IsCutOff text bytes new) cut.2 cut.1

-- a line that is too long
pub cut_long : (b : Bool) (first text : List ℕ) (new : LinesView) → (b ≡ false → IsLongLine first) → (bytes : List ℕ) × IsCutOff text bytes new × MatchBool b (IsLongLine bytes) (bytes ≡ first) → (bytes : List ℕ) × IsCutOff text bytes new × IsLongLine bytes
cut_long true first text new long cut = cut
cut_long false first text new long cut = (cut.0, cut.1, subst IsLongLine (sym cut.2) (long refl))
