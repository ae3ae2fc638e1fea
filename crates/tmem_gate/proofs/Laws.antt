-- The laws of this crate's definitions: what stays of a cell outside a range that is written over, what its gate alone
-- decides, and how what calls leave alone joins.
use Rattle.std.proofs.Common.{◌≡◌, ◌⊎◌, inl, inr, ⊎_elim, ℕ, ◌+◌, ◌<◌, ◌≤◌, List, [], ◌∷◌, zero, suc, ◌-◌, length, take, drop, Option, Some, None, refl, sym, ◌∙◌, ap, subst, arith}
use Rattle.std.specs.Prelude.{slice_get, slice_range}
use Rattle.std.proofs.lemmas.Bool.{cases_eq}
use Rattle.tmem_disk.specs.Disk.{DeviceView, IsDevice, overwritten, ReadsAs, LeavesOnly, AtEachMoment, Elapses, SameOutside, SameSeenOutside, Rewritten}
use Rattle.tmem_disk.proofs.Laws.{SameOutside-refl, SameOutside-trans, SameOutside-wider, slice_get-before, slice_get-after, slice_range-before, slice_range-after, slice_range-overwritten, Rewritten-left, Rewritten-wider, Rewritten-trans, Elapses-more, Elapses-trans, before_or_since-trans}
use Rattle.tmem_gate.specs.Gate.{IsOpenAt, IsClosed, HasBody, IsOpenOver, IsWhole}
use Rattle.tmem_gate.specs.Calls.{OnlyReads, WritesWithin}
use Rattle.tmem_gate.specs.Changes.{ChangeOutcome, WasMade, NotMade, InDoubt, NotBegun, Becomes, Meanwhile, Puts}

-- a gate is open or closed
pub gate_cases : (at : ℕ) (c : List ℕ) → IsOpenAt at c ⊎ IsClosed at c
gate_cases at c = from (slice_get c at) refl
  where
    gate : Option ℕ
    gate = Some 0xA5

    none : None ≡ gate → ⊥
    none e = cc

    one : (x : ℕ) → Some x ≡ gate → x ≡ 0xA5
    one x e = cc

    from : (o : Option ℕ) → slice_get c at ≡ o → IsOpenAt at c ⊎ IsClosed at c
    from None is = inr (record { not_open = λ open_now. none (sym is ∙ open_now) })
    from (Some x) is = ⊎_elim (λ same. inl (is ∙ ap (λ (k : ℕ). Some k) same)) (λ other. inr (record { not_open = λ open_now. other (one x (sym is ∙ open_now)) })) (cases_eq x 0xA5)

-- a gate with any other byte is closed
pub closed_by : (at x : ℕ) (c : List ℕ) → slice_get c at ≡ Some x → (x ≡ 0xA5 → ⊥) → IsClosed at c
closed_by at x c is other = record { not_open = λ open_now. other (same (sym is ∙ open_now)) }
  where
    same : Some x ≡ Some 0xA5 → x ≡ 0xA5
    same e = cc

-- where one byte was written, it stands
byte_written : (at x : ℕ) (c : List ℕ) → at + 1 ≤ length c → slice_get (overwritten c at (x ∷ [])) at ≡ Some x
byte_written at x c fits =
    let range : take (at + 1 - at) (drop at (overwritten c at (x ∷ []))) ≡ x ∷ [] = slice_range-overwritten c at (x ∷ []) fits in
    let one : at + 1 - at ≡ 1 = omega arith in
    first_of at (overwritten c at (x ∷ [])) (ap (λ (k : ℕ). take k (drop at (overwritten c at (x ∷ [])))) (sym one) ∙ range)
  where
    first_of : (i : ℕ) (xs : List ℕ) → take 1 (drop i xs) ≡ x ∷ [] → slice_get xs i ≡ Some x
    first_of zero [] is = cc
    first_of zero (y ∷ xs) is = heads is
      where
        heads : y ∷ [] ≡ x ∷ [] → Some y ≡ Some x
        heads e = cc
    first_of (suc i) [] is = cc
    first_of (suc i) (y ∷ xs) is = first_of i xs is

-- so a gate that 0 was written to is closed, and one that 165 was written to is open
pub closed_by_zero : (at : ℕ) (c : List ℕ) → at + 1 ≤ length c → IsClosed at (overwritten c at (0 ∷ []))
closed_by_zero at c fits = closed_by at 0 (overwritten c at (0 ∷ [])) (byte_written at 0 c fits) (λ e. absurd (omega (arith, e)))

pub open_by_gate : (at : ℕ) (c : List ℕ) → at + 1 ≤ length c → IsOpenAt at (overwritten c at (0xA5 ∷ []))
open_by_gate at c fits = byte_written at 0xA5 c fits

-- a closed gate stays so where its byte stays
pub closed_along : {at : ℕ} {b c : List ℕ} → slice_get c at ≡ slice_get b at → IsClosed at b → IsClosed at c
closed_along same closed = record { not_open = λ is. closed.not_open (sym same ∙ is) }

-- what stands behind a gate stays where nothing but the gate is written
pub body_behind : (at n : ℕ) (b c : List ℕ) → SameOutside at 1 b c → slice_range c (at + 1) (at + 1 + n) ≡ slice_range b (at + 1) (at + 1 + n)
body_behind at n b c same = slice_range-after at 1 b c (at + 1) (at + 1 + n) (omega arith) same

-- a cell whose gate alone is written is closed, or open over the body that stood there
pub whole_after : (at : ℕ) (body b c : List ℕ) → HasBody at body b → SameOutside at 1 b c → IsWhole at body c
whole_after at body b c has same = ⊎_elim
    (λ is_open. inr (record { gate = is_open; body = body_behind at (length body) b c same ∙ has }))
    (λ closed. inl closed)
    (gate_cases at c)

-- a closed cell outside what was written stays closed
pub closed_before : (at n p : ℕ) (b c : List ℕ) → SameOutside at n b c → p < at → IsClosed p b → IsClosed p c
closed_before at n p b c same below closed = closed_along (slice_get-before at n b c p below same) closed

pub closed_after : (at n p : ℕ) (b c : List ℕ) → SameOutside at n b c → at + n ≤ p → IsClosed p b → IsClosed p c
closed_after at n p b c same above closed = closed_along (slice_get-after at n b c p above same) closed

-- and an open one stays open over its body
pub open_before : (at n p : ℕ) (body b c : List ℕ) → SameOutside at n b c → p + 1 + length body ≤ at → IsOpenOver p body b → IsOpenOver p body c
open_before at n p body b c same fits cell = record {
  gate = slice_get-before at n b c p (omega arith) same ∙ cell.gate;
  body = slice_range-before at n b c (p + 1) (p + 1 + length body) fits same ∙ cell.body;
}

pub open_after : (at n p : ℕ) (body b c : List ℕ) → SameOutside at n b c → at + n ≤ p → IsOpenOver p body b → IsOpenOver p body c
open_after at n p body b c same above cell = record {
  gate = slice_get-after at n b c p above same ∙ cell.gate;
  body = slice_range-after at n b c (p + 1) (p + 1 + length body) (omega arith) same ∙ cell.body;
}

-- one call over a range
module _ (at n : ℕ) (old new : DeviceView) (device : IsDevice old) (model : new.keeps_model → old.keeps_model) where
  pub in_time : Elapses old new (Rewritten at n old) → AtEachMoment old new (Rewritten at n old)
  in_time time = record { each = λ k c left. ⊎_elim (λ was. Rewritten-left at n old c (device.only_now c (model k) was)) (λ is. is) (time.nothing_else k old.moment c (omega arith) left) }

  -- that says what its own time leaves
  pub by_time : SameSeenOutside at n old new → LeavesOnly new (Rewritten at n old) → Elapses old new (Rewritten at n old) → WritesWithin at n old new
  by_time seen crash time = record { seen = seen; crash = crash; any_moment = in_time time; time = time }

  -- that is a write
  pub by_write : SameSeenOutside at n old new → LeavesOnly new (Rewritten at n old) → Elapses old new new.may_leave → WritesWithin at n old new
  by_write seen crash time = by_time seen crash (Elapses-more old new new.may_leave (Rewritten at n old) time crash.each)

  -- that writes nothing
  pub by_look : OnlyReads old new → WritesWithin at n old new
  by_look reads_only = by_time (λ k. subst (λ (l : List ℕ). SameOutside at n old.seen l) (sym (reads_only.seen k)) (SameOutside-refl at n old.seen)) (record { each = λ k c left. Rewritten-left at n old c (reads_only.crash.each k c left) })
      (Elapses-more old new _ _ reads_only.time (λ k. Rewritten-left at n old))

-- a call over a range that says what each of its moments leaves
pub by_moment : (at n : ℕ) (old new : DeviceView) → IsDevice new → SameSeenOutside at n old new → AtEachMoment old new (Rewritten at n old) → Elapses old new (Rewritten at n old) → WritesWithin at n old new
by_moment at n old new device seen during time = record { seen = seen; crash = record { each = λ k c left. during.each k c (device.counts_now old.moment c k (time.later k) left) }; any_moment = during; time = time }

-- no time goes by without a call
pub no_time : (d : DeviceView) (P : List ℕ → Type 0) → Elapses d d P
no_time d P = record { later = λ k. omega arith; nothing_else = λ k t c since left. inl left; keeps = λ k t c since left. left; before_or_since = λ k t c since left. inl left }

-- no call at all
pub OnlyReads-refl : (d : DeviceView) → OnlyReads d d
OnlyReads-refl d = record { seen = λ k. refl; crash = record { each = λ k c left. left }; time = no_time d d.may_leave }

-- a call that changes nothing
pub reads_only : (old new : DeviceView) → ReadsAs new old.seen → LeavesOnly new old.may_leave → Elapses old new new.may_leave → OnlyReads old new
reads_only old new seen crash time = record { seen = seen; crash = crash; time = Elapses-more old new new.may_leave old.may_leave time crash.each }

-- two of them
pub OnlyReads-trans : (old mid new : DeviceView) → (new.keeps_model → mid.keeps_model) → OnlyReads old mid → OnlyReads mid new → OnlyReads old new
OnlyReads-trans old mid new model first second = record {
  seen = λ k. second.seen k ∙ first.seen (model k);
  crash = record { each = λ k c left. first.crash.each (model k) c (second.crash.each k c left) };
  time = Elapses-trans old mid new old.may_leave model first.time (Elapses-more mid new mid.may_leave old.may_leave second.time (λ k. first.crash.each (model k)));
}

-- no call at all
pub WritesWithin-refl : (at n : ℕ) (d : DeviceView) → IsDevice d → WritesWithin at n d d
WritesWithin-refl at n d device = by_look at n d d device (λ k. k) (OnlyReads-refl d)

-- over a wider range
pub WritesWithin-wider : (at n wide_at wide_n : ℕ) → wide_at ≤ at → at + n ≤ wide_at + wide_n → (old new : DeviceView) → WritesWithin at n old new → WritesWithin wide_at wide_n old new
WritesWithin-wider at n wide_at wide_n low high old new within = record {
  seen = λ k. SameOutside-wider at n wide_at wide_n old.seen new.seen low high (within.seen k);
  crash = record { each = λ k c left. wider c (within.crash.each k c left) };
  any_moment = record { each = λ k c left. wider c (within.any_moment.each k c left) };
  time = Elapses-more old new (Rewritten at n old) (Rewritten wide_at wide_n old) within.time (λ k. wider);
}
  where
    wider : (c : List ℕ) → Rewritten at n old c → Rewritten wide_at wide_n old c
    wider c from = Rewritten-wider at n wide_at wide_n old c low high from

-- two calls over one range
pub WritesWithin-trans : (at n : ℕ) (old mid new : DeviceView) → (new.keeps_model → mid.keeps_model) → WritesWithin at n old mid → WritesWithin at n mid new → WritesWithin at n old new
WritesWithin-trans at n old mid new model first second = record {
  seen = λ k. SameOutside-trans at n old.seen mid.seen new.seen (first.seen (model k)) (second.seen k);
  crash = record { each = λ k c left. both k c (second.crash.each k c left) };
  any_moment = record { each = λ k c left. ⊎_elim (λ was. first.any_moment.each (model k) c was) (λ is. both k c is) (second.time.nothing_else k old.moment c (first.time.later (model k)) left) };
  time = record {
    later = λ k. let a = first.time.later (model k) in let b = second.time.later k in omega arith;
    nothing_else = λ k t c since left. let a = first.time.later (model k) in ⊎_elim (λ was. first.time.nothing_else (model k) t c since was) (λ is. inr (both k c is)) (second.time.nothing_else k t c (omega arith) left);
    keeps = λ k t c since left. let a = first.time.later (model k) in second.time.keeps k t c (omega arith) (first.time.keeps (model k) t c since left);
    before_or_since = before_or_since-trans old mid new (Rewritten at n old) (Rewritten at n mid) model first.time second.time;
  };
}
  where
    both : new.keeps_model → (c : List ℕ) → Rewritten at n mid c → Rewritten at n old c
    both k c from = Rewritten-trans at n old mid c (model k) first.crash from

-- what becomes of a change that says more becomes of one that says less
Becomes-more : (W V W' V' : List ℕ → List ℕ → Type 0) → ((b c : List ℕ) → W b c → W' b c) → ((b c : List ℕ) → V b c → V' b c) → (old : DeviceView) (o : ChangeOutcome) (c : List ℕ) → Becomes W V old o c → Becomes W' V' old o c
Becomes-more W V W' V' without with old WasMade c from = (from.0, from.1, with from.0 c from.2)
Becomes-more W V W' V' without with old NotMade c from = (from.0, from.1, without from.0 c from.2)
Becomes-more W V W' V' without with old InDoubt c from = (from.0, from.1, ⊎_elim (λ no. inl (without from.0 c no)) (λ yes. inr (with from.0 c yes)) from.2)
Becomes-more W V W' V' without with old NotBegun c left = left

Meanwhile-more : (W V W' V' : List ℕ → List ℕ → Type 0) → ((b c : List ℕ) → W b c → W' b c) → ((b c : List ℕ) → V b c → V' b c) → (old : DeviceView) (o : ChangeOutcome) (c : List ℕ) → Meanwhile W V old o c → Meanwhile W' V' old o c
Meanwhile-more W V W' V' without with old WasMade c from = Becomes-more W V W' V' without with old InDoubt c from
Meanwhile-more W V W' V' without with old NotMade c from = Becomes-more W V W' V' without with old NotMade c from
Meanwhile-more W V W' V' without with old InDoubt c from = Becomes-more W V W' V' without with old InDoubt c from
Meanwhile-more W V W' V' without with old NotBegun c left = left

-- no call at all makes no change
pub not_begun : (at n : ℕ) (W V : List ℕ → List ℕ → Type 0) (d : DeviceView) → IsDevice d → Puts at n W V d d NotBegun
not_begun at n W V d device = record { elsewhere = WritesWithin-refl at n d device; stands = record { each = λ k c left. left }; any_moment = record { each = λ k c left. device.only_now c k left } }

-- so does a call that makes it, in a wider range
pub Puts-more : (at n wide_at wide_n : ℕ) (W V W' V' : List ℕ → List ℕ → Type 0) (old new : DeviceView) (o : ChangeOutcome) → wide_at ≤ at → at + n ≤ wide_at + wide_n → ((b c : List ℕ) → W b c → W' b c) → ((b c : List ℕ) → V b c → V' b c)
    → Puts at n W V old new o → Puts wide_at wide_n W' V' old new o
Puts-more at n wide_at wide_n W V W' V' old new o low high without with puts = record {
  elsewhere = WritesWithin-wider at n wide_at wide_n low high old new puts.elsewhere;
  stands = record { each = λ k c left. Becomes-more W V W' V' without with old o c (puts.stands.each k c left) };
  any_moment = record { each = λ k c left. Meanwhile-more W V W' V' without with old o c (puts.any_moment.each k c left) };
}
