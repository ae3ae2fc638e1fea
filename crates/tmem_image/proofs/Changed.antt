-- The pages of a copy that hold given values: where they are kept, and what they have to do with an image.
use Rattle.std.proofs.Common.{◌≡◌, ◌<◌, ◌≤◌, ◌+◌, ◌*◌, ◌-◌, ◌/◌, ◌==◌, ℕ, zero, suc, ℤ, true, false, List, [], ◌∷◌, ◌++◌, length, take, drop, replicate, flat_map, set, bit_or, refl, sym, ◌∙◌, ap, subst, ⊎_elim, arith}
use Rattle.std.specs.Prelude.{slice_range}
use Rattle.std.proofs.lemmas.Bool.{cases_lt, eqb-false, false≢true}
use Rattle.std.proofs.lemmas.List.{take-set-le, drop-set-lt, drop-set-add}
use Rattle.tmem_disk.specs.Disk.{DeviceView, IsDevice, SameOutside, Rewritten, LeavesOnly, AtEachMoment, Elapses, overwritten}
use Rattle.tmem_disk.proofs.Laws.{SameOutside-overwritten, slice_range-before, slice_range-after, slice_range-overwritten, Rewritten-keeps, LeavesOnly-moment, AtEachMoment-trans, either_time}
use Rattle.tmem_gate.specs.Calls.{WritesWithin}
use Rattle.tmem_record.specs.Layout.{pages_of, image_at}
use Rattle.tmem_record.specs.Spelling.{number_bytes, value_bytes}
use Rattle.tmem_record.specs.StandsAt.{StandsAt}
use Rattle.tmem_state.specs.Versions.{version_byte}
use Rattle.tmem_state.specs.declared.version.Version.{Version}
use Rattle.tmem_effect.specs.State.{State, apply, fold, written}
use Rattle.tmem_effect.specs.declared.effect.Effect.{Effect}
use Rattle.tmem_record.proofs.Laws.{between_is, first_part, second_part, both_parts, moved, length-number_bytes}
use Rattle.tmem_image.specs.Image.{HoldsImage}
use Rattle.tmem_image.specs.Pages.{has_page, is_page_written, is_page_changed, pages_at, HoldsOthers}
use Rattle.tmem_image.specs.Spelling.{names_body, pages_body, image_body, page_values, page_bytes}
use Rattle.tmem_image.proofs.Images.{body_stands}
use Rattle.tmem_image.proofs.Lengths.{length-names_body}
use Rattle.tmem_image.proofs.Pages.{pages_front, front_more, front_all, length-pages_front, length-page_bytes}
use Rattle.tmem_image.proofs.PageSets.{has_page-or, has_page-all, or_false}

-- what stands outside a range that is written over stands there still
stands_before : (at n p : ℕ) (part b c : List ℕ) → SameOutside at n b c → p + length part ≤ at → StandsAt p part b → StandsAt p part c
stands_before at n p part b c same fits stands = record { is = sym (between_is p (length part) c) ∙ slice_range-before at n b c p (p + length part) fits same ∙ between_is p (length part) b ∙ stands.is }

stands_after : (at n p : ℕ) (part b c : List ℕ) → SameOutside at n b c → at + n ≤ p → StandsAt p part b → StandsAt p part c
stands_after at n p part b c same above stands = record { is = sym (between_is p (length part) c) ∙ slice_range-after at n b c p (p + length part) above same ∙ between_is p (length part) b ∙ stands.is }

-- a page that stands behind the first ones
pub front_stands : (at n : ℕ) (zs : List ℤ) (c : List ℕ) → 64 * n ≤ length zs → StandsAt at (pages_front zs n) c → StandsAt (at + 512 * n) (page_bytes zs n) c → StandsAt at (pages_front zs (n + 1)) c
front_stands at n zs c full front here =
    let offset : at + 512 * n ≡ at + length (pages_front zs n) = omega (arith, length-pages_front zs n full) in
    subst (λ (l : List ℕ). StandsAt at l c) (sym (front_more zs n full)) (both_parts at (pages_front zs n) (page_bytes zs n) c front (moved (at + 512 * n) (at + length (pages_front zs n)) (page_bytes zs n) c offset here))

-- one that is written there
pub page_written : (at n offset : ℕ) (zs : List ℤ) (before after part : List ℕ) → 64 * n ≤ length zs → at + 512 * n + 512 ≤ length before → offset ≡ at + 512 * n → part ≡ page_bytes zs n → after ≡ overwritten before offset part → StandsAt at (pages_front zs n) before → StandsAt at (pages_front zs (n + 1)) after
page_written at n offset zs before after part full room at_is part_is after_is front =
    let long : length part ≡ 512 = ap length part_is ∙ length-page_bytes zs n in
    let same : SameOutside offset (length part) before after = subst (λ (l : List ℕ). SameOutside offset (length part) before l) (sym after_is) (SameOutside-overwritten before offset part (omega (arith, room, at_is, long))) in
    let here : StandsAt offset part after =
    record { is = sym (between_is offset (length part) after) ∙ ap (λ (l : List ℕ). slice_range l offset (offset + length part)) after_is ∙ slice_range-overwritten before offset part (omega (arith, room, at_is, long)) } in
    front_stands at n zs after full
    (stands_before offset (length part) at (pages_front zs n) before after same (omega (arith, at_is, length-pages_front zs n full)) front)
    (moved offset (at + 512 * n) (page_bytes zs n) after at_is (subst (λ (l : List ℕ). StandsAt offset l after) part_is here))

-- one that is not written, and stood there before any write
pub page_kept : (at n : ℕ) (zs : List ℤ) (before now : List ℕ) → 64 * n ≤ length zs → SameOutside at (512 * n) before now → StandsAt (at + 512 * n) (page_bytes zs n) before → StandsAt at (pages_front zs n) now → StandsAt at (pages_front zs (n + 1)) now
page_kept at n zs before now full same there front =
    front_stands at n zs now full front (stands_after at (512 * n) (at + 512 * n) (page_bytes zs n) before now same (omega arith) there)

-- so do pages
module _ (at n offset vars pages : ℕ) (values : List ℤ) (b c : List ℕ) (same : SameOutside at n b c) where
  pub HoldsOthers-before : offset + 512 * pages_of vars ≤ at → HoldsOthers offset vars pages values b → HoldsOthers offset vars pages values c
  HoldsOthers-before fits holds = record {
    each = λ page below kept. stands_before at n (offset + 512 * page) (page_bytes values page) b c same (omega (arith, fits, below, length-page_bytes values page)) (holds.each page below kept);
  }

  pub HoldsOthers-after : at + n ≤ offset → HoldsOthers offset vars pages values b → HoldsOthers offset vars pages values c
  HoldsOthers-after above holds = record {
    each = λ page below kept. stands_after at n (offset + 512 * page) (page_bytes values page) b c same (omega (arith, above)) (holds.each page below kept);
  }

-- where a page is written that is in the set
pub HoldsOthers-changed : (at vars pages page n : ℕ) (values : List ℤ) (b c : List ℕ) → has_page pages page ≡ true → n ≡ 512 → SameOutside (at + 512 * page) n b c → HoldsOthers at vars pages values b → HoldsOthers at vars pages values c
HoldsOthers-changed at vars pages page n values b c changed long same holds = record {
  each = λ other below kept. ⊎_elim
      (λ before. stands_before (at + 512 * page) n (at + 512 * other) (page_bytes values other) b c same (omega (arith, before, length-page_bytes values other)) (holds.each other below kept))
      (λ not_before.
      let apart : other ≡ page → ⊥ = λ is. false≢true (sym kept ∙ ap (has_page pages) is ∙ changed) in
      stands_after (at + 512 * page) n (at + 512 * other) (page_bytes values other) b c same (omega (arith, not_before, apart, long)) (holds.each other below kept))
      (cases_lt other page);
}

-- what every crash leaves, and a write outside it keeps, holds at each moment
module _ (P : List ℕ → Type 0) (old mid : DeviceView) (device : IsDevice mid) (first : AtEachMoment old mid P) (later : mid.keeps_model → old.moment ≤ mid.moment) where
  pub moments_write : (at n : ℕ) (new : DeviceView) → (new.keeps_model → mid.keeps_model) → ((b c : List ℕ) → SameOutside at n b c → P b → P c) → WritesWithin at n mid new → AtEachMoment old new P
  moments_write at n new model outside writes = AtEachMoment-trans old mid new P (Rewritten at n mid) model later first writes.time (λ k c from. Rewritten-keeps at n mid P c (model k) (LeavesOnly-moment old mid P device later first) outside from)

  pub moments_both : (new : DeviceView) (R : List ℕ → Type 0) → (new.keeps_model → mid.keeps_model) → Elapses mid new R → AtEachMoment mid new P → AtEachMoment old new P
  moments_both new R model time second = record { each = λ k c left. ⊎_elim (λ was. first.each (model k) c was) (λ is. second.each k c is) (either_time old mid new R model later time k c left) }

-- before any call
pub moments_none : (P : List ℕ → Type 0) (d : DeviceView) → IsDevice d → LeavesOnly d P → AtEachMoment d d P
moments_none P d device holds = record { each = λ k c left. holds.each k c (device.only_now c k left) }

-- where every page is in the set, nothing is said
pub HoldsOthers-all : (at vars : ℕ) (values : List ℤ) (c : List ℕ) → vars ≤ 1024 → HoldsOthers at vars 65535 values c
HoldsOthers-all at vars values c few = record { each = λ page below kept. absurd (false≢true (sym kept ∙ has_page-all page (omega (arith, below, few)))) }

-- a page that is not written keeps its values
set_elsewhere : (values : List ℤ) (var page : ℕ) (value : ℤ) → (var / 64 ≡ page → ⊥) → page_values (set values var value) page ≡ page_values values page
set_elsewhere values var page value other = ⊎_elim
    (λ before. ap (take 64) (drop-set-lt (64 * page) values var value before))
    (λ not_before.
    let behind : 64 ≤ var - 64 * page = omega (arith, other, not_before) in
    let offset : 64 * page + (var - 64 * page) ≡ var = omega (arith, not_before) in
    ap (λ (k : ℕ). take 64 (drop (64 * page) (set values k value))) (sym offset) ∙ ap (take 64) (drop-set-add (64 * page) values (var - 64 * page) value) ∙ take-set-le 64 (drop (64 * page) values) (var - 64 * page) value behind)
    (cases_lt var (64 * page))

written_elsewhere : (values : List ℤ) (ws : List (ℕ × ℤ)) (page : ℕ) → is_page_written ws page ≡ false → page_values (written values ws) page ≡ page_values values page
written_elsewhere values [] page none = refl
written_elsewhere values (w ∷ ws) page none =
    let parts = or_false (w.0 / 64 == page) (is_page_written ws page) none in
    written_elsewhere (set values w.0 w.1) ws page parts.1 ∙ set_elsewhere values w.0 page w.1 (eqb-false (w.0 / 64) page parts.0)

pub folded_elsewhere : (s : State) (es : List Effect) (page : ℕ) → is_page_changed es page ≡ false → page_values (fold s es).values page ≡ page_values s.values page
folded_elsewhere s [] page none = refl
folded_elsewhere s (e ∷ es) page none =
    let parts = or_false (is_page_written e.writes page) (is_page_changed es page) none in
    folded_elsewhere (apply s e) es page parts.1 ∙ written_elsewhere s.values e.writes page parts.0

-- pages with these values are spelled alike
spelled_alike : (values values' : List ℤ) (page : ℕ) → page_values values page ≡ page_values values' page → page_bytes values page ≡ page_bytes values' page
unfolding page_bytes
spelled_alike values values' page same = ap spelled same
  where
    spelled : List ℤ → List ℕ
    spelled zs = flat_map value_bytes zs ++ replicate (512 - 8 * length zs) 0

-- once the pages that effects change are in the set too, the others hold the state after them
pub HoldsOthers-fold : (at vars pages more : ℕ) (s : State) (es : List Effect) (c : List ℕ) → ((page : ℕ) → has_page more page ≡ is_page_changed es page) → HoldsOthers at vars pages s.values c → HoldsOthers at vars (bit_or pages more) (fold s es).values c
HoldsOthers-fold at vars pages more s es c are holds = record {
  each = λ page below kept.
      let parts = or_false (has_page pages page) (has_page more page) (sym (has_page-or pages more page) ∙ kept) in
      subst (λ (part : List ℕ). StandsAt (at + 512 * page) part c) (sym (spelled_alike (fold s es).values s.values page (folded_elsewhere s es page (sym (are page) ∙ parts.1)))) (holds.each page below parts.0);
}

-- the first pages stand where more of them do
fewer : (at : ℕ) (zs : List ℤ) (c : List ℕ) (n d : ℕ) → 64 * (n + d) < length zs + 64 → StandsAt at (pages_front zs (n + d)) c → StandsAt at (pages_front zs n) c
fewer at zs c n zero fits stands = let same : n + 0 ≡ n = omega arith in subst (λ (k : ℕ). StandsAt at (pages_front zs k) c) same stands
fewer at zs c n (suc d) fits stands =
    let next : n + suc d ≡ n + d + 1 = omega arith in
    fewer at zs c n d (omega (arith, fits)) (first_part at (pages_front zs (n + d)) (page_bytes zs (n + d)) c
    (subst (λ (l : List ℕ). StandsAt at l c) (ap (pages_front zs) next ∙ front_more zs (n + d) (omega (arith, fits))) stands))

-- one of them
pub page_stands : (at vars page : ℕ) (zs : List ℤ) (c : List ℕ) → length zs ≡ vars → page < pages_of vars → StandsAt at (pages_body vars zs) c → StandsAt (at + 512 * page) (page_bytes zs page) c
page_stands at vars page zs c long below stands =
    let full : 64 * page ≤ length zs = omega (arith, long, below) in
    let all : page + 1 + (pages_of vars - (page + 1)) ≡ pages_of vars = omega (arith, below) in
    let front : StandsAt at (pages_front zs (page + 1)) c =
    fewer at zs c (page + 1) (pages_of vars - (page + 1)) (omega (arith, long, all)) (subst (λ (k : ℕ). StandsAt at (pages_front zs k) c) (sym all) (subst (λ (l : List ℕ). StandsAt at l c) (sym (front_all vars zs long)) stands)) in
    moved (at + length (pages_front zs page)) (at + 512 * page) (page_bytes zs page) c (ap (λ (k : ℕ). at + k) (length-pages_front zs page full))
    (second_part at (pages_front zs page) (page_bytes zs page) c (subst (λ (l : List ℕ). StandsAt at l c) (front_more zs page full) front))

-- the pages of an image stand behind its header
pages_behind : (v : Version) (at vars generation : ℕ) (s : State) (c : List ℕ) → length (names_body s.names) ≡ 2030 → StandsAt at (image_body v vars generation s) c → StandsAt (at + 2047) (pages_body vars s.values) c
unfolding image_body
pages_behind v at vars generation s c long stands =
    let pages : List ℕ = pages_body vars s.values in
    let names : List ℕ = names_body s.names in
    let count : List ℕ = number_bytes 8 s.count in
    let first : List ℕ = number_bytes 8 generation in
    let byte : List ℕ = version_byte v ∷ [] in
    let one = second_part at first (count ++ (names ++ (byte ++ pages))) c stands in
    let two = second_part (at + length first) count (names ++ (byte ++ pages)) c one in
    let three = second_part (at + length first + length count) names (byte ++ pages) c two in
    let four = second_part (at + length first + length count + length names) byte pages c three in
    moved (at + length first + length count + length names + 1) (at + 2047) pages c (omega (arith, length-number_bytes 8 generation, length-number_bytes 8 s.count, long)) four

-- an image holds each page of its values
pub HoldsOthers-image : (v : Version) (vars copy generation pages : ℕ) (s : State) (c : List ℕ) → HoldsImage v vars copy generation s c → HoldsOthers (pages_at vars copy) vars pages s.values c
HoldsOthers-image v vars copy generation pages s c holds = record {
  each = λ page below kept.
      page_stands (pages_at vars copy) vars page s.values c holds.fits.values below
      (moved (image_at vars copy + 1 + 2047) (pages_at vars copy) (pages_body vars s.values) c (omega arith)
      (pages_behind v (image_at vars copy + 1) vars generation s c (length-names_body s.names holds.fits.names) (body_stands (image_at vars copy) (image_body v vars generation s) c holds.cell.body)));
}
