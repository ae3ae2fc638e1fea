-- Bytes of block 0, one by one.
use Rattle.std.proofs.Common.{◌≡◌, ◌≢◌, ◌+◌, ◌-◌, ◌<◌, ◌≤◌, ℕ, List, length, take, drop, sym, ap, ◌∙◌, arith}
use Rattle.std.specs.Prelude.{slice_index}
use Rattle.std.proofs.lemmas.List.{get_or-take, get_or-drop, get_or-replicate, length-take-le, length-drop, length-replicate}
use Rattle.std.proofs.lemmas.Grind.{same_number_lists}
use Rattle.tmem_record.specs.StandsAt.{StandsAt, zero_bytes}

-- a part whose bytes stand there one by one
all_stand : (at : ℕ) (part c : List ℕ) → at + length part ≤ length c → ((k : ℕ) → k < length part → slice_index c (at + k) ≡ slice_index part k) → take (length part) (drop at c) ≡ part
all_stand at part c room each =
    let long : length (take (length part) (drop at c)) ≡ length part = length-take-le (length part) (drop at c) (omega (arith, room, length-drop at c)) in
    same_number_lists (take (length part) (drop at c)) part long
    (λ k below. let there : k < length part = omega (arith, below, long) in get_or-take (length part) (drop at c) k 0 there ∙ get_or-drop at c k 0 ∙ each k there)

-- a byte of a part that stands there
one_stands : (at : ℕ) (part c : List ℕ) → take (length part) (drop at c) ≡ part → (k : ℕ) → k < length part → slice_index c (at + k) ≡ slice_index part k
one_stands at part c is k below = sym (get_or-drop at c k 0) ∙ sym (get_or-take (length part) (drop at c) k 0 below) ∙ ap (λ (l : List ℕ). slice_index l k) is

-- the zeros
length-zeros : length (zero_bytes 502) ≡ 502
unfolding zero_bytes
length-zeros = length-replicate {A = ℕ} 502 0

zero_at : (k : ℕ) → k < 502 → slice_index (zero_bytes 502) k ≡ 0
unfolding zero_bytes
zero_at k below = get_or-replicate 502 k 0 0 below

pub zeros_stand : (c : List ℕ) → 512 ≤ length c → ((k : ℕ) → 10 ≤ k → k < 512 → slice_index c k ≡ 0) → StandsAt 10 (zero_bytes 502) c
zeros_stand c long each = record {
  is = all_stand 10 (zero_bytes 502) c (omega (arith, long, length-zeros)) (λ k below.
      let there : k < 502 = omega (arith, below, length-zeros) in
      each (10 + k) (omega arith) (omega (arith, there)) ∙ sym (zero_at k there));
}

pub other_than_zero : (c : List ℕ) (k : ℕ) → 10 ≤ k → k < 512 → slice_index c k ≢ 0 → ¬ StandsAt 10 (zero_bytes 502) c
other_than_zero c k from below other stands =
    let there : k - 10 < length (zero_bytes 502) = omega (arith, from, below, length-zeros) in
    let offset : 10 + (k - 10) ≡ k = omega (arith, from) in
    other (ap (slice_index c) (sym offset) ∙ one_stands 10 (zero_bytes 502) c stands.is (k - 10) there ∙ zero_at (k - 10) (omega (arith, from, below)))
