-- What is read of a content in one piece.
use Rattle.std.proofs.Common.{◌≡◌, ℕ, ◌<◌, ◌≤◌, ◌+◌, ◌-◌, List, take, drop, sym, ◌∙◌, ap, arith}
use Rattle.std.specs.Prelude.{slice_get, slice_range}
use Rattle.std.proofs.lemmas.List.{drop-take, take-take, drop-drop}
use Rattle.tmem_disk.proofs.Laws.{slice_get-take, slice_get-drop}
use Rattle.tmem_gate.specs.Gate.{IsOpenAt, IsClosed}
use Rattle.tmem_record.proofs.Standing.{between_is}

module _ (c piece : List ℕ) (at n : ℕ) (read : piece ≡ slice_range c at (at + n)) where
  piece_is : piece ≡ take n (drop at c)
  piece_is = read ∙ between_is at n c

  get_piece : (i j : ℕ) → at + i ≡ j → i < n → slice_get piece i ≡ slice_get c j
  get_piece i j offset below = ap (λ (l : List ℕ). slice_get l i) piece_is ∙ slice_get-take (drop at c) n i below ∙ slice_get-drop c at i ∙ ap (slice_get c) offset

  -- a gate in it
  pub gate_open : (i j : ℕ) → at + i ≡ j → i < n → IsOpenAt i piece → IsOpenAt j c
  gate_open i j offset below is = sym (get_piece i j offset below) ∙ is

  pub gate_opened : (i j : ℕ) → at + i ≡ j → i < n → IsOpenAt j c → IsOpenAt i piece
  gate_opened i j offset below is = get_piece i j offset below ∙ is

  pub gate_closed : (i j : ℕ) → at + i ≡ j → i < n → IsClosed i piece → IsClosed j c
  gate_closed i j offset below closed = record { not_open = λ is. closed.not_open (gate_opened i j offset below is) }

  pub gate_stays_closed : (i j : ℕ) → at + i ≡ j → i < n → IsClosed j c → IsClosed i piece
  gate_stays_closed i j offset below closed = record { not_open = λ is. closed.not_open (gate_open i j offset below is) }

  -- a part of it
  pub part_read : (i m : ℕ) → i + m ≤ n → take m (drop i piece) ≡ slice_range c (at + i) (at + i + m)
  part_read i m fits =
      let all : i + (n - i) ≡ n = omega arith in
      let le : m ≤ n - i = omega arith in
      ap (λ (l : List ℕ). take m (drop i l)) (piece_is ∙ ap (λ (k : ℕ). take k (drop at c)) (sym all)) ∙ ap (take m) (drop-take i (n - i) (drop at c)) ∙ take-take m (n - i) (drop i (drop at c)) le
      ∙ ap (take m) (drop-drop i at c) ∙ sym (between_is (at + i) m c)
