-- Writes held in place: those at the front of an array.
use Rattle.std.proofs.Common.{◌≡◌, ℕ, ◌+◌, ◌<◌, ◌≤◌, ◌==◌, ℤ, pos, List, length, take, set, Some, None, position, sym, ◌∙◌, arith}
use Rattle.std.proofs.Math.Seq.{take-set-lt}
use Rattle.std.proofs.lemmas.List.{take_more_set, length-take-le}
use Rattle.std.proofs.lemmas.List.Quantifiers.{position-Some}
use Rattle.tmem_effect.specs.Writes.{with_write}
use Rattle.tmem_effect.proofs.WritesLaws.{with_write-at, with_write-none}

module _ (items : List (ℕ × ℤ)) (len var : ℕ) (value : ℤ) (within : len ≤ length items) where
  -- an index that was found is before the end
  pub found_below : (at : ℕ) → position (λ w. var == w.0) (take len items) ≡ Some at → at < len
  found_below at found =
      let stands = position-Some (λ w. var == w.0) (take len items) at (0, pos 0) found in
      omega (arith, stands.0, length-take-le len items within)

  -- a value put there is a write more
  pub take-set-with_write : (at : ℕ) → position (λ w. var == w.0) (take len items) ≡ Some at → take len (set items at (var, value)) ≡ with_write (take len items) var value
  take-set-with_write at found = take-set-lt len items at (var, value) (found_below at found) ∙ sym (with_write-at (take len items) var at value found)

  -- and so is one put at the end, of a variable that stands nowhere
  pub take-more-with_write : position (λ w. var == w.0) (take len items) ≡ None → len < length items → take (len + 1) (set items len (var, value)) ≡ with_write (take len items) var value
  take-more-with_write none room = take_more_set items len (var, value) room ∙ sym (with_write-none (take len items) var value none)
