-- The part of a ring that is in use: so many entries from a start on, around the end.
use Rattle.std.proofs.Common.{◌≡◌, ℕ, ◌+◌, ◌-◌, ◌%◌, ◌<◌, ◌≤◌, ◌⊎◌, List, [], ◌∷◌, ◌++◌, length, get_or, take, drop, set, ap, sym, ◌∙◌, inl, inr, mod-eq_of_lt, arith, length-append, length-drop, length-set, length-take-le, get_or-drop, get_or-take}
use Rattle.std.specs.Prelude.{slice_get, Some}
use native.Mathlib.Nat.{mod-eq-sub-mod, mod-add-mod}
use Rattle.std.proofs.lemmas.List.{same_lists, get_or_append_left, get_or-append_right, take_at, drop-drop, drop-append-le}
use Rattle.std.proofs.lemmas.Option.{slice_get_read}
use Rattle.std.proofs.lemmas.Bool.{cases_lt}
use Rattle.std.proofs.lemmas.Grind.{common_steps}

-- the n entries from k on, around the end
abbrev pub window : {X : Type 0} → ℕ → ℕ → List X → List X
window k n xs = take n (drop k xs ++ take k xs)

-- an index below 2 N goes around once at most
mod_around : (N j : ℕ) → j < N + N → ((j < N) × (j % N ≡ j)) ⊎ ((N ≤ j) × (j % N ≡ j - N))
mod_around N j below = elim (cases_lt j N) [
  | inl low ↦ inl (low, mod-eq_of_lt low)
  | inr high ↦ inr (high, mod-eq-sub-mod high ∙ mod-eq_of_lt (omega arith))
]

module _ {X : Type 0} (N k n : ℕ) (xs : List X) (within : k < N) (few : n ≤ N) (long : length xs ≡ N) where
  pub length-window : length (window k n xs) ≡ n
  length-window = length-take-le n _ (simp (length-append, length-drop) (omega (arith, length-take-le k xs (omega arith))))

  -- what stands at i is at (k + i) % N, before the end or past it
  pub get_or-window : (i : ℕ) (d : X) → i < n → get_or (window k n xs) i d ≡ get_or xs ((k + i) % N) d
  get_or-window i d below =
      let tail = length-drop k xs in
      get_or-take n _ i d below ∙ elim (mod_around N (k + i) (omega arith)) [
        | inl before ↦ get_or_append_left _ _ d i (omega arith) ∙ get_or-drop k xs i d ∙ ap (λ j. get_or xs j d) (omega arith)
        | inr past ↦ get_or-append_right _ _ (N - k) i d (omega arith) (omega arith) ∙ get_or-take k xs _ d (omega arith) ∙ ap (λ j. get_or xs j d) (omega arith)
      ]

module _ {X : Type 0} (N k n : ℕ) (xs : List X) (within : k < N) (few : n ≤ N) (long : length xs ≡ N) where
  -- the one that stands there
  pub slice_get-window : (i : ℕ) (x : X) → i < n → x ≡ get_or xs ((k + i) % N) x → slice_get (window k n xs) i ≡ Some x
  slice_get-window i x below is =
      slice_get_read (window k n xs) n i x (sym (length-window N k n xs within few long)) below (is ∙ sym (get_or-window N k n xs within few long i x below))

  -- a write behind the last one adds it at the end
  pub window-push : (x : X) → n < N → window k (n + 1) (set xs ((k + n) % N) x) ≡ window k n xs ++ x ∷ []
  window-push x room =
      let ys = set xs ((k + n) % N) x in
      let long' = length-set xs ((k + n) % N) x ∙ long in
      let length_old = length-window N k n xs within few long in
      let length_new = length-window N k (n + 1) ys within (omega arith) long' in
      let index = mod_around N (k + n) (omega arith) in
      same_lists _ _ (grind (arith, common_steps)) (λ i d below. grind (
        arith,
        common_steps,
        mod_around N (k + i) (omega arith),
        get_or-window N k n xs within few long i d,
        get_or-window N k (n + 1) ys within (omega arith) long' i d,
      ))

  -- from a later start on there is what stood behind the first ones
  pub window-later : (many : ℕ) → many ≤ n → window ((k + many) % N) (n - many) xs ≡ drop many (window k n xs)
  window-later many fits =
      let next : (k + many) % N < N = elim (mod_around N (k + many) (omega arith)) [ inl before ↦ omega arith | inr past ↦ omega arith ] in
      let length_old = length-window N k n xs within few long in
      let length_new = length-window N ((k + many) % N) (n - many) xs next (omega arith) long in
      same_lists _ _ (omega (arith, length_old, length_new, length-drop many (window k n xs))) (λ i d below.
      let less : i < n - many = omega (arith, below, length_new) in
      get_or-window N ((k + many) % N) (n - many) xs next (omega arith) long i d less
      ∙ ap (λ j. get_or xs j d) (mod-add-mod (k + many) N i)
      ∙ ap (λ (j : ℕ). get_or xs (j % N) d) (omega arith)
      ∙ sym (get_or-window N k n xs within few long (many + i) d (omega arith))
      ∙ sym (get_or-drop many (window k n xs) i d))

-- where the entries end behind the last one in use
module _ {X : Type 0} (k n : ℕ) (xs : List X) (ends : k + n ≡ length xs) where
  pub window-end : window k n xs ≡ drop k xs
  window-end = take_at (drop k xs) (take k xs) n (length-drop k xs ∙ omega (arith, ends))

  -- the one at an index
  pub slice_get-end : (i : ℕ) (x : X) → i < n → x ≡ get_or xs (k + i) x → slice_get (window k n xs) i ≡ Some x
  slice_get-end i x below is =
      ap (λ (l : List X). slice_get l i) window-end ∙ slice_get_read (drop k xs) n i x (omega (arith, ends, length-drop k xs)) below (is ∙ sym (get_or-drop k xs i x))

-- an entry that is made behind the last one in use
pub window-made : {X : Type 0} (k n : ℕ) (xs : List X) (x : X) → k + n ≡ length xs → window k (n + 1) (xs ++ x ∷ []) ≡ window k n xs ++ x ∷ []
window-made {X} k n xs x ends =
    window-end k (n + 1) (xs ++ x ∷ []) (omega (arith, ends, length-append xs (x ∷ []))) ∙ drop-append-le k xs (x ∷ []) (omega (arith, ends)) ∙ ap (λ (l : List X). l ++ x ∷ []) (sym (window-end k n xs ends))

pub window-end-later : {X : Type 0} (k n : ℕ) (xs : List X) (many : ℕ) → k + n ≡ length xs → many ≤ n → window (k + many) (n - many) xs ≡ drop many (window k n xs)
window-end-later k n xs many ends fits =
    window-end (k + many) (n - many) xs (omega (arith, ends, fits)) ∙ sym (drop-drop many k xs) ∙ ap (drop many) (sym (window-end k n xs ends))
