-- A ring whose entries are made as they are first used.
use Rattle.std.proofs.Common.{◌≡◌, ℕ, ◌+◌, ◌-◌, ◌%◌, ◌<◌, ◌≤◌, ◌^◌, ◌⊎◌, List, [], ◌∷◌, ◌++◌, length, get_or, drop, set, ap, sym, ◌∙◌, subst, inl, inr, mod-lt, mod-eq_of_lt, arith, length-append, length-drop, length-set}
use Rattle.std.specs.Prelude.{slice_get, Some}
use Rattle.std.proofs.lemmas.Bool.{cases_lt}
use Rattle.tmem_core.specs.Ring.{IsRing}
use Rattle.tmem_core.proofs.Windows.{window, length-window, slice_get-window, window-push, window-later, window-end, slice_get-end, window-made, window-end-later}

module _ {X : Type 0} (xs : List X) (capacity k n : ℕ) (ring : IsRing xs capacity k n) where
  -- all entries are made, or those up to the last one in use, and there the ring has not gone around
  kind : (length xs ≡ 256) ⊎ ((k + n ≡ length xs) × (length xs < 256))
  kind = elim ring.made [
    | inl full ↦ inl full
    | inr ends ↦ elim (cases_lt (length xs) 256) [
      | inl less ↦ inr (ends, less)
      | inr more ↦ inl (omega (arith, more, ring.few))
    ]
  ]

  pub length-ring : length (window k n xs) ≡ n
  length-ring = elim kind [
    | inl full ↦ length-window 256 k n xs ring.begins ring.fits full
    | inr it ↦ ap length (window-end k n xs it.0) ∙ length-drop k xs ∙ omega (arith, it.0)
  ]

  -- the entry of one in use is made
  pub made-ring : (i : ℕ) → i < n → (k + i) % 256 < length xs
  made-ring i below = elim kind [
    | inl full ↦ subst (λ (m : ℕ). (k + i) % 256 < m) (sym full) (mod-lt (k + i) (omega arith))
    | inr it ↦
        let less : k + i < 256 = omega (arith, it.0, it.1, below) in
        let same : (k + i) % 256 ≡ k + i = mod-eq_of_lt less in
        omega (arith, same, it.0, below)
  ]

  pub slice_get-ring : (i : ℕ) (x : X) → i < n → x ≡ get_or xs ((k + i) % 256) x → slice_get (window k n xs) i ≡ Some x
  slice_get-ring i x below is = elim kind [
    | inl full ↦ slice_get-window 256 k n xs ring.begins ring.fits full i x below is
    | inr it ↦
        let less : k + i < 256 = omega (arith, it.0, it.1, below) in
        slice_get-end k n xs it.0 i x below (is ∙ ap (λ (j : ℕ). get_or xs j x) (mod-eq_of_lt less))
  ]

  -- from a later start on
  pub ring-later : (many : ℕ) → many ≤ n → window ((k + many) % 256) (n - many) xs ≡ drop many (window k n xs)
  ring-later many fits = elim kind [
    | inl full ↦ window-later 256 k n xs ring.begins ring.fits full many fits
    | inr it ↦
        let less : k + many < 256 = omega (arith, it.0, it.1, fits) in
        ap (λ (j : ℕ). window j (n - many) xs) (mod-eq_of_lt less) ∙ window-end-later k n xs many it.0 fits
  ]

  pub IsRing-later : (many : ℕ) → many ≤ n → IsRing xs capacity ((k + many) % 256) (n - many)
  IsRing-later many fits = record {
    few = ring.few;
    room = ring.room;
    begins = mod-lt (k + many) (omega arith);
    fits = omega (arith, ring.fits);
    made = elim kind [
      | inl full ↦ inl full
      | inr it ↦
          let less : k + many < 256 = omega (arith, it.0, it.1, fits) in
          let same : (k + many) % 256 ≡ k + many = mod-eq_of_lt less in
          inr (omega (arith, same, it.0, fits))
    ];
  }

  -- one more in use, whose entry is there
  pub ring-there : (x : X) → n < 256 → (k + n) % 256 < length xs → window k (n + 1) (set xs ((k + n) % 256) x) ≡ window k n xs ++ x ∷ []
  ring-there x room there = elim kind [
    | inl full ↦ window-push 256 k n xs ring.begins ring.fits full x room
    | inr it ↦
        let less : k + n < 256 = omega (arith, it.0, it.1) in
        let same : (k + n) % 256 ≡ k + n = mod-eq_of_lt less in
        absurd (omega (arith, same, it.0, there))
  ]

  pub IsRing-there : (x : X) (capacity' : ℕ) → n < 256 → (k + n) % 256 < length xs → 2 ^ 8 ≤ capacity' → IsRing (set xs ((k + n) % 256) x) capacity' k (n + 1)
  IsRing-there x capacity' room there wide = record {
    few = omega (arith, ring.few, length-set xs ((k + n) % 256) x);
    room = wide;
    begins = ring.begins;
    fits = omega (arith, room);
    made = elim kind [
      | inl full ↦ inl (length-set xs ((k + n) % 256) x ∙ full)
      | inr it ↦
          let less : k + n < 256 = omega (arith, it.0, it.1) in
          let same : (k + n) % 256 ≡ k + n = mod-eq_of_lt less in
          absurd (omega (arith, same, it.0, there))
    ];
  }

  around : (k + n) % 256 < 256
  around = mod-lt (k + n) (omega arith)

  -- or is made now
  ends : length xs ≤ (k + n) % 256 → n < 256 → k + n ≡ length xs
  ends none room = elim kind [
    | inl full ↦ absurd (omega (arith, full, none, around))
    | inr it ↦ it.0
  ]

  pub ring-made : (x : X) → n < 256 → length xs ≤ (k + n) % 256 → window k (n + 1) (xs ++ x ∷ []) ≡ window k n xs ++ x ∷ []
  ring-made x room none = window-made k n xs x (ends none room)

  pub IsRing-made : (x : X) (capacity' : ℕ) → n < 256 → length xs ≤ (k + n) % 256 → 2 ^ 8 ≤ capacity' → IsRing (xs ++ x ∷ []) capacity' k (n + 1)
  IsRing-made x capacity' room none wide =
      let long = length-append xs (x ∷ []) in
      record {
        few = elim kind [
          | inl full ↦ absurd (omega (arith, full, none, around))
          | inr it ↦ omega (arith, it.1, long)
        ];
        room = wide;
        begins = ring.begins;
        fits = omega (arith, room);
        made = inr (omega (arith, ends none room, long));
      }
