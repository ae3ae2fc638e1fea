-- The generations of two cells, and which of them is chosen.
use Rattle.std.proofs.Common.{◌≡◌, inl, inr, ℕ, ◌+◌, ◌<◌, ◌≤◌, ◌-◌, ◌^◌, List, length, sym, ◌∙◌, ap, subst, arith, ⊎_elim}
use Rattle.std.specs.Prelude.{slice_range}
use Rattle.std.proofs.lemmas.Bool.{cases_eq, cases_lt}
use Rattle.tmem_gate.specs.Gate.{IsOpenOver}
use Rattle.tmem_record.specs.Layout.{image_at}
use Rattle.tmem_record.specs.Spelling.{number_bytes}
use Rattle.tmem_record.specs.Stale.{IsClosedOrStale}
use Rattle.tmem_record.proofs.Laws.{length-number_bytes, one_number}
use Rattle.tmem_image.specs.Image.{IsChosen, ChoosesCopy}
use Rattle.tmem_image.specs.Laws.{OneChoice}

-- two bodies of one length behind one gate are one
pub one_body : (at : ℕ) (a b c : List ℕ) → length a ≡ length b → IsOpenOver at a c → IsOpenOver at b c → a ≡ b
one_body at a b c long one other = sym one.body ∙ ap (λ (n : ℕ). slice_range c (at + 1) (at + 1 + n)) long ∙ other.body

-- and so are two generations
pub one_head : (at x y : ℕ) (c : List ℕ) → x < 2 ^ 64 → y < 2 ^ 64 → IsOpenOver at (number_bytes 8 x) c → IsOpenOver at (number_bytes 8 y) c → x ≡ y
one_head at x y c fits_x fits_y one other =
    one_number 8 x y (omega (arith, fits_x)) (omega (arith, fits_y)) (one_body at (number_bytes 8 x) (number_bytes 8 y) c (length-number_bytes 8 x ∙ sym (length-number_bytes 8 y)) one other)

-- what is stale for a generation is stale for each later one
pub stale_below : (generation later at : ℕ) (c : List ℕ) → IsClosedOrStale generation at c → generation ≤ later → IsClosedOrStale later at c
stale_below generation later at c (inl closed) below = inl closed
stale_below generation later at c (inr it) below = inr (it.0, omega (arith, it.1, below), it.2)

-- an open cell is stale only for a generation above its own
pub below_stale : (generation later at : ℕ) (c : List ℕ) → generation < 2 ^ 64 → IsOpenOver at (number_bytes 8 generation) c → IsClosedOrStale later at c → generation < later
below_stale generation later at c fits cell (inl closed) = absurd (closed.not_open cell.gate)
below_stale generation later at c fits cell (inr it) = ⊎_elim
    (λ less. let same = one_head at it.0 generation c less fits it.2 cell in omega (arith, same, it.1))
    (λ more. omega (arith, more, it.1, fits))
    (cases_lt it.0 (2 ^ 64))

-- the chosen copy has one generation
pub one_generation : (vars copy g g' : ℕ) (c : List ℕ) → IsChosen vars copy g c → IsChosen vars copy g' c → g ≡ g'
one_generation vars copy g g' c one other = one_head (image_at vars copy) g g' c one.fits other.fits one.cell other.cell

-- two copies that differ are not both chosen: each one's generation would be below the other's
not_both : (vars copy copy' : ℕ) (c : List ℕ) → (copy ≡ copy' → ⊥) → ChoosesCopy vars copy c → ChoosesCopy vars copy' c → ⊥
not_both vars copy copy' c differ one other =
    let there : 1 - copy ≡ copy' = omega (arith, differ, one.1.one, other.1.one) in
    let here : 1 - copy' ≡ copy = omega (arith, differ, one.1.one, other.1.one) in
    let first = below_stale other.0 one.0 (image_at vars copy') c other.1.fits other.1.cell (subst (λ (k : ℕ). IsClosedOrStale one.0 (image_at vars k) c) there one.1.other) in
    let second = below_stale one.0 other.0 (image_at vars copy) c one.1.fits one.1.cell (subst (λ (k : ℕ). IsClosedOrStale other.0 (image_at vars k) c) here other.1.other) in
    absurd (omega (arith, first, second))

pub one_choice : OneChoice
one_choice vars copy copy' c one other = ⊎_elim (λ same. same) (λ differ. absurd (not_both vars copy copy' c differ one other)) (cases_eq copy copy')

-- where both copies are open over one generation, none is chosen
pub no_choice : (vars x : ℕ) (c : List ℕ) → IsOpenOver (image_at vars 0) (number_bytes 8 x) c → IsOpenOver (image_at vars 1) (number_bytes 8 x) c → (copy : ℕ) → ChoosesCopy vars copy c → ⊥
no_choice vars x c first second copy chosen = ⊎_elim
    (λ is. none 0 1 is (omega (arith, is)) first second)
    (λ not. none 1 0 (omega (arith, not, chosen.1.one)) (omega (arith, not, chosen.1.one)) second first)
    (cases_eq copy 0)
  where
    g : ℕ
    g = chosen.0

    none : (i j : ℕ) → copy ≡ i → 1 - copy ≡ j → IsOpenOver (image_at vars i) (number_bytes 8 x) c → IsOpenOver (image_at vars j) (number_bytes 8 x) c → ⊥
    none i j here there mine theirs =
        let same = one_body (image_at vars i) (number_bytes 8 x) (number_bytes 8 g) c (length-number_bytes 8 x ∙ sym (length-number_bytes 8 g)) mine (subst (λ (k : ℕ). IsOpenOver (image_at vars k) (number_bytes 8 g) c) here chosen.1.cell) in
        let less = below_stale g g (image_at vars j) c chosen.1.fits (subst (λ (l : List ℕ). IsOpenOver (image_at vars j) l c) same theirs) (subst (λ (k : ℕ). IsClosedOrStale g (image_at vars k) c) there chosen.1.other) in
        absurd (omega (arith, less))
