-- A spelling, as it is put into a buffer part by part.
use Rattle.std.proofs.Common.{◌≡◌, ◌≤◌, ◌+◌, ◌-◌, ℕ, List, [], ◌∷◌, ◌++◌, length, take, drop, replicate, codes, sym, ◌∙◌, ap, arith, append_assoc, length-append}
use Rattle.std.proofs.lemmas.List.{take-append-drop, take_at, drop-replicate, drop-drop, append-nil, length-replicate, replicate-append-replicate}
use Rattle.byteorder.specs.Endian.{little_bytes}
use Rattle.tmem_state.specs.Versions.{version_number}
use Rattle.tmem_state.specs.declared.version.Version.{Version}
use Rattle.tmem_journal.specs.BlockSpelling.{block_body}

-- block 0 from its parts, in front of zeros
pub block_is : (version : Version) (vars slots : ℕ) (whole : List ℕ) (at number : ℕ) (b0 b1 b2 v s : List ℕ) → b0 ≡ codes "TMEM" → number ≡ version_number version → b1 ≡ b0 ++ number ∷ [] → b2 ≡ b1 ++ v → take at whole ≡ b2 ++ s → drop at whole ≡ replicate 502 0
    → v ≡ little_bytes 2 vars → s ≡ little_bytes 2 slots → whole ≡ block_body version vars slots
unfolding block_body
block_is version vars slots whole at number b0 b1 b2 v s e0 is e1 e2 e3 rest v_is s_is =
    sym (take-append-drop at whole) ∙ ap (λ (l : List ℕ). l ++ drop at whole) (e3 ∙ ap (λ (l : List ℕ). l ++ s) (e2 ∙ ap (λ (l : List ℕ). l ++ v) (e1 ∙ ap (λ (l : List ℕ). l ++ number ∷ []) e0 ∙ ap (λ (n : ℕ). codes "TMEM" ++ n ∷ []) is)))
    ∙ ap (λ (l : List ℕ). (((codes "TMEM" ++ version_number version ∷ []) ++ v) ++ s) ++ l) rest
    ∙ grouped (codes "TMEM") (version_number version ∷ []) v s (replicate 502 0)
    ∙ ap (λ (l : List ℕ). codes "TMEM" ++ version_number version ∷ (l ++ (s ++ replicate 502 0))) v_is
    ∙ ap (λ (l : List ℕ). codes "TMEM" ++ version_number version ∷ (little_bytes 2 vars ++ (l ++ replicate 502 0))) s_is
  where
    grouped : (a b c d f : List ℕ) → (((a ++ b) ++ c) ++ d) ++ f ≡ a ++ (b ++ (c ++ (d ++ f)))
    grouped a b c d f = simp append_assoc

-- what stays behind one offset stays behind a later one
pub drop_further : (m n : ℕ) (a b : List ℕ) → m ≤ n → drop m a ≡ drop m b → drop n a ≡ drop n b
drop_further m n a b le same =
    let e : m + (n - m) ≡ n = omega arith in
    ap (λ (k : ℕ). drop k a) (sym e) ∙ sym (drop-drop (n - m) m a) ∙ ap (drop (n - m)) same ∙ drop-drop (n - m) m b ∙ ap (λ (k : ℕ). drop k b) e

-- behind four parts the buffer is as it was made
pub rest_is : (n : ℕ) (a0 a1 a2 a3 a4 : List ℕ) (r1 r2 r3 r4 : ℕ) → r1 ≤ r2 → r2 ≤ r3 → r3 ≤ r4 → drop r1 a1 ≡ drop r1 a0 → drop r2 a2 ≡ drop r2 a1 → drop r3 a3 ≡ drop r3 a2 → drop r4 a4 ≡ drop r4 a3
    → a0 ≡ replicate n 0 → drop r4 a4 ≡ replicate (n - r4) 0
rest_is n a0 a1 a2 a3 a4 r1 r2 r3 r4 l12 l23 l34 e1 e2 e3 e4 is =
    e4 ∙ drop_further r3 r4 a3 a2 l34 e3 ∙ drop_further r2 r4 a2 a1 (omega arith) e2 ∙ drop_further r1 r4 a1 a0 (omega arith) e1 ∙ ap (drop r4) is ∙ drop-replicate r4 n 0

-- a number of eight bytes in front of zeros, and a byte behind them: put into a buffer of zeros one after the other
pub header_is : (m : ℕ) (z a b gen : List ℕ) (r1 r2 byte : ℕ) → 8 ≤ m → z ≡ replicate (m + 1) 0 → length gen ≡ 8 → r1 ≡ 8 → take r1 a ≡ gen → drop r1 a ≡ drop r1 z → r2 ≡ m + 1 → take r2 b ≡ take m a ++ byte ∷ [] → drop r2 b ≡ drop r2 a
    → b ≡ gen ++ (replicate (m - 8) 0 ++ byte ∷ [])
header_is m z a b gen r1 r2 byte room zeros long at_8 first rest at_end second last =
    let blank : List ℕ = replicate (m - 8) 0 in
    let left : m + 1 - r1 ≡ m - 8 + 1 = omega arith in
    let none : m + 1 - r2 ≡ 0 = omega arith in
    let behind : drop r1 z ≡ blank ++ replicate 1 0 = ap (drop r1) zeros ∙ drop-replicate r1 (m + 1) 0 ∙ ap (λ (k : ℕ). replicate k 0) left ∙ sym (replicate-append-replicate (m - 8) 1 0) in
    let whole : a ≡ (gen ++ blank) ++ replicate 1 0 = sym (take-append-drop r1 a) ∙ ap (λ (l : List ℕ). l ++ drop r1 a) first ∙ ap (λ (l : List ℕ). gen ++ l) (rest ∙ behind) ∙ sym (append_assoc gen blank (replicate 1 0)) in
    let all : length (gen ++ blank) ≡ m = omega (arith, length-append gen blank, length-replicate {A = ℕ} (m - 8) 0) in
    let front : take m a ≡ gen ++ blank = ap (take m) whole ∙ take_at (gen ++ blank) (replicate 1 0) m all in
    let nothing : drop r2 b ≡ [] = last ∙ drop_further r1 r2 a z (omega arith) rest ∙ ap (drop r2) zeros ∙ drop-replicate r2 (m + 1) 0 ∙ ap (λ (k : ℕ). replicate k 0) none in
    sym (take-append-drop r2 b) ∙ ap (λ (l : List ℕ). l ++ drop r2 b) (second ∙ ap (λ (l : List ℕ). l ++ byte ∷ []) front) ∙ ap (λ (l : List ℕ). ((gen ++ blank) ++ byte ∷ []) ++ l) nothing ∙ append-nil ((gen ++ blank) ++ byte ∷ []) ∙ append_assoc gen blank (byte ∷ [])
