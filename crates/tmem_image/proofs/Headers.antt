-- A header, as it is put into a buffer part by part.
use Rattle.std.proofs.Common.{◌≡◌, ◌≤◌, ◌+◌, ◌-◌, ℕ, List, [], ◌∷◌, ◌++◌, length, take, drop, replicate, sym, ◌∙◌, ap, arith, append_assoc}
use Rattle.std.proofs.lemmas.List.{take-append-drop, drop-replicate, take-replicate, drop-append-le, length-replicate, append-nil}
use Rattle.byteorder.specs.Endian.{little_bytes}
use Rattle.tmem_effect.specs.State.{State}
use Rattle.tmem_state.specs.Versions.{version_byte}
use Rattle.tmem_state.specs.declared.version.Version.{Version}
use Rattle.tmem_record.specs.Spelling.{number_bytes, names_bytes}
use Rattle.tmem_record.proofs.Laws.{drop_further}
use Rattle.tmem_image.specs.Spelling.{names_body, header_body}

-- a header from its parts, in front of zeros and the version byte
pub header_is : (v : Version) (generation : ℕ) (s : State) (whole : List ℕ) (at : ℕ) (names : List (List ℕ)) (b0 b1 g n : List ℕ) → b0 ≡ g → b1 ≡ b0 ++ n → take at whole ≡ b1 ++ names_bytes names → drop at whole ≡ replicate (2046 - at) 0 ++ version_byte v ∷ [] → at ≡ 16 + length (names_bytes names)
    → g ≡ little_bytes 8 generation → n ≡ little_bytes 8 s.count → names ≡ s.names → whole ≡ header_body v generation s
unfolding header_body names_body number_bytes
header_is v generation s whole at names b0 b1 g n e0 e1 e2 rest offset g_is n_is names_is =
    let left : 2046 - at ≡ 2030 - length (names_bytes names) = omega (arith, offset) in
    let zeros : List (List ℕ) → List ℕ = λ ns. replicate (2030 - length (names_bytes ns)) 0 in
    sym (take-append-drop at whole) ∙ ap (λ (l : List ℕ). l ++ drop at whole) (e2 ∙ ap (λ (l : List ℕ). l ++ names_bytes names) (e1 ∙ ap (λ (l : List ℕ). l ++ n) e0))
    ∙ ap (λ (l : List ℕ). ((g ++ n) ++ names_bytes names) ++ l) (rest ∙ ap (λ (k : ℕ). replicate k 0 ++ version_byte v ∷ []) left)
    ∙ grouped g n (names_bytes names) (zeros names) (version_byte v ∷ [])
    ∙ ap (λ (l : List ℕ). l ++ (n ++ ((names_bytes names ++ zeros names) ++ version_byte v ∷ []))) g_is
    ∙ ap (λ (l : List ℕ). little_bytes 8 generation ++ (l ++ ((names_bytes names ++ zeros names) ++ version_byte v ∷ []))) n_is
    ∙ ap (λ (ns : List (List ℕ)). little_bytes 8 generation ++ (little_bytes 8 s.count ++ ((names_bytes ns ++ zeros ns) ++ version_byte v ∷ []))) names_is
  where
    grouped : (a b c d e : List ℕ) → ((a ++ b) ++ c) ++ (d ++ e) ≡ a ++ (b ++ ((c ++ d) ++ e))
    grouped a b c d e = simp append_assoc

-- the version byte, put last into a buffer of zeros
pub version_is : (byte end : ℕ) (a0 a1 part : List ℕ) → a0 ≡ replicate 2047 0 → part ≡ byte ∷ [] → end ≡ 2046 + length part → take end a1 ≡ take 2046 a0 ++ part → drop end a1 ≡ drop end a0 → a1 ≡ replicate 2046 0 ++ byte ∷ []
version_is byte end a0 a1 part zeros is offset front rest =
    let none : 2047 - end ≡ 0 = omega (arith, offset, ap length is) in
    sym (take-append-drop end a1)
    ∙ ap (λ (l : List ℕ). l ++ drop end a1) (front ∙ ap (λ (l : List ℕ). take 2046 l ++ part) zeros ∙ ap (λ (l : List ℕ). l ++ part) (take-replicate 2046 2047 0 (omega arith)) ∙ ap (λ (l : List ℕ). replicate 2046 0 ++ l) is)
    ∙ ap (λ (l : List ℕ). (replicate 2046 0 ++ byte ∷ []) ++ l) (rest ∙ ap (drop end) zeros ∙ drop-replicate end 2047 0 ∙ ap (λ (k : ℕ). replicate k 0) none) ∙ append-nil (replicate 2046 0 ++ byte ∷ [])

-- behind three parts the buffer is as it was made
pub rest_is : (n : ℕ) (end a0 a1 a2 a3 : List ℕ) (r1 r2 r3 : ℕ) → r1 ≤ r2 → r2 ≤ r3 → r3 ≤ n → drop r1 a1 ≡ drop r1 a0 → drop r2 a2 ≡ drop r2 a1 → drop r3 a3 ≡ drop r3 a2 → a0 ≡ replicate n 0 ++ end → drop r3 a3 ≡ replicate (n - r3) 0 ++ end
rest_is n end a0 a1 a2 a3 r1 r2 r3 l12 l23 fits e1 e2 e3 is =
    e3 ∙ drop_further r2 r3 a2 a1 l23 e2 ∙ drop_further r1 r3 a1 a0 (omega arith) e1 ∙ ap (drop r3) is ∙ drop-append-le r3 (replicate n 0) end (omega (arith, fits, length-replicate {A = ℕ} n 0)) ∙ ap (λ (l : List ℕ). l ++ end) (drop-replicate r3 n 0)
